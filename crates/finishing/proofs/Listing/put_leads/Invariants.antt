use Rattle.std.proofs.Common.{◌≡◌, ◌+◌, length}
use Rattle.registers.specs.Splices.{spliced}
use Rattle.rows.specs.View.{raw}
use Rattle.finishing.specs.Records.{appended, lead_word}
use Rattle.finishing.proofs.Listing.put_leads.Given as goal

abbrev pub invariant-loop-i : goal.invariant-loop-i
invariant-loop-i l =
    (l.next ≡ l.at + length (appended (lead_word (raw l.self.rows.now) l.from l.link) l.i))
    × (l.out ≡ spliced l.at (appended (lead_word (raw l.self.rows.now) l.from l.link) l.i) l.initial.out)
