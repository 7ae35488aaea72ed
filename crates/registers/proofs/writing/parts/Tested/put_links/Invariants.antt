use Rattle.std.proofs.Common.{◌≡◌, ◌+◌, length}
use Rattle.registers.specs.Splices.{spliced}
use Rattle.registers.specs.Parts.{links_words}
use Rattle.registers.proofs.writing.parts.Tested.put_links.Given as goal

abbrev pub invariant-loop-link : goal.invariant-loop-link
invariant-loop-link g l =
    (l.next ≡ l.at + length (links_words (g.R.Register.meaning l.self.register.now) l.link))
    × (l.out ≡ spliced l.at (links_words (g.R.Register.meaning l.self.register.now) l.link) l.initial.out)
