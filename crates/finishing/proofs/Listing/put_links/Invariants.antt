use Rattle.std.proofs.Common.{◌≡◌, ◌+◌, length}
use Rattle.registers.specs.Splices.{spliced}
use Rattle.finishing.specs.Records.{appended}
use Rattle.finishing.specs.Written.{link_part}
use Rattle.finishing.specs.Listing.{Each}
use Rattle.finishing.proofs.Listing.put_links.Given as goal

abbrev pub invariant-loop-l : goal.invariant-loop-l
invariant-loop-l l =
    Each l.self (λ L s. l.next ≡ l.at + length (appended (link_part L s) l.l))
    × Each l.self (λ L s. l.out ≡ spliced l.at (appended (link_part L s) l.l) l.initial.out)
