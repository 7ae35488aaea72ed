use Rattle.std.proofs.Common.{◌≡◌, ◌*◌, ◌≤◌, length}
use Rattle.finishing.specs.Records.{appended}
use Rattle.finishing.specs.Written.{link_part}
use Rattle.finishing.specs.Listing.{Each}
use Rattle.finishing.proofs.Listing.links_size.Given as goal

abbrev pub invariant-loop-l : goal.invariant-loop-l
invariant-loop-l l =
    Each l.self (λ L s. l.total ≡ length (appended (link_part L s) l.l)) × (l.total ≤ l.l * 4294967296)
