use Rattle.std.proofs.Common.{◌≡◌, ◌+◌}
use Rattle.registers.specs.Splices.{spliced}
use Rattle.machine.specs.Loading.{sum}
use Rattle.rows.specs.Layout.{count}
use Rattle.rows.specs.View.{raw}
use Rattle.finishing.specs.Records.{appended, landing_part}
use Rattle.finishing.specs.Listing.{Each}
use Rattle.finishing.proofs.Listing.put_landings.Given as goal

abbrev pub invariant-loop-k : goal.invariant-loop-k
invariant-loop-k l =
    (l.next ≡ l.at + l.k + sum (count (raw l.self.rows.now).shape) l.k)
    × Each l.self (λ L s. l.out ≡ spliced l.at (appended (λ k. landing_part (raw l.self.rows.now) (L.kind_map k) k) l.k) l.initial.out)
