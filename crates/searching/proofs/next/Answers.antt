use Rattle.std.proofs.Common.{◌≡◌, true, ltb, refl, arith}
use Rattle.std.proofs.lemmas.Bool.Decides.{nat_tests}
use Rattle.rows.specs.View.{raw}
use Rattle.rows.proofs.Faults.{waits_told}
use Rattle.searching.proofs.next.Goals as goal

pub returns-then-rows-gt0 : goal.returns-then-rows-gt0
returns-then-rows-gt0 c L h =
    let w : ltb 0 c.args.rows.now.waits ≡ true = grind (arith, nat_tests, c.if-rows-gt0.true) in rw (waits_told (raw c.args.rows.now), w) refl
