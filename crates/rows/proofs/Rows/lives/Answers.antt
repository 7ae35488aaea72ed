use Rattle.std.proofs.Common.{arith}
use Rattle.std.proofs.lemmas.Bool.Decides.{nat_tests}
use Rattle.rows.specs.Layout.{forward_of}
use Rattle.rows.proofs.Rows.lives.Goals as goal

pub returns-then-e-self : goal.returns-then-e-self
unfolding forward_of
returns-then-e-self c = grind (arith, nat_tests)
