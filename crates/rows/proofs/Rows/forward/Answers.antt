use Rattle.std.proofs.Common.{arith}
use Rattle.std.proofs.lemmas.Bool.Decides.{nat_tests}
use Rattle.rows.specs.Layout.{forward_of}
use Rattle.rows.proofs.Rows.forward.Goals as goal

pub returns : goal.returns
unfolding forward_of
returns c = grind (arith, nat_tests)
