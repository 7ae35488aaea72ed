use Rattle.std.proofs.Common.{arith}
use Rattle.std.proofs.lemmas.Bool.Decides.{nat_tests}
use Rattle.rows.specs.Layout.{kind_of}
use Rattle.rows.proofs.Rows.kind.Goals as goal

pub returns : goal.returns
unfolding kind_of
returns c = grind (arith, nat_tests)
