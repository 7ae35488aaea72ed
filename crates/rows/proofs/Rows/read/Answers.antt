use Rattle.rows.specs.Layout.{word}
use Rattle.rows.proofs.Rows.read.Goals as goal

pub returns : goal.returns
unfolding word
returns c = rw c.at.ensures.is
