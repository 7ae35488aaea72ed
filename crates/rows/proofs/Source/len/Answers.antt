use Rattle.rows.specs.Sources.{kinds_of}
use Rattle.rows.proofs.Source.len.Goals as goal

pub returns : goal.returns
unfolding kinds_of
returns c = c.len.ensures.is
