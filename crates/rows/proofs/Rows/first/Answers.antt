use Rattle.std.proofs.Common.{◌∙◌}
use Rattle.rows.specs.View.{raw}
use Rattle.rows.proofs.Shown.{first_waits}
use Rattle.rows.proofs.Rows.first.Goals as goal

pub returns : goal.returns
returns c = c.read.ensures ∙ first_waits (raw c.args.self.now) c.requires.waits_nonzero
