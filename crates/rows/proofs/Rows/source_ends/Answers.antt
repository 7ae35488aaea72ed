use Rattle.std.proofs.Common.{rules}
use Rattle.rows.specs.View.{raw}
use Rattle.rows.proofs.Outline.{source_ends}
use Rattle.rows.proofs.Rows.source_ends.Goals as goal

pub returns : goal.returns
returns c L st h = let e = source_ends L (raw c.args.self.now) c.args.found.now st c.args.i h in search rules
