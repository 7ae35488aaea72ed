use Rattle.std.proofs.Common.{rules}
use Rattle.rows.specs.View.{raw}
use Rattle.rows.proofs.Outline.{target_ends}
use Rattle.rows.proofs.Rows.link_ends.Goals as goal

pub returns : goal.returns
returns c L st h = let e = target_ends L (raw c.args.self.now) c.args.found.now st c.args.l h in search rules
