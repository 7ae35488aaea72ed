use Rattle.std.proofs.Common.{rules}
use Rattle.rows.specs.View.{raw}
use Rattle.rows.proofs.Shown.{waits_are}
use Rattle.table.proofs.table.Table.waiting.Goals as goal

pub returns : goal.returns
returns c = let e = waits_are (raw c.args.self.now.rows) in search rules
