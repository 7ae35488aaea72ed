use Rattle.std.proofs.Common.{sym}
use Rattle.rows.specs.View.{view, slot}
use Rattle.rows.proofs.Walks.{step_filled}
use Rattle.rows.proofs.Rows.step.Goals as goal

pub returns-in-Some : goal.returns-in-Some
returns-in-Some c = step_filled (view c.args.self.now).held (slot c.args.t) c.in-Some.x (sym c.in-Some.ensures)
