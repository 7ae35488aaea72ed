use Rattle.std.proofs.Common.{Some, sym, ◌∙◌}
use Rattle.machine.specs.State.{cell, hold}
use Rattle.machine.specs.Merging.{merge}
use Rattle.machine.specs.Settling.{take_over}
use Rattle.rows.specs.View.{view}
use Rattle.rows.proofs.Keeps.{becomes_as}
use Rattle.rows.proofs.Settled.{take_empty, take_filled}
use Rattle.rows.proofs.Rows.take_over.Goals as goal

pub returns-in-None : goal.returns-in-None
returns-in-None c = becomes_as _ _ (hold (cell c.args.u c.args.l) (Some c.args.w)) (take_over c.args.u c.args.l c.args.w) c.fill.ensures
    (take_empty (view c.args.self.now) _ _ _ (sym c.cell.ensures ∙ c.in-None.is))

pub returns-in-Some : goal.returns-in-Some
returns-in-Some c = becomes_as _ _ (merge c.in-Some.d c.args.w) (take_over c.args.u c.args.l c.args.w) c.merge.ensures
    (take_filled (view c.args.self.now) _ _ _ _ (sym c.cell.ensures ∙ c.in-Some.is))
