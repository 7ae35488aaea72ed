use Rattle.std.proofs.Common.{arith}
use Rattle.machine.specs.Sequence.{of_cells}
use Rattle.rows.specs.Layout.{shown}
use Rattle.numbering.specs.Count.{seen}
use Rattle.numbering.proofs.Growing.{meets_then, meets_to, cells_none, cells_more}
use Rattle.numbering.proofs.Count.meet_cells.Goals as goal

pub loop-l-init : goal.loop-l-init
loop-l-init c = cells_none (seen c.args.self.now) c.args.e

pub loop-l-preserved : goal.loop-l-preserved
loop-l-preserved c = meets_then _ _ _ c.loop-l.invariant c.meet.ensures (cells_more c.args.e c.loop-l.l)

pub returns : goal.returns
returns c = meets_to (λ a l xs. of_cells (shown a) c.args.e l xs) c.loop-l.l (λ h. h.links) (omega arith) c.loop-l.invariant
