use Rattle.std.proofs.Common.{arith}
use Rattle.rows.specs.View.{raw}
use Rattle.numbering.proofs.Restoring.{restored_none, restored_all}
use Rattle.numbering.proofs.restore.Goals as goal

pub loop-i-init : goal.loop-i-init
loop-i-init c = λ a xs m h. restored_none a (raw c.args.rows.now) xs m

pub restore_one-requires : goal.restore_one-requires
restore_one-requires c = let u = c.requires in (u.0, u.1, (c.loop-i.invariant u.0 u.1 u.2 u.3).kept, omega arith)

pub returns : goal.returns
returns c = λ a xs m h. restored_all a (raw c.loop-i.rows) xs c.loop-i.i (omega arith) (c.loop-i.invariant a xs m h)
