use Rattle.rows.specs.View.{raw}
use Rattle.numbering.proofs.Restoring.{slot_room, entry_room, restored_more}
use Rattle.numbering.proofs.restore_one.Goals as goal

pub read-e-requires-clause-e_lt_capacity : goal.read-e-requires-clause-e_lt_capacity
read-e-requires-clause-e_lt_capacity c = let u = c.requires in slot_room u.0 (raw c.args.rows.now) u.1 u.2 c.args.i u.3

pub at-at-requires-clause-e_lt_capacity : goal.at-at-requires-clause-e_lt_capacity
at-at-requires-clause-e_lt_capacity c = let u = c.requires in entry_room u.0 (raw c.args.rows.now) u.1 u.2 c.args.i u.3 c.read-e.result c.read-e.ensures

pub returns : goal.returns
returns c = λ a xs h r. restored_more a (raw c.args.rows.now) xs c.args.i h r c.read-e.result c.read-e.ensures c.at-at.result c.at-at.ensures.is
