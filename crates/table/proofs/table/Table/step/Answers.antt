use Rattle.searching.specs.Tasks.{op_of}
use Rattle.table.specs.Tabled.{view_of}
use Rattle.table.proofs.Promises.{left}
use Rattle.table.proofs.Stepped.{ended, gone}
use Rattle.table.proofs.table.Table.step.Goals as goal

pub returns-in-Err : goal.returns-in-Err
returns-in-Err c = left c.args.self.now (ended c.args.shift.left c.args.shift.done (view_of c.args.self.now) c.in-Err.ending c.in-Err.ensures)

pub returns-in-Ok-clause-after : goal.returns-in-Ok-clause-after
returns-in-Ok-clause-after c = gone c.args.shift.left c.args.shift.done (view_of c.args.self.now) (op_of c.in-Ok.task) c.in-Ok.ensures _ c.carry_out.ensures.after
