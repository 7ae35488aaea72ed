use Rattle.machine.proofs.Worked.{worked}
use Rattle.machine.proofs.worked_stands.Goals as goal

pub returns : goal.returns
returns c = worked
