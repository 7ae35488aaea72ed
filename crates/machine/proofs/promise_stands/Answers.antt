use Rattle.machine.proofs.Promised.{promise}
use Rattle.machine.proofs.promise_stands.Goals as goal

pub returns : goal.returns
returns c = promise
