use Rattle.machine.proofs.Lost.{nothing_lost}
use Rattle.machine.proofs.nothing_lost_stands.Goals as goal

pub returns : goal.returns
returns c = nothing_lost
