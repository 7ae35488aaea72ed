use Rattle.machine.proofs.Lost.{never_lost}
use Rattle.machine.proofs.never_lost_stands.Goals as goal

pub returns : goal.returns
returns c = never_lost
