use Rattle.machine.proofs.Loads.{accepted, taken_from}
use Rattle.machine.proofs.loads_are_accepted.Goals as goal

pub returns : goal.returns
returns c = λ work ws m L e. (accepted work ws m L e, taken_from work ws m L e)
