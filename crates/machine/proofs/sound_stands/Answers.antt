use Rattle.machine.proofs.Runs.{all_sound}
use Rattle.machine.proofs.sound_stands.Goals as goal

pub returns : goal.returns
returns c = all_sound
