use Rattle.std.proofs.Common.{refl}
use Rattle.vectors.specs.Loose.{loose_lawful}
use Rattle.vectors.proofs.loose.LooseRegister.kinds.Goals as goal

pub returns : goal.returns
returns c = record { answer = refl; lawful = loose_lawful _ _ _ _ _ _ }
