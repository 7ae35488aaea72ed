use Rattle.std.proofs.Common.{refl}
use Rattle.registers.specs.Laws.{wheel_lawful}
use Rattle.registers.proofs.wheel.calls.WheelRegister.kinds.Goals as goal

pub returns : goal.returns
returns c = record { answer = refl; lawful = wheel_lawful _ _ }
