use Rattle.registers.specs.Laws.{blank_lawful}
use Rattle.registers.proofs.blank.BlankRegister.kinds.Goals as goal

pub returns : goal.returns
returns g c = record { answer = c.kinds.ensures.answer; lawful = blank_lawful _ c.kinds.ensures.lawful }
