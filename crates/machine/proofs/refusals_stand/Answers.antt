use Rattle.machine.proofs.Refused.{refusals_change_nothing}
use Rattle.machine.proofs.refusals_stand.Goals as goal

pub returns : goal.returns
returns c = refusals_change_nothing
