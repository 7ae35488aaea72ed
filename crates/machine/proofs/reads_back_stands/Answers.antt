use Rattle.machine.proofs.ReadBack.{finish_reads_back}
use Rattle.machine.proofs.reads_back_stands.Goals as goal

pub returns : goal.returns
returns c = finish_reads_back
