use Rattle.register_files.proofs.Layouts.{reads_layouts}
use Rattle.register_files.proofs.read_register.Goals as goal

pub returns : goal.returns
returns c = record { told = c.outlined.ensures; laid = reads_layouts }
