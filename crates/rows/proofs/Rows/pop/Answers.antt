use Rattle.rows.specs.View.{raw}
use Rattle.rows.proofs.Keeps.{becomes_popped}
use Rattle.rows.proofs.Rows.pop.Goals as goal

pub returns : goal.returns
returns c = becomes_popped (raw c.args.self.now) c.requires.tidy c.requires.waits_nonzero
