use Rattle.rows.specs.View.{raw, slot}
use Rattle.rows.proofs.Keeps.{becomes_empty}
use Rattle.rows.proofs.Rows.empty.Goals as goal

pub returns : goal.returns
returns c = becomes_empty (raw c.args.self.now) c.requires.tidy (slot c.args.t) c.requires.has _ c.place-at.ensures.is
