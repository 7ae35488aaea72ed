use Rattle.rows.specs.View.{raw, slot}
use Rattle.rows.proofs.Keeps.{becomes_filled}
use Rattle.rows.proofs.Rows.fill.Goals as goal

pub returns : goal.returns
returns c = becomes_filled (raw c.args.self.now) c.requires.tidy (slot c.args.t) c.requires.has _ _ c.place-at.ensures.is c.requires.v_lt_given
