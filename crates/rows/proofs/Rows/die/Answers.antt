use Rattle.std.proofs.Common.{arith}
use Rattle.rows.specs.View.{raw}
use Rattle.rows.proofs.Keeps.{becomes_dead, wait_room}
use Rattle.rows.proofs.Rows.die.Goals as goal

pub at-slot-requires : goal.at-slot-requires
at-slot-requires c = record { e_lt_capacity = wait_room (raw c.args.self.now) c.requires.tidy c.args.v c.args.u c.requires.v_lt_given c.requires.u_lt_v c.requires.v_lives; j_bound = omega arith }

pub returns : goal.returns
returns c = becomes_dead (raw c.args.self.now) c.requires.tidy c.args.v c.args.u c.requires.v_lt_given c.requires.u_lt_v c.requires.v_lives _ _ c.at-at.ensures.is c.at-slot.ensures.is
