use Rattle.rows.specs.View.{raw}
use Rattle.std.proofs.Common.{arith}
use Rattle.rows.proofs.Writes.{changed_part}
use Rattle.rows.proofs.Reheld.{lands_in, becomes_replaced}
use Rattle.rows.proofs.Rows.replace.Goals as goal

pub returns : goal.returns
returns c =
    let t = c.args.self.now in
    let z = raw c.swap_rows.new.self in
    let part = changed_part z.ws _ _ _ z.shape.records (lands_in (raw t) c.requires.tidy c.args.v c.args.u z c.swap_rows.ensures) (omega arith) _ c.swap.ensures in
    becomes_replaced (raw t) c.requires.tidy c.args.v c.args.u z c.swap_rows.ensures _ part c.requires.u_lt_given
