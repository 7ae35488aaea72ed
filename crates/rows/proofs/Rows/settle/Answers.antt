use Rattle.std.proofs.Common.{arith}
use Rattle.rows.specs.View.{raw, view}
use Rattle.rows.proofs.Settled.{end_is, still_waits, becomes_settled}
use Rattle.rows.proofs.Rows.settle.Goals as goal

pub replace-requires : goal.replace-requires
replace-requires c =
    record { tidy = c.requires.tidy; v_lt_given = omega (arith, c.first-v.ensures); u_lt_given = (end_is (view c.args.self.now) c.requires.tidy.lower c.first-v.result c.living_end-u.result c.living_end-u.ensures (omega (arith, c.first-v.ensures))).0 }

pub pop-requires : goal.pop-requires
pop-requires c = record { tidy = c.drain.ensures.tidy; waits_nonzero = still_waits (raw c.args.self.now) (raw c.replace.new.self) _ c.first-v.result c.living_end-u.result c.replace.ensures c.drain.ensures c.requires.waits_nonzero }

pub returns : goal.returns
returns c = becomes_settled (raw c.args.self.now) (raw c.replace.new.self) (raw c.drain.new.self) c.first-v.result c.living_end-u.result c.replace.ensures c.drain.ensures c.requires.waits_nonzero _ c.pop.ensures
    c.first-v.ensures c.living_end-u.ensures
