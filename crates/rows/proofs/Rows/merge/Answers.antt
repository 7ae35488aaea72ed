use Rattle.machine.specs.Merging.{die, merge}
use Rattle.rows.specs.View.{raw, view}
use Rattle.rows.proofs.Keeps.{becomes_as, becomes_none}
use Rattle.rows.proofs.Settled.{end_is, merge_first, merge_second, merge_same}
use Rattle.rows.proofs.Rows.merge.Goals as goal

pub die-requires : goal.die-requires
die-requires c =
    let e = end_is (view c.args.self.now) c.requires.tidy.lower c.args.b c.living_end-y.result c.living_end-y.ensures c.requires.b_lt_given in
    record { tidy = c.requires.tidy; v_lt_given = e.0; u_lt_v = c.if-x-y.true; v_lives = e.1 }

pub die-requires-then-y-x : goal.die-requires-then-y-x
die-requires-then-y-x c =
    let e = end_is (view c.args.self.now) c.requires.tidy.lower c.args.a c.living_end-x.result c.living_end-x.ensures c.requires.a_lt_given in
    record { tidy = c.requires.tidy; v_lt_given = e.0; u_lt_v = c.if-y-x.true; v_lives = e.1 }

pub returns-then-x-y : goal.returns-then-x-y
returns-then-x-y c = becomes_as _ _ (die c.living_end-y.result c.living_end-x.result) (merge c.args.a c.args.b) c.die.ensures
    (merge_first (view c.args.self.now) _ _ _ _ c.living_end-x.ensures c.living_end-y.ensures c.if-x-y.true)

pub returns-then-y-x : goal.returns-then-y-x
returns-then-y-x c = becomes_as _ _ (die c.living_end-x.result c.living_end-y.result) (merge c.args.a c.args.b) c.die-then-y-x.ensures
    (merge_second (view c.args.self.now) _ _ _ _ c.living_end-x.ensures c.living_end-y.ensures c.if-y-x.true)

pub returns-else-y-x : goal.returns-else-y-x
returns-else-y-x c = becomes_as _ _ (λ s. s) (merge c.args.a c.args.b) (becomes_none (raw c.args.self.now) c.requires.tidy)
    (merge_same (view c.args.self.now) _ _ _ _ c.living_end-x.ensures c.living_end-y.ensures c.if-y-x.false c.if-x-y.false)
