use Rattle.std.proofs.Common.{ap, ◌∙◌, add-one, arith}
use Rattle.machine.specs.State.{State}
use Rattle.machine.specs.Settling.{pull, drain}
use Rattle.rows.specs.Layout.{Shape}
use Rattle.rows.specs.View.{raw, view}
use Rattle.rows.proofs.Keeps.{becomes_as, becomes_then, becomes_none}
use Rattle.rows.proofs.Settled.{drain_on, drain_none, drain_more}
use Rattle.rows.proofs.Rows.drain.Goals as goal

pub loop-l-init : goal.loop-l-init
loop-l-init c = becomes_as _ _ (λ s. s) (drain c.args.v 0) (becomes_none (raw c.args.self.now) c.requires.tidy) (drain_none (view c.args.self.now) c.args.v)

pub pull-requires : goal.pull-requires
pull-requires c =
    let n = ap (λ (s : State). s.given) c.loop-l.invariant.state ∙ (drain_on (view c.args.self.now) c.args.v c.loop-l.l).given in
    let l = ap (λ (z : Shape). z.links) c.loop-l.invariant.same.shape in
    record { tidy = c.loop-l.invariant.tidy; v_lt_given = omega arith; l_lt_links = omega arith }

pub loop-l-preserved : goal.loop-l-preserved
loop-l-preserved c =
    let f = drain c.args.v c.loop-l.l in
    let g = pull c.args.v c.loop-l.l in
    rw add-one (becomes_as _ _ (λ s. g (f s)) (drain c.args.v _) (becomes_then _ _ _ f g c.loop-l.invariant c.pull.ensures) (drain_more (view c.args.self.now) c.args.v c.loop-l.l))
