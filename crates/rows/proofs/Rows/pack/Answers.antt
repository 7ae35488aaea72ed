use Rattle.std.proofs.Common.{◌+◌, cond, eqb, sym, ap, ◌∙◌, arith}
use Rattle.machine.specs.State.{State}
use Rattle.machine.proofs.Ranks.{rank_small}
use Rattle.rows.specs.Sweeps.{packed}
use Rattle.rows.specs.View.{raw, view}
use Rattle.rows.proofs.SweepStates.{rank_none, packed_none, packed_more}
use Rattle.rows.proofs.SweepSteps.{goes_none, goes_then}
use Rattle.rows.proofs.Rows.pack.Goals as goal

pub loop-e-init : goal.loop-e-init
loop-e-init c = let s = view c.args.self.now in (goes_none (raw c.args.self.now) (packed 0) c.requires (packed_none s), sym (rank_none s.forward))

pub pack_one-k-requires : goal.pack_one-k-requires
pack_one-k-requires c =
    let i = c.loop-e.invariant in
    let n = ap (λ (s : State). s.given) i.0.state in
    record { still = i.0.still; e_lt_given = omega arith; k_le_e = omega (arith, rank_small (view c.args.self.now).forward c.loop-e.e, i.1) }

pub loop-e-preserved : goal.loop-e-preserved
loop-e-preserved c =
    let i = c.loop-e.invariant in
    let o = c.pack_one-k.ensures in
    let e = c.loop-e.e in
    let k = c.loop-e.k in
    let m = packed_more (view c.args.self.now) e k i.1 (omega arith) in (
      goes_then (raw c.args.self.now) (raw c.loop-e.self) (raw c.pack_one-k.new.self) _ _ _ i.0 o.goes m.1,
      o.is ∙ ap (λ (s : State). cond (eqb (s.forward e) e) (k + 1) k) i.0.state ∙ m.0,
    )
