use Rattle.std.proofs.Common.{ap, rules, arith}
use Rattle.rows.specs.View.{raw, slot}
use Rattle.rows.proofs.Places.{landing_placed}
use Rattle.rows.proofs.Rows.place.Goals as goal

pub overflow_add-result : goal.overflow_add-result
overflow_add-result c = let h = landing_placed (raw c.args.self.now) c.args.self.now.fits (slot c.args.t) _ _ (ap slot c.in-Landing.is) c.requires in search rules

pub returns-in-Landing : goal.returns-in-Landing
returns-in-Landing c =
    let h = landing_placed (raw c.args.self.now) c.args.self.now.fits (slot c.args.t) _ _ (ap slot c.in-Landing.is) c.requires in
    let s = c.kind.ensures.start in
    record { is = omega (arith, s, h.0); fits = omega (arith, s, h.1) }
