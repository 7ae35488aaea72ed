use Rattle.std.proofs.Common.{◌∙◌, arith}
use Rattle.machine.proofs.Ranks.{rank_small}
use Rattle.rows.specs.View.{view}
use Rattle.rows.proofs.Faults.{living_counted}
use Rattle.rows.proofs.Rows.living.Goals as goal

pub overflow_cast-result : goal.overflow_cast-result
overflow_cast-result c =
    let t = c.args.self.now in
    omega (arith, c.count_living.ensures, living_counted (view t), rank_small (view t).forward t.given, t.fits.few, t.fits.small)

pub returns : goal.returns
returns c = c.count_living.ensures ∙ living_counted (view c.args.self.now)
