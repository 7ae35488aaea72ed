use Rattle.std.proofs.Common.{sym, refl, arith}
use Rattle.rows.specs.View.{raw, view}
use Rattle.rows.proofs.SweepStates.{rank_none}
use Rattle.rows.proofs.SweepSteps.{goes_none}
use Rattle.rows.proofs.Rows.number.Goals as goal

pub loop-e-init : goal.loop-e-init
loop-e-init c = (goes_none (raw c.args.self.now) (λ s. s) c.requires refl, (λ e h. absurd (omega arith)), sym (rank_none (view c.args.self.now).forward))
