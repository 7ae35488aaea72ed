use Rattle.std.proofs.Common.{◌≡◌}
use Rattle.machine.specs.Sweeping.{rank}
use Rattle.rows.specs.Sweeps.{Goes, Ranked}
use Rattle.rows.specs.View.{raw, view}
use Rattle.rows.proofs.Rows.number.Given as goal

abbrev pub invariant-loop-e : goal.invariant-loop-e
invariant-loop-e l = Goes (raw l.initial.self) (λ s. s) (raw l.self) × Ranked (raw l.self) l.e × (l.k ≡ rank (view l.initial.self).forward l.e)
