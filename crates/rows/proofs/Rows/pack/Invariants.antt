use Rattle.std.proofs.Common.{◌≡◌}
use Rattle.machine.specs.Sweeping.{rank}
use Rattle.rows.specs.Sweeps.{packed, Goes}
use Rattle.rows.specs.View.{raw, view}
use Rattle.rows.proofs.Rows.pack.Given as goal

abbrev pub invariant-loop-e : goal.invariant-loop-e
invariant-loop-e l = Goes (raw l.initial.self) (packed l.e) (raw l.self) × (l.k ≡ rank (view l.initial.self).forward l.e)
