use Rattle.rows.specs.Sweeps.{renames, in_kinds, Goes, Ranked}
use Rattle.rows.specs.View.{raw}
use Rattle.rows.proofs.Rows.rename_landings.Given as goal

abbrev pub invariant-loop-k : goal.invariant-loop-k
invariant-loop-k l = Goes (raw l.initial.self) (renames (in_kinds (raw l.initial.self).shape l.k)) (raw l.self) × Ranked (raw l.self) l.self.given
