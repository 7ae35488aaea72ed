use Rattle.rows.specs.Sweeps.{renames, in_row, Goes, Ranked}
use Rattle.rows.specs.View.{raw}
use Rattle.rows.proofs.Rows.rename_row.Given as goal

abbrev pub invariant-loop-l : goal.invariant-loop-l
invariant-loop-l l = Goes (raw l.initial.self) (renames (in_row l.e l.l)) (raw l.self) × Ranked (raw l.self) l.self.given
