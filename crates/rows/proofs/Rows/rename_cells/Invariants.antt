use Rattle.rows.specs.Sweeps.{renames, in_rows, Goes, Ranked}
use Rattle.rows.specs.View.{raw}
use Rattle.rows.proofs.Rows.rename_cells.Given as goal

abbrev pub invariant-loop-e : goal.invariant-loop-e
invariant-loop-e l = Goes (raw l.initial.self) (renames (in_rows l.e l.initial.self.links)) (raw l.self) × Ranked (raw l.self) l.self.given
