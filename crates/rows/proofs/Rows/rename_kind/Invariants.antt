use Rattle.rows.specs.Sweeps.{renames, in_kind, Goes, Ranked}
use Rattle.rows.specs.View.{raw}
use Rattle.rows.proofs.Rows.rename_kind.Given as goal

abbrev pub invariant-loop-q : goal.invariant-loop-q
invariant-loop-q l = Goes (raw l.initial.self) (renames (in_kind l.k l.q)) (raw l.self) × Ranked (raw l.self) l.self.given
