use Rattle.machine.specs.Sequence.{of_cells}
use Rattle.rows.specs.Layout.{shown}
use Rattle.numbering.specs.Count.{seen, Meets}
use Rattle.numbering.proofs.Count.meet_cells.Given as goal

abbrev pub invariant-loop-l : goal.invariant-loop-l
invariant-loop-l l = Meets (λ a xs. of_cells (shown a) l.e l.l xs) (seen l.initial.self) (seen l.self)
