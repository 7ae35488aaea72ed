use Rattle.machine.specs.Sequence.{of_kind}
use Rattle.rows.specs.Layout.{shown}
use Rattle.numbering.specs.Count.{seen, Meets}
use Rattle.numbering.proofs.Count.meet_kind.Given as goal

abbrev pub invariant-loop-q : goal.invariant-loop-q
invariant-loop-q l = Meets (λ a xs. of_kind (shown a) l.k l.q xs) (seen l.initial.self) (seen l.self)
