use Rattle.numbering.specs.Marked.{of_kinds}
use Rattle.numbering.specs.Count.{seen, Meets}
use Rattle.numbering.proofs.Count.meet_landings.Given as goal

abbrev pub invariant-loop-k : goal.invariant-loop-k
invariant-loop-k l = Meets (λ a xs. of_kinds a l.k xs) (seen l.initial.self) (seen l.self)
