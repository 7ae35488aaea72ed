use Rattle.std.proofs.Common.{◌-◌, ◌≤◌}
use Rattle.numbering.specs.Marked.{of_rows}
use Rattle.numbering.specs.Count.{seen, Meets}
use Rattle.numbering.proofs.Count.visit_all.Given as goal

abbrev pub invariant-loop-i : goal.invariant-loop-i
invariant-loop-i l = Meets (λ a xs. of_rows a l.i xs) (seen l.initial.self) (seen l.self) × (l.i ≤ l.self.rows.now.given)

abbrev pub decreases-loop-i : goal.decreases-loop-i
decreases-loop-i l = l.self.rows.now.given - l.i
