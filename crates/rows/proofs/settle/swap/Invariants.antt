use Rattle.std.proofs.Common.{◌≡◌, ℕ, cond, ltb, get_or}
use Rattle.rows.specs.Writes.{swapped}
use Rattle.rows.proofs.settle.swap.Given as goal

abbrev pub invariant-loop-w : goal.invariant-loop-w
invariant-loop-w l = (i : ℕ) → get_or l.words i 0 ≡ cond (ltb i l.w-index) (swapped l.old l.new (get_or l.initial.words i 0)) (get_or l.initial.words i 0)
