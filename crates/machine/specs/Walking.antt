-- Walking a path through filled cells.
use Rattle.std.specs.Prelude.{ℕ, List, [], ◌∷◌, length, Option}
use Rattle.machine.specs.State.{Slot, cell, on}

-- A walk ends at an entry, or stops before an empty slot with so many steps left behind that slot.
pub data Walked : Type 0 where
  ended : ℕ → Walked
  stopped : Slot → ℕ → Walked

unfoldable pub walk : (Slot → Option ℕ) → ℕ → List ℕ → Walked
walk h e [] = ended e
walk h e (l ∷ ls) = on (h (cell e l)) (stopped (cell e l) (length ls)) (λ w. walk h w ls)

abbrev pub walk_in : (Slot → Option ℕ) → Slot → List ℕ → Walked
walk_in h t ls = on (h t) (stopped t (length ls)) (λ w. walk h w ls)
