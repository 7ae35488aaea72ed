-- The sequence in which finish meets the entries of a table.
use Rattle.std.specs.Prelude.{◌≡◌, ℕ, zero, suc, ◌<◌, Bool, false, cond, ◌||◌, List, [], ◌∷◌, ◌++◌, Some, None, Option, ◌==◌}
use Rattle.machine.specs.Loaded.{Loaded}
use Rattle.machine.specs.State.{cell, landing, State, start, on}
use Rattle.machine.specs.Readings.{Accepted}
use Rattle.machine.specs.Shift.{Call, calls}

unfoldable pub member : ℕ → List ℕ → Bool
member x [] = false
member x (y ∷ ys) = x == y || member x ys

unfoldable pub nth : List ℕ → ℕ → Option ℕ
nth [] i = None
nth (x ∷ xs) zero = Some x
nth (x ∷ xs) (suc i) = nth xs i

-- at first meeting
abbrev pub met : ℕ → List ℕ → List ℕ
met x xs = cond (member x xs) xs (xs ++ (x ∷ []))

abbrev pub met_in : Option ℕ → List ℕ → List ℕ
met_in o xs = on o xs (λ w. met w xs)

unfoldable pub of_kind : State → ℕ → ℕ → List ℕ → List ℕ
of_kind s k zero xs = xs
of_kind s k (suc r) xs = met_in (s.held (landing k r)) (of_kind s k r xs)

unfoldable pub of_landings : Loaded → State → ℕ → List ℕ
of_landings L s zero = []
of_landings L s (suc k) = of_kind s k (L.count k) (of_landings L s k)

unfoldable pub of_cells : State → ℕ → ℕ → List ℕ → List ℕ
of_cells s e zero xs = xs
of_cells s e (suc l) xs = met_in (s.held (cell e l)) (of_cells s e l xs)

abbrev pub visit : Loaded → State → ℕ → List ℕ → List ℕ
visit L s n xs = on (nth xs n) xs (λ e. of_cells s e L.links xs)

unfoldable pub grown : Loaded → State → ℕ → List ℕ
grown L s zero = of_landings L s L.source_kinds
grown L s (suc n) = visit L s n (grown L s n)

abbrev pub sequence : Loaded → State → List ℕ
sequence L s = grown L s s.given

-- Where nothing waits, the sequence has each living entry at exactly one place, and nothing else.
pub record Numbers (L : Loaded) (s : State) : Type 0 where
  pub each : (e : ℕ) → e < s.given → s.forward e ≡ e → (i : ℕ) × (nth (sequence L s) i ≡ Some e)
  pub once : (i j e : ℕ) → nth (sequence L s) i ≡ Some e → nth (sequence L s) j ≡ Some e → i ≡ j
  pub only : (i e : ℕ) → nth (sequence L s) i ≡ Some e → (e < s.given) × (s.forward e ≡ e)

abbrev pub AllNumbered : Type 0
AllNumbered = (L : Loaded) → Accepted L → (cs : List Call) → (calls L cs start).waiting ≡ [] → Numbers L (calls L cs start)
