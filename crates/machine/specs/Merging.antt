-- Living ends, and merging two entries.
use Rattle.std.specs.Prelude.{ℕ, zero, suc, cond, [], ◌∷◌, ◌++◌, ◌==◌, nat_lt}
use Rattle.machine.specs.State.{State}

-- The living end.
unfoldable pub chase : (ℕ → ℕ) → ℕ → ℕ → ℕ
chase f zero x = x
chase f (suc n) x = chase f n (f x)

abbrev pub end : State → ℕ → ℕ
end s e = chase s.forward e e

-- The entry h dies, and its forward becomes l.
abbrev pub die : ℕ → ℕ → State → State
die h l s = record { given = s.given; kind = s.kind; forward = λ x. cond (x == h) l (s.forward x); held = s.held; waiting = s.waiting ++ (h ∷ []) }

unfoldable pub meet : ℕ → ℕ → State → State
meet x y s = cond (nat_lt x y) (die y x s) (cond (nat_lt y x) (die x y s) s)

abbrev pub merge : ℕ → ℕ → State → State
merge a b s = meet (end s a) (end s b) s
