-- Settling the first waiting entry.
use Rattle.std.specs.Prelude.{ℕ, zero, suc, cond, List, [], ◌∷◌, Some, None, Option, ◌==◌}
use Rattle.machine.specs.Loaded.{Loaded}
use Rattle.machine.specs.State.{cell, State, hold, on}
use Rattle.machine.specs.Merging.{end, merge}

-- Settling. Every slot that holds v now holds u.
abbrev pub swap : ℕ → ℕ → Option ℕ → Option ℕ
swap v u None = None
swap v u (Some w) = Some (cond (w == v) u w)

abbrev pub rehold : ℕ → ℕ → State → State
rehold v u s = record { given = s.given; kind = s.kind; forward = s.forward; held = λ t. swap v u (s.held t); waiting = s.waiting }

unfoldable pub take_over : ℕ → ℕ → ℕ → State → State
take_over u l w s = on (s.held (cell u l)) (hold (cell u l) (Some w) s) (λ d. merge d w s)

unfoldable pub pull : ℕ → ℕ → State → State
pull v l s = on (s.held (cell v l)) s (λ c. take_over (end s v) l (end s c) (hold (cell v l) None s))

unfoldable pub drain : ℕ → ℕ → State → State
drain v zero s = s
drain v (suc n) s = pull v n (drain v n s)

abbrev pub tail : List ℕ → List ℕ
tail [] = []
tail (x ∷ xs) = xs

abbrev pub pop : State → State
pop s = record { given = s.given; kind = s.kind; forward = s.forward; held = s.held; waiting = tail s.waiting }

abbrev pub settled_first : Loaded → State → List ℕ → State
settled_first L s [] = s
settled_first L s (v ∷ vs) = pop (drain v L.links (rehold v (end s v) s))

abbrev pub settled : Loaded → State → State
settled L s = settled_first L s s.waiting
