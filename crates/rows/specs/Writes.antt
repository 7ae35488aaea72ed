-- Words after a run of writes, and a state with one entry more.
use Rattle.std.specs.Prelude.{ℕ, zero, suc, ◌+◌, cond, List, ◌==◌, slice_index, slice_set}
use Rattle.machine.specs.State.{State}
use Rattle.rows.specs.Layout.{Raw, place}

-- f of each of the n words from `at` on, and of each cell of the first n entries
abbrev pub changed : (ℕ → ℕ) → List ℕ → ℕ → ℕ → List ℕ
changed f ws at zero = ws
changed f ws at (suc n) = slice_set (changed f ws at n) (at + n) (f (slice_index (changed f ws at n) (at + n)))

abbrev pub changed_rows : (ℕ → ℕ) → List ℕ → ℕ → ℕ → ℕ → List ℕ
changed_rows f ws base links zero = ws
changed_rows f ws base links (suc n) = changed f (changed_rows f ws base links n) (place base links n 3) links

abbrev pub emptied : ℕ → ℕ
emptied w = 0

-- b in the place of a
abbrev pub swapped : ℕ → ℕ → ℕ → ℕ
swapped a b w = cond (w == a) b w

-- a new entry of the kind k, which no slot holds yet
abbrev pub added : ℕ → State → State
added k s = record { given = suc s.given; kind = λ x. cond (x == s.given) k (s.kind x); forward = s.forward; held = s.held; waiting = s.waiting }

-- the same numbers over other words
abbrev pub over : Raw → List ℕ → Raw
over r ws = record { ws = ws; shape = r.shape; given = r.given; front = r.front; waits = r.waits }
