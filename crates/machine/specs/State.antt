-- What a table holds: entries with their kinds and forwards, cells, landings, and who waits.
use Rattle.std.specs.Prelude.{ℕ, suc, Bool, true, false, cond, ◌&&◌, List, [], ◌∷◌, Some, None, Option, ◌==◌, nat_lt}

-- A cell (entry, link) or a landing (source kind, record).
pub data Slot : Type 0 where
  cell : ℕ → ℕ → Slot
  landing : ℕ → ℕ → Slot

-- Outside of what is given: kind 0, an entry's forward is itself, and nothing is held.
pub record State : Type 0 where
  pub given : ℕ
  pub kind : ℕ → ℕ
  pub forward : ℕ → ℕ
  pub held : Slot → Option ℕ
  pub waiting : List ℕ

abbrev pub start : State
start = record { given = 0; kind = λ x. 0; forward = λ x. x; held = λ t. None; waiting = [] }

abbrev pub same : Slot → Slot → Bool
same (cell e l) (cell d k) = e == d && l == k
same (cell e l) (landing k r) = false
same (landing k r) (cell e l) = false
same (landing k r) (landing j q) = k == j && r == q

abbrev pub put : Slot → Option ℕ → (Slot → Option ℕ) → Slot → Option ℕ
put t o h u = cond (same u t) o (h u)

abbrev pub hold : Slot → Option ℕ → State → State
hold t o s = record { given = s.given; kind = s.kind; forward = s.forward; held = put t o s.held; waiting = s.waiting }

abbrev pub on {ℓ} : {A : Type ℓ} → Option ℕ → A → (ℕ → A) → A
on None none some = none
on (Some w) none some = some w

-- A new entry of the kind k fills t.
abbrev pub born : ℕ → Slot → State → State
born k t s = record { given = suc s.given; kind = λ x. cond (x == s.given) k (s.kind x); forward = s.forward; held = put t (Some s.given) s.held; waiting = s.waiting }

-- What a slot holds, whether any waits, and whether an entry lives.
abbrev pub filled : Option ℕ → Bool
filled None = false
filled (Some w) = true

abbrev pub waits : List ℕ → Bool
waits [] = false
waits (x ∷ xs) = true

abbrev pub lives : State → ℕ → Bool
lives s e = nat_lt e s.given && s.forward e == e
