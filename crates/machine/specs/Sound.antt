-- What every table keeps, and which entries are reached.
use Rattle.std.specs.Prelude.{◌≡◌, ℕ, ◌<◌, ◌≤◌, ◌⊎◌, List, [], ◌∷◌, Some, ◌≢◌}
use Rattle.machine.specs.Loaded.{Loaded}
use Rattle.machine.specs.State.{Slot, cell, landing, State}

abbrev pub Mem : ℕ → List ℕ → Type 0
Mem x [] = ⊥
Mem x (y ∷ ys) = (x ≡ y) ⊎ Mem x ys

-- numbered, and living or waiting
pub record InUse (s : State) (x : ℕ) : Type 0 where
  pub below : x < s.given
  pub if_dead : (s.forward x ≢ x) → Mem x s.waiting

abbrev pub Owner : Loaded → State → Slot → Type 0
Owner L s (cell e l) = InUse s e × (l < L.links)
Owner L s (landing k r) = (k < L.source_kinds) × (r < L.count k)

pub record Sound (L : Loaded) (s : State) : Type 0 where
  pub lower : (x : ℕ) → s.forward x ≤ x
  pub fresh : (x : ℕ) → s.given ≤ x → s.forward x ≡ x
  pub dead : (x : ℕ) → Mem x s.waiting → s.forward x ≢ x
  pub used : (t : Slot) (w : ℕ) → s.held t ≡ Some w → InUse s w × Owner L s t

-- An entry is reached from landings by cells and by forwards, taken either way.
pub data Reach (s : State) : ℕ → Type 0 where
  by_landing : {w : ℕ} (k r : ℕ) → s.held (landing k r) ≡ Some w → Reach s w
  by_cell : {w : ℕ} (e l : ℕ) → Reach s e → s.held (cell e l) ≡ Some w → Reach s w
  down : {y : ℕ} (x : ℕ) → Reach s x → s.forward x ≡ y → Reach s y
  up : {x : ℕ} (y : ℕ) → Reach s y → s.forward x ≡ y → Reach s x

-- Kinds: a forward keeps the kind, a cell is of a link that leaves its entry's kind, and a content has the kind that its slot is for.
abbrev pub content_kind : Loaded → Slot → ℕ
content_kind L (cell e l) = L.to l
content_kind L (landing k r) = L.kind_map k

abbrev pub Leaves : Loaded → State → Slot → Type 0
Leaves L s (cell e l) = s.kind e ≡ L.from l
Leaves L s (landing k r) = Unit {0}

pub record Kinds (L : Loaded) (s : State) : Type 0 where
  pub kept : (x : ℕ) → s.kind (s.forward x) ≡ s.kind x
  pub fit : (t : Slot) (w : ℕ) → s.held t ≡ Some w → (s.kind w ≡ content_kind L t) × Leaves L s t
