-- Receiving registers, placings, readings.
use Rattle.std.specs.Prelude.{◌≡◌, ℕ, ◌<◌, List, [], ◌∷◌, Some}
use Rattle.machine.specs.Loaded.{Loaded}
use Rattle.machine.specs.State.{Slot, cell, landing, State}

abbrev pub along : (ℕ → ℕ → ℕ) → ℕ → List ℕ → ℕ
along lead x [] = x
along lead x (l ∷ ls) = along lead (lead l x) ls

-- Each link of a path leaves the kind reached; the kind where it ends.
abbrev pub Joins : Loaded → ℕ → List ℕ → Type 0
Joins L k [] = Unit {0}
Joins L k (l ∷ ls) = (l < L.links) × (k ≡ L.from l) × Joins L (L.to l) ls

abbrev pub end_kind : Loaded → ℕ → List ℕ → ℕ
end_kind L k [] = k
end_kind L k (l ∷ ls) = end_kind L (L.to l) ls

-- What load saw to.
pub record Accepted (L : Loaded) : Type 0 where
  pub from_known : (l : ℕ) → l < L.links → L.from l < L.target_kinds
  pub to_known : (l : ℕ) → l < L.links → L.to l < L.target_kinds
  pub map_known : (k : ℕ) → k < L.source_kinds → L.kind_map k < L.target_kinds
  pub from_in : (i : ℕ) → i < L.source_links → L.source_from i < L.source_kinds
  pub to_in : (i : ℕ) → i < L.source_links → L.source_to i < L.source_kinds
  pub lead_in : (i r : ℕ) → i < L.source_links → r < L.count (L.source_from i) → L.lead i r < L.count (L.source_to i)
  pub left_in : (i : ℕ) → i < L.rules → Joins L (L.first i) (L.left i)
  pub right_in : (i : ℕ) → i < L.rules → Joins L (L.first i) (L.right i)
  pub one_end : (i : ℕ) → i < L.rules → end_kind L (L.first i) (L.left i) ≡ end_kind L (L.first i) (L.right i)
  pub map_in : (i : ℕ) → i < L.source_links → Joins L (L.kind_map (L.source_from i)) (L.link_map i)
  pub map_end : (i : ℕ) → i < L.source_links → end_kind L (L.kind_map (L.source_from i)) (L.link_map i) ≡ L.kind_map (L.source_to i)

-- A receiving register: links lead each counted record to a counted one, and both sides of each rule lead from each counted record of its first kind to one record.
pub record Receiver (L : Loaded) : Type 0 where
  pub count : ℕ → ℕ
  pub lead : ℕ → ℕ → ℕ
  pub inside : (l x : ℕ) → l < L.links → x < count (L.from l) → lead l x < count (L.to l)
  pub keeps : (i x : ℕ) → i < L.rules → x < count (L.first i) → along lead x (L.left i) ≡ along lead x (L.right i)

pub record Placing (L : Loaded) (R : Receiver L) : Type 0 where
  pub at : ℕ → ℕ → ℕ
  pub counted : (k r : ℕ) → k < L.source_kinds → r < L.count k → at k r < R.count (L.kind_map k)
  pub in_step : (i r : ℕ) → i < L.source_links → r < L.count (L.source_from i) → along R.lead (at (L.source_from i) r) (L.link_map i) ≡ at (L.source_to i) (L.lead i r)

-- What the content of a slot should be read as.
abbrev pub worth : (ℕ → ℕ → ℕ) → (ℕ → ℕ → ℕ) → (ℕ → ℕ) → Slot → ℕ
worth lead at ρ (cell e l) = lead l (ρ e)
worth lead at ρ (landing k r) = at k r

pub record Reading (L : Loaded) (R : Receiver L) (P : Placing L R) (s : State) (ρ : ℕ → ℕ) : Type 0 where
  pub counted : (e : ℕ) → e < s.given → ρ e < R.count (s.kind e)
  pub agrees : (t : Slot) (w : ℕ) → s.held t ≡ Some w → ρ w ≡ worth R.lead P.at ρ t
  pub forwards : (e : ℕ) → ρ (s.forward e) ≡ ρ e

-- Exactly one reading.
abbrev pub OneReading : Loaded → State → Type 0
OneReading L s = (R : Receiver L) (P : Placing L R) → record {
  some : (ρ : ℕ → ℕ) × Reading L R P s ρ;
  only : (ρ σ : ℕ → ℕ) → Reading L R P s ρ → Reading L R P s σ → (e : ℕ) → e < s.given → ρ e ≡ σ e;
}
