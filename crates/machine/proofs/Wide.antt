-- Receivers whose records are any numbers, told by a test and not by a count: what every table keeps is shown over these.
use Rattle.std.proofs.Common.{◌≡◌, ℕ, ◌<◌, Bool, true, Some}
use Rattle.machine.specs.Loaded.{Loaded}
use Rattle.machine.specs.State.{Slot, State}
use Rattle.machine.specs.Readings.{along, worth}
use Rattle.machine.specs.Sound.{Sound, Reach}

-- has k x: x is a record of the kind k
pub record Receiver (L : Loaded) : Type 0 where
  pub has : ℕ → ℕ → Bool
  pub lead : ℕ → ℕ → ℕ
  pub inside : (l x : ℕ) → l < L.links → has (L.from l) x ≡ true → has (L.to l) (lead l x) ≡ true
  pub keeps : (i x : ℕ) → i < L.rules → has (L.first i) x ≡ true → along lead x (L.left i) ≡ along lead x (L.right i)

pub record Placing (L : Loaded) (R : Receiver L) : Type 0 where
  pub at : ℕ → ℕ → ℕ
  pub counted : (k r : ℕ) → k < L.source_kinds → r < L.count k → R.has (L.kind_map k) (at k r) ≡ true
  pub in_step : (i r : ℕ) → i < L.source_links → r < L.count (L.source_from i) → along R.lead (at (L.source_from i) r) (L.link_map i) ≡ at (L.source_to i) (L.lead i r)

pub record Reading (L : Loaded) (R : Receiver L) (P : Placing L R) (s : State) (ρ : ℕ → ℕ) : Type 0 where
  pub counted : (e : ℕ) → e < s.given → R.has (s.kind e) (ρ e) ≡ true
  pub agrees : (t : Slot) (w : ℕ) → s.held t ≡ Some w → ρ w ≡ worth R.lead P.at ρ t
  pub forwards : (e : ℕ) → ρ (s.forward e) ≡ ρ e

pub record Good (L : Loaded) (s : State) : Type 0 where
  pub sound : Sound L s
  pub read : (R : Receiver L) (P : Placing L R) → (ρ : ℕ → ℕ) × Reading L R P s ρ
  pub reached : (e : ℕ) → e < s.given → Reach s e
