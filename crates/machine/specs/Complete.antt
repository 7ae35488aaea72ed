-- What a complete table is.
use Rattle.std.specs.Prelude.{◌≡◌, ℕ, ◌<◌, List, [], Some, None}
use Rattle.machine.specs.Loaded.{Loaded}
use Rattle.machine.specs.State.{cell, landing, State, start}
use Rattle.machine.specs.Walking.{walk, ended}
use Rattle.machine.specs.Checking.{closed, rule_effect, link_effect}
use Rattle.machine.specs.Readings.{Accepted}
use Rattle.machine.specs.Shift.{next, Call, calls}

-- nothing waits, all landings and all cells of living entries are filled, and every check is closed
pub record Complete (L : Loaded) (s : State) : Type 0 where
  pub quiet : s.waiting ≡ []
  pub landed : (k r : ℕ) → k < L.source_kinds → r < L.count k → (w : ℕ) × (s.held (landing k r) ≡ Some w)
  pub defined : (e l : ℕ) → e < s.given → s.forward e ≡ e → l < L.links → s.kind e ≡ L.from l → (w : ℕ) × (s.held (cell e l) ≡ Some w)
  pub links_closed : (i r : ℕ) → i < L.source_links → r < L.count (L.source_from i) → link_effect L s i r ≡ closed
  pub rules_closed : (e i : ℕ) → e < s.given → s.forward e ≡ e → i < L.rules → s.kind e ≡ L.first i → rule_effect L s e i ≡ closed

-- after every list of calls a step finds nothing to do exactly if the table is complete
abbrev pub CompleteWhenDone : Type 0
CompleteWhenDone = (L : Loaded) → Accepted L → (cs : List Call) → (next L (calls L cs start) ≡ None → Complete L (calls L cs start)) × (Complete L (calls L cs start) → next L (calls L cs start) ≡ None)

-- A complete table keeps every rule, and its landings keep step with every source link.
pub record Keeps (L : Loaded) (s : State) : Type 0 where
  pub rules : (e i : ℕ) → e < s.given → s.forward e ≡ e → i < L.rules → s.kind e ≡ L.first i → (a : ℕ) × (walk s.held e (L.left i) ≡ ended a) × (walk s.held e (L.right i) ≡ ended a)
  pub steps : (i r : ℕ) → i < L.source_links → r < L.count (L.source_from i) → (x y : ℕ) → s.held (landing (L.source_from i) r) ≡ Some x → s.held (landing (L.source_to i) (L.lead i r)) ≡ Some y → walk s.held x (L.link_map i) ≡ ended y
