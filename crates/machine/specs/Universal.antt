-- The finished register is the universal receiver.
use Rattle.std.specs.Prelude.{◌≡◌, ℕ, ◌<◌, List}
use Rattle.register_files.specs.Layout.{layout}
use Rattle.machine.specs.Loaded.{Loaded}
use Rattle.machine.specs.State.{State, start}
use Rattle.machine.specs.Readings.{Accepted, Receiver, Placing}
use Rattle.machine.specs.Shift.{Call, calls}
use Rattle.machine.specs.Complete.{Complete}
use Rattle.machine.specs.Finish.{count_of, lead_of, at_of, register_file, finish_words}

-- A map of receivers gives each counted record of a kind a counted record of that kind; it keeps step with the links and takes one placing to the other.
pub record Maps (L : Loaded) (R : Receiver L) (P : Placing L R) (S : Receiver L) (Q : Placing L S) (h : ℕ → ℕ → ℕ) : Type 0 where
  pub counted : (k x : ℕ) → x < R.count k → h k x < S.count k
  pub in_step : (l x : ℕ) → l < L.links → x < R.count (L.from l) → h (L.to l) (R.lead l x) ≡ S.lead l (h (L.from l) x)
  pub placed : (k r : ℕ) → k < L.source_kinds → r < L.count k → h (L.kind_map k) (P.at k r) ≡ Q.at k r

-- From R with its placing there is exactly one map to each receiver with a placing.
abbrev pub Universal : (L : Loaded) (R : Receiver L) → Placing L R → Type 0
Universal L R P = (S : Receiver L) (Q : Placing L S) → record {
  some : (h : ℕ → ℕ → ℕ) × Maps L R P S Q h;
  only : (g h : ℕ → ℕ → ℕ) → Maps L R P S Q g → Maps L R P S Q h → (k x : ℕ) → x < R.count k → g k x ≡ h k x;
}

-- What the numbering gives is a receiver with a placing, universal, and finish writes its words.
pub record Extends (L : Loaded) (s : State) : Type 0 where
  pub register : Receiver L
  pub placing : Placing L register
  pub counts : register.count ≡ count_of L s
  pub leads : register.lead ≡ lead_of L s
  pub places : placing.at ≡ at_of L s
  pub writes : finish_words L s ≡ layout (register_file L register.count register.lead placing.at)
  pub universal : Universal L register placing

abbrev pub FinishExtends : Type 0
FinishExtends = (L : Loaded) → Accepted L → (cs : List Call) → Complete L (calls L cs start) → Extends L (calls L cs start)
