-- The whole promise of a table: one statement over every accepted load and every list of calls.
use Rattle.std.specs.Prelude.{◌≡◌, ℕ, ◌<◌, List, take, Some, Ok}
use Rattle.registers.specs.Meaning.{Meaning}
use Rattle.machine.specs.Loaded.{Loaded}
use Rattle.machine.specs.Loading.{load}
use Rattle.machine.specs.State.{cell, landing, State, start}
use Rattle.machine.specs.Readings.{Accepted, OneReading}
use Rattle.machine.specs.Complete.{Keeps}
use Rattle.machine.specs.Shift.{Call, calls}
use Rattle.machine.specs.Finish.{finish_words, finish}

-- the source records and links are those of the source's meaning
pub record TakenFrom (m : Meaning) (L : Loaded) : Type 0 where
  pub kinds : L.source_kinds ≡ m.kinds
  pub links : L.source_links ≡ m.links
  pub counts : L.count ≡ m.count
  pub ends : (i : ℕ) → i < L.source_links → m.ends i ≡ Some (L.source_from i, L.source_to i)
  pub leads : (i r : ℕ) → i < L.source_links → r < L.count (L.source_from i) → m.follow i r ≡ Some (L.lead i r)

-- every source record's landing and every living entry's cells are filled
pub record FilledUp (L : Loaded) (s : State) : Type 0 where
  pub landings : (k r : ℕ) → k < L.source_kinds → r < L.count k → (w : ℕ) × (s.held (landing k r) ≡ Some w)
  pub cells : (e l : ℕ) → e < s.given → s.forward e ≡ e → l < L.links → s.kind e ≡ L.from l → (w : ℕ) × (s.held (cell e l) ≡ Some w)

-- finish accepts a table at some output, and these are the words that it writes there
abbrev pub Finishes : Loaded → State → List ℕ → Type 0
Finishes L s ws = (out : List ℕ) × (n : ℕ) × ((finish L s out).0 ≡ Ok n) × (take n (finish L s out).1 ≡ ws)

pub record Promised (ws : List ℕ) (m : Meaning) (L : Loaded) (s : State) : Type 0 where
  pub source : TakenFrom m L
  -- for every receiving register and every placing, exactly one reading of the numbered entries
  pub one_reading : OneReading L s
  -- what finish accepts is filled, keeps the rules and keeps step
  pub finished : (vs : List ℕ) → Finishes L s vs → FilledUp L s × Keeps L s
  -- and the words are those of the numbering, the same for every other table of the same problem words and source meaning
  pub numbered : (vs : List ℕ) → Finishes L s vs → vs ≡ finish_words L s
  pub same_words : (work : ℕ) (K : Loaded) → load work ws m ≡ Ok K → (ds : List Call) (us vs : List ℕ) → Finishes L s us → Finishes K (calls K ds start) vs → us ≡ vs

-- what load accepts is a well-formed problem and a source that fits it
abbrev pub LoadsAccepted : Type 0
LoadsAccepted = (work : ℕ) (ws : List ℕ) (m : Meaning) (L : Loaded) → load work ws m ≡ Ok L → Accepted L × TakenFrom m L

abbrev pub Promise : Type 0
Promise = (work : ℕ) (ws : List ℕ) (m : Meaning) (L : Loaded) → load work ws m ≡ Ok L → (cs : List Call) → Promised ws m L (calls L cs start)
