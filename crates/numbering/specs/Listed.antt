-- The numbering of finish in the work words: the i-th entry of the sequence stands in the slot of entry number i, and in the place of an entry's forward
-- stands its number within its kind, which is put above every entry number.
use Rattle.std.specs.Prelude.{◌≡◌, ℕ, ◌+◌, ◌<◌, ◌≤◌, List, length, Some, slice_index}
use Rattle.machine.specs.Loaded.{Loaded}
use Rattle.machine.specs.State.{cell, landing, State}
use Rattle.machine.specs.Sequence.{nth, sequence}
use Rattle.machine.specs.Finish.{number, count_of}
use Rattle.rows.specs.Layout.{Raw, Fits, shown, word}

-- the words b list the numbering of the complete table s, which has met so many entries and counted them by kinds
pub record Listed (L : Loaded) (s : State) (b : Raw) (met : ℕ) (counts : List ℕ) : Type 0 where
  pub fits : Fits b
  pub given : b.given ≡ s.given
  pub kinds : (shown b).kind ≡ s.kind
  pub held : (shown b).held ≡ s.held
  pub size : met ≡ length (sequence L s)
  pub room : met ≤ b.given
  pub slots : (i : ℕ) → i < met → nth (sequence L s) i ≡ Some (word b.ws b.shape.base b.shape.links i 2)
  pub known : (i e : ℕ) → nth (sequence L s) i ≡ Some e → e < b.given
  pub numbers : (i e : ℕ) → nth (sequence L s) i ≡ Some e → word b.ws b.shape.base b.shape.links e 1 ≡ 65536 + number L s e
  pub counted : (k : ℕ) → k < L.target_kinds → slice_index counts k ≡ count_of L s k
  pub few : (k : ℕ) → count_of L s k ≤ b.shape.capacity
  -- every landing, and every cell of an entry in the sequence, is filled with an entry in the sequence
  pub landed : (k r : ℕ) → k < L.source_kinds → r < L.count k → (w : ℕ) × (s.held (landing k r) ≡ Some w) × ((i : ℕ) × (nth (sequence L s) i ≡ Some w))
  pub defined : (j e l : ℕ) → nth (sequence L s) j ≡ Some e → l < L.links → s.kind e ≡ L.from l → (w : ℕ) × (s.held (cell e l) ≡ Some w) × ((i : ℕ) × (nth (sequence L s) i ≡ Some w))
