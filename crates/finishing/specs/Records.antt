-- The record words of links and landings, by the words of a table whose numbering is listed.
use Rattle.std.specs.Prelude.{◌≡◌, ℕ, zero, suc, ◌+◌, ◌-◌, ◌*◌, ◌<◌, ◌≤◌, cond, List, [], ◌∷◌, ◌++◌, map, Some, ◌==◌}
use Rattle.words.specs.declared.tags.Tag.TheVariants as tag
use Rattle.words.specs.Tags.{tagged}
use Rattle.registers.specs.Writing.{upto}
use Rattle.machine.specs.State.{Slot, cell, landing, on}
use Rattle.rows.specs.Layout.{Raw, count, shown, word}

-- f 0, f 1 and so on, n of them, one behind another
unfoldable pub appended : (ℕ → List ℕ) → ℕ → List ℕ
appended f zero = []
appended f (suc n) = appended f n ++ f n

-- the i-th entry of the sequence, and the number of an entry above every entry number
abbrev pub nth_entry : Raw → ℕ → ℕ
nth_entry b i = word b.ws b.shape.base b.shape.links i 2

abbrev pub mark : Raw → ℕ → ℕ
mark b e = word b.ws b.shape.base b.shape.links e 1

-- the number of the entry that a slot holds
abbrev pub number_in : Raw → Slot → ℕ
number_in b t = on ((shown b).held t) 0 (λ w. mark b w - 65536)

-- what a slot holds has a number
abbrev pub Numbered : Raw → Slot → Type 0
Numbered b t = (w : ℕ) → (shown b).held t ≡ Some w → (w < b.given) × (65536 ≤ mark b w) × (mark b w < 131072)

-- the record word of the i-th entry at a link, if it has the kind that the link leaves
unfoldable pub lead_word : Raw → ℕ → ℕ → ℕ → List ℕ
lead_word b from l i = cond ((shown b).kind (nth_entry b i) == from) (tagged tag.Record (number_in b (cell (nth_entry b i) l)) ∷ []) []

-- the first n of the sequence are entries, and where they have the kind that the link leaves, what their cells hold has a number
pub record Led (b : Raw) (from l n : ℕ) : Type 0 where
  pub room : n ≤ b.given
  pub known : (i : ℕ) → i < n → nth_entry b i < b.given
  pub numbered : (i : ℕ) → i < n → (shown b).kind (nth_entry b i) ≡ from → Numbered b (cell (nth_entry b i) l)

-- the record words of the first n landings of a source kind
unfoldable pub landed_words : Raw → ℕ → ℕ → List ℕ
landed_words b k n = map (tagged tag.Record) (upto (λ q. number_in b (landing k q)) n)

-- the words of the landings of a source kind that is mapped to a target kind
unfoldable pub landing_part : Raw → ℕ → ℕ → List ℕ
landing_part b to k = tagged tag.Landings (count b.shape k * 65536 + k * 256 + to) ∷ landed_words b k (count b.shape k)
