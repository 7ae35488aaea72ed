-- The words of a register part by part, and what is known before they are written.
use Rattle.std.specs.Prelude.{◌≡◌, ℕ, ◌<◌, ◌≤◌, false, List, map}
use Rattle.std.specs.List.{flat_map}
use Rattle.words.specs.declared.tags.Tag.TheVariants as tag
use Rattle.words.specs.Tags.{tagged}
use Rattle.register_files.specs.Layout.{link_words, layout}
use Rattle.registers.specs.Meaning.{Meaning}
use Rattle.registers.specs.Writing.{upto, lead, row_of, file_of, broken}

-- the words of a register
unfoldable pub file_words : Meaning → List ℕ
file_words m = layout (file_of m)

-- of a link
unfoldable pub row_words : Meaning → ℕ → List ℕ
row_words m l = link_words (row_of m l)

-- of the first n counts, of the first n records of a link, of the first n links
unfoldable pub count_words : Meaning → ℕ → List ℕ
count_words m n = map (tagged tag.Count) (upto m.count n)

unfoldable pub record_words : Meaning → ℕ → ℕ → List ℕ
record_words m l n = map (tagged tag.Record) (upto (lead m l) n)

unfoldable pub links_words : Meaning → ℕ → List ℕ
links_words m n = flat_map link_words (upto (row_of m) n)

-- each of the first n calls of a closure returns what f gives
abbrev pub Told : (ℕ → ℕ → Type 0) → ℕ → (ℕ → ℕ) → Type 0
Told post n f = (i v : ℕ) → i < n → post i v → v ≡ f i

-- the first n records of a link fit the field of a word
abbrev pub LeadsFit : Meaning → ℕ → ℕ → Type 0
LeadsFit m l n = (r : ℕ) → r < n → lead m l r < 65536

-- what the tests before a write have shown
pub record Writable (m : Meaning) : Type 0 where
  pub few_kinds : m.kinds ≤ 32
  pub few_links : m.links ≤ 64
  pub small : (k : ℕ) → k < m.kinds → m.count k < 65536
  pub unbroken : (l : ℕ) → l < m.links → broken m l ≡ false
