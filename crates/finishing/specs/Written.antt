-- The finished file part by part, and when the words of a table list what it says.
use Rattle.std.specs.Prelude.{ℕ, List, map, slice_index}
use Rattle.words.specs.declared.tags.Tag.TheVariants as tag
use Rattle.words.specs.Tags.{tagged}
use Rattle.problems.specs.declared.Found.{Found}
use Rattle.register_files.specs.Layout.{link_words}
use Rattle.registers.specs.Writing.{upto}
use Rattle.machine.specs.Loaded.{Loaded}
use Rattle.machine.specs.State.{State}
use Rattle.machine.specs.Finish.{count_of, lead_of, finish_words}
use Rattle.rows.specs.Layout.{Raw, Carries}
use Rattle.rows.specs.Standing.{Stands}
use Rattle.numbering.specs.Listed.{Listed}
use Rattle.numbering.specs.Marked.{Ready}

-- the words b list the numbering of the complete table s, which was loaded from the problem that stands in them
pub record Writes (L : Loaded) (s : State) (b : Raw) (f : Found) (met : ℕ) (counts : List ℕ) : Type 0 where
  pub stands : Stands L b f
  pub carries : Carries L b.shape
  pub listed : Listed L s b met counts

abbrev pub Writing : Raw → Found → ℕ → List ℕ → Type 0
Writing b f met counts = ∥ ((L : Loaded) × (s : State) × Writes L s b f met counts) ∥₁

-- a complete table that was loaded from the problem in its words
pub record Finishes (L : Loaded) (r : Raw) (f : Found) : Type 0 where
  pub stands : Stands L r f
  pub carries : Carries L r.shape
  pub ready : ∥ Ready L r ∥₁

abbrev pub Finishing : Raw → Found → Type 0
Finishing r f = (L : Loaded) × Finishes L r f

-- of every table that the words b list
abbrev pub Always : Raw → Found → ℕ → List ℕ → (Loaded → State → Type 0) → Type 0
Always b f met counts P = (L : Loaded) (s : State) → Writes L s b f met counts → P L s

-- the words of the counts, of a link and of the file
unfoldable pub count_words : List ℕ → ℕ → List ℕ
count_words counts n = map (tagged tag.Count) (upto (λ k. slice_index counts k) n)

unfoldable pub link_part : Loaded → State → ℕ → List ℕ
link_part L s l = link_words (record { from = L.from l; to = L.to l; leads = upto (lead_of L s l) (count_of L s (L.from l)) })

unfoldable pub file_words : Loaded → State → List ℕ
file_words L s = finish_words L s
