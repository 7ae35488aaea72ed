-- Words on file: a tag and fields; and what every reader is made of.
use Rattle.std.specs.Prelude.{ℕ, ◌+◌, ◌/◌, ◌%◌, Bool, cond, ◌&&◌, List, length, Ok, Err, Result, ◌==◌, nat_lt, slice_index}
use Rattle.words.specs.declared.tags.Tag.{Tag}
use Rattle.words.specs.declared.tags.Tag.TheVariants as tags
use Rattle.words.specs.Tags.{number, size}
use Rattle.words.specs.declared.faults.WordFault.{WordFault}
use Rattle.words.specs.declared.faults.WordFault.TheVariants.{Missing, Wrong}
use Rattle.words.specs.declared.faults.SchemaFault.{SchemaFault}
use Rattle.words.specs.declared.faults.SchemaFault.TheVariants.{Words}

-- bits 31 to 28, and the others
abbrev pub tag : ℕ → ℕ
tag w = w / 268435456

abbrev pub fields : ℕ → ℕ
fields w = w % 268435456

-- the fields of the word at a place: it has that tag, and no bit without a field
abbrev pub word : Tag → List ℕ → ℕ → Result ℕ WordFault
word t ws at =
    cond (nat_lt at (length ws))
    (cond (tag (slice_index ws at) == number t) (cond (nat_lt (fields (slice_index ws at)) (size t)) (Ok (fields (slice_index ws at))) (Err (Wrong at))) (Err (Wrong at)))
    (Err (Missing at))

-- the word at a place has that tag
abbrev pub starts : Tag → List ℕ → ℕ → Bool
starts t ws at = nat_lt at (length ws) && tag (slice_index ws at) == number t

-- the next question, or the fault carried on
abbrev pub then : {A B E : Type 0} → Result A E → (A → Result B E) → Result B E
then (Ok x) f = f x
then (Err e) f = Err e

-- a word fault carried on as a schema fault
abbrev pub worded : {A : Type 0} → Result A WordFault → Result A SchemaFault
worded (Ok x) = Ok x
worded (Err e) = Err (Words e)

-- what a call tells of a reading: another value in place of what was read
abbrev pub giving : {A B E : Type 0} → B → Result A E → Result B E
giving b (Ok x) = Ok b
giving b (Err e) = Err e

-- the end, behind that many words
abbrev pub end : List ℕ → ℕ → Result ℕ WordFault
end ws at = then (word tags.End ws at) (λ v. cond (v == at) (cond (length ws == at + 1) (Ok at) (Err (Wrong (at + 1)))) (Err (Wrong at)))
