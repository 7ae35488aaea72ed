-- What the code keeps of a register file: numbers and places in place of lists.
use Rattle.std.specs.Prelude.{◌≡◌, ℕ, ◌+◌, List, length, Ok, Err, Result}
use Rattle.words.specs.declared.faults.SchemaFault.{SchemaFault}
use Rattle.words.specs.Items.{sized, got, places}
use Rattle.register_files.specs.Register.{File, span, counts_of}

-- the counts of a file of that many kinds were read
abbrev pub Counted : List ℕ → ℕ → Type 0
Counted ws kinds = sized (counts_of ws) ≡ Ok kinds

abbrev pub counts_got : List ℕ → List ℕ
counts_got ws = got (counts_of ws)

-- how many kinds, how many links, and the place of each link
abbrev pub outline_of : Result File SchemaFault → Result (ℕ × ℕ × List ℕ) SchemaFault
outline_of (Ok f) = Ok (length f.counts, length f.links, places span (1 + length f.counts) f.links)
outline_of (Err e) = Err e
