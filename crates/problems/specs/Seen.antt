-- What the code knows of a schema: its kinds, how many links it has, and where they stand.
use Rattle.std.specs.Prelude.{◌≡◌, ℕ, ◌+◌, ◌/◌, ◌%◌, cond, List, length, Some, None, Option, Ok, Err, Result, nat_lt, slice_index, slice_index_or}
use Rattle.words.specs.declared.faults.SchemaFault.{SchemaFault}
use Rattle.words.specs.Words.{fields, then}
use Rattle.words.specs.Items.{sized, got}
use Rattle.problems.specs.declared.Schema.{Schema}
use Rattle.problems.specs.Problem.{Link, no_link, links, step, kind_maps}

-- the ends that a word says, and those of a link of a schema
abbrev pub ends_at : List ℕ → ℕ → ℕ × ℕ
ends_at ws at = (fields (slice_index ws at) / 256, fields (slice_index ws at) % 256)

abbrev pub ends_of : Schema → List ℕ → ℕ → Option (ℕ × ℕ)
ends_of s ws l = cond (nat_lt l s.links) (Some (ends_at ws (s.place + l))) None

-- the links of a schema
abbrev pub links_got : ℕ → List ℕ → ℕ → List Link
links_got kinds ws at = got (links kinds ws at)

-- that many were read
abbrev pub Linked : ℕ → List ℕ → ℕ → ℕ → Type 0
Linked kinds ws at n = sized (links kinds ws at) ≡ Ok n

-- the kind that a step leads to
abbrev pub stepped : List Link → List ℕ → ℕ → ℕ → Result ℕ SchemaFault
stepped ts ws kind at = then (step ts ws kind at) (λ g. Ok (slice_index_or ts g no_link).to)

-- the kind that a path reaches
abbrev pub reached : Result (List ℕ × ℕ) SchemaFault → Result ℕ SchemaFault
reached (Ok x) = Ok x.1
reached (Err e) = Err e

-- the kind maps, and that they were read
abbrev pub kinds_got : ℕ → ℕ → List ℕ → ℕ → List ℕ
kinds_got n kinds ws at = got (kind_maps n kinds ws at)

abbrev pub Mapped : ℕ → ℕ → List ℕ → ℕ → Type 0
Mapped n kinds ws at = kind_maps n kinds ws at ≡ Ok (kinds_got n kinds ws at)

-- what the code keeps of a schema
abbrev pub seen : ℕ → Result (ℕ × List Link) SchemaFault → Result Schema SchemaFault
seen at (Ok s) = Ok (record { kinds = s.0; links = length s.1; place = at + 1 })
seen at (Err e) = Err e
