-- The code's outline of links, as lists.
use Rattle.std.specs.Prelude.{ℕ, List, length, Ok, Err, Result}
use Rattle.bounded.specs.declared.Bounded.{Bounded}
use Rattle.bounded.specs.Listed.{listed}
use Rattle.words.specs.declared.faults.SchemaFault.{SchemaFault}
use Rattle.register_files.specs.declared.Outline.{Outline}

abbrev pub shown : {N : ℕ} → Result (Bounded ℕ N × ℕ) SchemaFault → Result (List ℕ × ℕ) SchemaFault
shown (Ok l) = Ok (listed l.0, l.1)
shown (Err e) = Err e

abbrev pub told : Result Outline SchemaFault → Result (ℕ × ℕ × List ℕ) SchemaFault
told (Ok o) = Ok (o.kinds, length (listed o.links), listed o.links)
told (Err e) = Err e
