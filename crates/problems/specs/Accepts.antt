-- What an answer of the reader says of the words.
use Rattle.std.specs.Prelude.{◌≡◌, ℕ, List, Ok, Err, Result}
use Rattle.words.specs.declared.faults.SchemaFault.{SchemaFault}
use Rattle.problems.specs.declared.Found.{Found}
use Rattle.problems.specs.Problem.{Problem}
use Rattle.problems.specs.Layout.{layout, WellFormed}
use Rattle.problems.specs.Shown.{told, outline_of}

-- accepted: they are the layout of a well-formed problem, and what was found is its outline; refused: they are the layout of none
abbrev pub Laid : List ℕ → Result Found SchemaFault → Type 0
Laid ws (Ok f) = (p : Problem) × (ws ≡ layout p) × WellFormed p × (told (Ok f) ≡ outline_of (Ok p))
Laid ws (Err e) = (p : Problem) → ws ≡ layout p → WellFormed p → ⊥
