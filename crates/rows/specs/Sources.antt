-- The kinds of a source, as lists of numbers.
use Rattle.std.specs.Prelude.{ℕ, List, map, length}
use Rattle.bounded.specs.Listed.{listed}
use Rattle.rows.specs.declared.Source.{Source}
use Rattle.rows.specs.declared.SourceKind.{SourceKind}

unfoldable pub kinds_of : Source → ℕ
kinds_of s = length (listed s.kinds)

-- the number of records of each kind, and the place of its first landing
unfoldable pub counts_of : Source → List ℕ
counts_of s = map (λ (k : SourceKind). k.records) (listed s.kinds)

unfoldable pub starts_of : Source → List ℕ
starts_of s = map (λ (k : SourceKind). k.start) (listed s.kinds)
