-- Words written from a place on.
use Rattle.std.specs.Prelude.{ℕ, ◌+◌, List, ◌++◌, length, take, drop}

-- a list in which xs is written from a place on
unfoldable pub spliced : ℕ → List ℕ → List ℕ → List ℕ
spliced at xs old = take at old ++ (xs ++ drop (at + length xs) old)
