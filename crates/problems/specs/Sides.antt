-- The number of a side in the word of its schema.
use Rattle.std.specs.Prelude.{ℕ}
use Rattle.problems.specs.declared.schemas.Side.{Side}
use Rattle.problems.specs.declared.schemas.Side.TheVariants.{Source, Target}

abbrev pub side_number : Side → ℕ
side_number Source = 0
side_number Target = 1
