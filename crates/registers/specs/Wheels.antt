-- A wheel: one kind of m records, and steps around it.
use Rattle.std.specs.Prelude.{ℕ, ◌+◌, ◌%◌, cond, List, length, Some, None, ◌==◌, nat_lt, slice_index}
use Rattle.registers.specs.Meaning.{Meaning}

-- link i leads from r to the remainder of r + step i by m
abbrev pub wheel : ℕ → List ℕ → Meaning
wheel m steps = record {
  kinds = 1;
  links = length steps;
  ends = λ l. cond (nat_lt l (length steps)) (Some (0, 0)) None;
  count = λ k. cond (k == 0) m 0;
  follow = λ l r. cond (nat_lt l (length steps)) (cond (nat_lt r m) (Some ((r + slice_index steps l) % m)) None) None;
}
