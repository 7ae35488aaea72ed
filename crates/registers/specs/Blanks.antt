-- The blank layer: record 0 of every kind is a blank and is left out.
use Rattle.std.specs.Prelude.{ℕ, ◌+◌, ◌-◌, cond, Some, None, Option, ◌==◌, nat_lt}
use Rattle.registers.specs.Meaning.{Meaning}

-- a record number less one; nothing at the blank
abbrev pub less_one : Option ℕ → Option ℕ
less_one None = None
less_one (Some r) = cond (r == 0) None (Some (r - 1))

-- the largest record number has none above it that could be asked, so it leads to nothing
abbrev pub blank : Meaning → Meaning
blank m = record {
  kinds = m.kinds;
  links = m.links;
  ends = m.ends;
  count = λ k. m.count k - 1;
  follow = λ l r. cond (nat_lt r 4294967295) (less_one (m.follow l (r + 1))) None;
}
