-- A register that may pass the limits of a file, and whose links may lead astray.
use Rattle.std.proofs.Common.{◌≡◌, ltb, true, arith}
use Rattle.std.proofs.lemmas.Bool.Decides.{nat_tests}
use Rattle.std.specs.Prelude.{ℕ, cond, Some, None, nat_lt}
use Rattle.registers.specs.Meaning.{Meaning, Lawful}
use Rattle.registers.specs.Laws.{same_ends}

-- n kinds of m records each, and l links with the same ends, which lead every counted record to the same one
abbrev pub loose : ℕ → ℕ → ℕ → ℕ → ℕ → ℕ → Meaning
loose n m l from to led = record {
  kinds = n;
  links = l;
  ends = λ i. cond (nat_lt i l) (Some (from, to)) None;
  count = λ k. cond (nat_lt k n) m 0;
  follow = λ i r. cond (nat_lt i l) (cond (nat_lt from n) (cond (nat_lt r m) (Some led) None) None) None;
}

pub loose_lawful : (n m l from to led : ℕ) → Lawful (loose n m l from to led)
loose_lawful n m l from to led = record {
  unknown_kind = λ k h. grind (arith, nat_tests);
  known_link = λ i h. let t : ltb i l ≡ true = grind (arith, nat_tests) in rw t tt;
  unknown_link = λ i h. grind (arith, nat_tests);
  leads_unknown = λ i r h. grind (arith, nat_tests);
  leads_uncounted = λ i r e q h. let k = same_ends (ltb i l) from to e q in grind (arith, nat_tests);
}
