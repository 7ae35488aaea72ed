use Rattle.std.proofs.Common.{◌≡◌, ℕ, suc, false, ltb, ◌&&◌, slice_index, sym, refl, ap, ◌∙◌, inl, inr, arith}
use Rattle.std.proofs.lemmas.Bool.Decides.{leb_tells, nat_tests}
use Rattle.std.proofs.lemmas.List.{get_or_past, length-map}
use Rattle.bounded.specs.Listed.{listed}
use Rattle.rows.specs.declared.Source.{Source}
use Rattle.rows.specs.declared.SourceKind.{SourceKind}
use Rattle.rows.specs.Sources.{kinds_of, counts_of}
use Rattle.rows.specs.View.{has}
use Rattle.rows.proofs.Rows.has.Goals as goal

-- a number of no kind counts no records
uncounted : (s : Source) (k q : ℕ) → ltb q (slice_index (counts_of s) k) ≡ (ltb k (kinds_of s) && ltb q (slice_index (counts_of s) k))
unfolding kinds_of counts_of
uncounted s k q = elim (leb_tells (suc k) (kinds_of s)) [
  | inl t ↦ rw t.0 refl
  | inr t ↦
      let n = length-map (listed s.kinds) (λ (x : SourceKind). x.records) in
      let z : ltb q 0 ≡ false = grind (arith, nat_tests) in
      rw (get_or_past (counts_of s) k 0 (omega (arith, t.1, n)), t.0, z) refl
]

pub returns-in-Landing : goal.returns-in-Landing
returns-in-Landing c = ap (ltb c.in-Landing.q) c.kind.ensures.records ∙ uncounted c.args.self.now.source c.in-Landing.k c.in-Landing.q ∙ sym (ap (has c.args.self.now) c.in-Landing.is)
