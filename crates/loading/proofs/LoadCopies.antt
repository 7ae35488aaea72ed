-- The source's leads, one behind another.
use Rattle.std.proofs.Common.{◌≡◌, ℕ, zero, suc, ◌+◌, ◌<◌, ◌≤◌, List, ◌++◌, length, get_or, sym, refl, ap, ◌∙◌, subst, inl, inr, add-one, arith, length-append}
use Rattle.std.proofs.lemmas.List.{get_or_append_left, get_or-append-add}
use Rattle.std.proofs.lemmas.Bool.{cases_lt}
use Rattle.registers.specs.Meaning.{Meaning}
use Rattle.registers.specs.Splices.{spliced}
use Rattle.registers.specs.Writing.{upto, lead}
use Rattle.registers.proofs.WrittenLists.{upto_length, upto_at}
use Rattle.registers.proofs.WrittenSplices.{splice_none, splice_then}
use Rattle.problems.specs.Problem.{Problem}
use Rattle.machine.specs.Loading.{sum}
use Rattle.loading.specs.LoadedWords.{leaving, lead_words}
use Rattle.rows.proofs.Places.{sum_more}

module _ (p : Problem) (m : Meaning) where
  pub leads_length : (n : ℕ) → length (lead_words p m n) ≡ sum (leaving p m.count) n
  unfolding lead_words sum
  leads_length zero = refl
  leads_length (suc n) =
      let h = leads_length n in
      let k = upto_length (lead m n) (leaving p m.count n) in
      simp length-append (omega arith)

  pub leads_none : (at : ℕ) (old : List ℕ) → old ≡ spliced at (lead_words p m 0) old
  unfolding lead_words
  leads_none at old = splice_none at old

  leads_next : (n : ℕ) → lead_words p m (n + 1) ≡ lead_words p m n ++ upto (lead m n) (leaving p m.count n)
  unfolding lead_words
  leads_next n = rw add-one refl

  -- one link more is written
  pub leads_more : (at b n k : ℕ) (old mid new : List ℕ) → at ≤ length old → b ≡ at + sum (leaving p m.count) n → k ≡ leaving p m.count n
      → mid ≡ spliced at (lead_words p m n) old → new ≡ spliced b (upto (lead m n) k) mid → new ≡ spliced at (lead_words p m (n + 1)) old
  leads_more at b n k old mid new h e d q r =
      splice_then at b (lead_words p m n) (upto (lead m n) (leaving p m.count n)) old mid new h (ap (λ i. at + i) (leads_length n) ∙ sym e) q (r ∙ ap (λ i. spliced b (upto (lead m n) i) mid) d)
      ∙ ap (λ xs. spliced at xs old) (sym (leads_next n))

  leads_last : (n q : ℕ) → q < leaving p m.count n → get_or (lead_words p m n ++ upto (lead m n) (leaving p m.count n)) (sum (leaving p m.count) n + q) 0 ≡ lead m n q
  leads_last n q h =
      ap (λ i. get_or (lead_words p m n ++ upto (lead m n) (leaving p m.count n)) (i + q) 0) (sym (leads_length n))
      ∙ get_or-append-add (lead_words p m n) (upto (lead m n) (leaving p m.count n)) q 0 ∙ upto_at (lead m n) (leaving p m.count n) q 0 h

  -- the lead of a record stands behind those of the lower links
  pub leads_at : (n i q : ℕ) → i < n → q < leaving p m.count i → get_or (lead_words p m n) (sum (leaving p m.count) i + q) 0 ≡ lead m i q
  unfolding lead_words
  leads_at zero i q h k = absurd (omega arith)
  leads_at (suc n) i q h k = elim (cases_lt i n) [
    | inl l ↦ (let s = sum_more (leaving p m.count) n i l in let t = leads_length n in
        get_or_append_left (lead_words p m n) (upto (lead m n) (leaving p m.count n)) 0 (sum (leaving p m.count) i + q) (omega arith) ∙ leads_at n i q l k)
    | inr l ↦ (let e : i ≡ n = omega arith in let P : ℕ → Type 0 = λ j. q < leaving p m.count j in
        ap (λ j. get_or (lead_words p m n ++ upto (lead m n) (leaving p m.count n)) (sum (leaving p m.count) j + q) 0) e ∙ leads_last n q (subst P e k) ∙ ap (λ j. lead m j q) (sym e))
  ]
