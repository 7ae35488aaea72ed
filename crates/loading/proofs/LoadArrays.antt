-- An array whose elements were asked for one by one, as a list made by count.
use Rattle.std.proofs.Common.{◌≡◌, ℕ, zero, suc, ◌+◌, ◌<◌, ◌≤◌, List, length, get_or, take, inl, inr, subst, refl, sym, ap, ◌∙◌, length-take-le, arith}
use Rattle.std.proofs.lemmas.Bool.{cases_lt}
use Rattle.std.proofs.lemmas.Grind.{same_number_lists}
use Rattle.std.proofs.lemmas.List.{get_or-take}
use Rattle.std.specs.Array.{IsFromFnResult, IsFromFnResultFrom}
use denote.Param.Members.{Mut, Called}
use Rattle.registers.specs.Writing.{upto}
use Rattle.registers.proofs.WrittenLists.{upto_length, upto_at}

module _ {F : Type 0} (g : Mut F (ℕ × Unit {0}) ℕ) (f : ℕ → ℕ) (m : ℕ) (start : F) (asked : (i x : ℕ) (q : F) → Called g start (i, tt) x q → (q ≡ start) × (i < m → x ≡ f i)) where
  made_from : (n i : ℕ) (q : F) (xs : List ℕ) → q ≡ start → IsFromFnResultFrom g q xs i n → (k : ℕ) → i ≤ k → k < i + n → k < m → get_or xs k 0 ≡ f k
  made_from zero i q xs e r k h l b = absurd (omega arith)
  made_from (suc n) i q xs e r k h l b =
      let P : F → Type 0 = λ z. Called g z (i, tt) r.1 r.0 in
      let a = asked i r.1 r.0 (subst P e r.3) in
      elim (cases_lt i k) [
        | inl lt ↦ made_from n (i + 1) r.0 xs a.0 r.4 k (omega arith) (omega arith) b
        | inr le ↦ (let s : i ≡ k = omega arith in ap (λ j. get_or xs j 0) (sym s) ∙ r.2.1 0 ∙ a.1 (omega arith) ∙ ap f s)
      ]

  pub made : (xs : List ℕ) (n : ℕ) → m ≤ n → IsFromFnResult g start xs n → take m xs ≡ upto f m
  made xs n h r =
      let l = upto_length f m in
      let k : length (take m xs) ≡ m = length-take-le m xs (omega (arith, r.long)) in
      same_number_lists (take m xs) (upto f m) (omega arith) (λ i b. get_or-take m xs i 0 (omega arith) ∙ made_from n 0 start xs refl r.each i (omega arith) (omega arith) (omega arith) ∙ sym (upto_at f m i 0 (omega arith)))
