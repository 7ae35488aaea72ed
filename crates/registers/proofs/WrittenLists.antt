-- Tests of the numbers below a limit, and lists made by count.
use Rattle.std.proofs.Common.{◌≡◌, ℕ, zero, suc, ◌+◌, ◌<◌, ◌≤◌, Bool, true, false, cond, List, [], ◌∷◌, length, get_or, Some, None, Option, sym, refl, ap, ◌∙◌, ⊎_elim, add-one, arith, length-append}
use Rattle.std.specs.List.{AllByRecursion}
use Rattle.std.proofs.lemmas.List.{get_or_append_left, get_or_push, ext_get_or}
use Rattle.std.proofs.ByRecursion.{All-push}
use Rattle.std.proofs.lemmas.Bool.{or_from, or_left, or_right, or_parts, cases_lt}
use Rattle.registers.specs.Writing.{upto, some_below, or_here, lowest}

pub some_none : {X : Type 0} {x : X} → Some x ≡ None → ⊥
some_none e = let z : ◌≡◌ {A = ℕ} 0 1 = cc in omega arith

-- what holds below n and at n holds below its successor
below : (P : ℕ → Type 0) (n : ℕ) → ((k : ℕ) → k < n → P k) → P n → (k : ℕ) → k < suc n → P k
below P n h e k l = ⊎_elim (h k) (λ (q : n ≤ k). let s : n ≡ k = omega arith in rw s at e) (cases_lt k n)

or_here_none : (a b : Option ℕ) → or_here a b ≡ None → (a ≡ None) × (b ≡ None)
or_here_none (Some x) b e = absurd (some_none e)
or_here_none None b e = (refl, e)

cond_none : (b : Bool) (n : ℕ) → cond b (Some n) None ≡ None → b ≡ false
cond_none true n e = absurd (some_none e)
cond_none false n e = refl

module _ (p : ℕ → Bool) where
  pub none_more : (n : ℕ) → some_below p n ≡ false → p n ≡ false → some_below p (n + 1) ≡ false
  unfolding some_below
  none_more n h k = rw add-one (or_from _ _ h k)

  pub some_found : (k n : ℕ) → k < n → p k ≡ true → true ≡ some_below p n
  unfolding some_below
  some_found k zero h e = absurd (omega arith)
  some_found k (suc n) h e = ⊎_elim
      (λ (l : k < n). sym (or_left _ _ (sym (some_found k n l e))))
      (λ (l : n ≤ k). let s : k ≡ n = omega arith in sym (or_right (some_below p n) (p n) (ap p (sym s) ∙ e)))
      (cases_lt k n)

  pub none_told : (n : ℕ) → some_below p n ≡ false → (k : ℕ) → k < n → p k ≡ false
  unfolding some_below
  none_told zero h k l = absurd (omega arith)
  none_told (suc n) h k l = let q = or_parts (some_below p n) (p n) h in below (λ j. p j ≡ false) n (none_told n q.0) q.1 k l

  pub none_from : (n : ℕ) → ((k : ℕ) → k < n → p k ≡ false) → some_below p n ≡ false
  unfolding some_below
  none_from zero h = refl
  none_from (suc n) h = or_from _ _ (none_from n (λ k l. h k (omega arith))) (h n (omega arith))

  pub lowest_found : (k n : ℕ) → k < n → lowest p k ≡ None → p k ≡ true → Some k ≡ lowest p n
  unfolding lowest
  lowest_found k zero l h e = absurd (omega arith)
  lowest_found k (suc n) l h e = ⊎_elim
      (λ (b : k < n). ap (λ o. or_here o (cond (p n) (Some n) None)) (lowest_found k n b h e))
      (λ (b : n ≤ k). let s : k ≡ n = omega arith in rw (← s, h, e))
      (cases_lt k n)

  pub lowest_told : (n : ℕ) → lowest p n ≡ None → (k : ℕ) → k < n → p k ≡ false
  unfolding lowest
  lowest_told zero h k l = absurd (omega arith)
  lowest_told (suc n) h k l =
      let q = or_here_none (lowest p n) (cond (p n) (Some n) None) h in
      below (λ j. p j ≡ false) n (lowest_told n q.0) (cond_none (p n) n q.1) k l

  pub lowest_from : (n : ℕ) → ((k : ℕ) → k < n → p k ≡ false) → lowest p n ≡ None
  unfolding lowest
  lowest_from zero h = refl
  lowest_from (suc n) h = let q = lowest_from n (λ k l. h k (omega arith)) in let e = h n (omega arith) in rw (q, e)

module _ {X : Type 0} (f : ℕ → X) where
  pub upto_length : (n : ℕ) → length (upto f n) ≡ n
  unfolding upto
  upto_length zero = refl
  upto_length (suc n) = let h = upto_length n in simp length-append (omega arith)

  pub upto_at : (n i : ℕ) (d : X) → i < n → get_or (upto f n) i d ≡ f i
  unfolding upto
  upto_at zero i d h = absurd (omega arith)
  upto_at (suc n) i d h = let q = upto_length n in ⊎_elim
      (λ (l : i < n). get_or_append_left (upto f n) (f n ∷ []) d i (omega arith) ∙ upto_at n i d l)
      (λ (l : n ≤ i). let s : n ≡ i = omega arith in get_or_push (upto f n) (f n) d i (q ∙ s) ∙ ap f s)
      (cases_lt i n)

  pub upto_all : (P : X → Type 0) (n : ℕ) → ((i : ℕ) → i < n → P (f i)) → AllByRecursion P (upto f n)
  unfolding upto
  upto_all P zero h = tt
  upto_all P (suc n) h = All-push P (upto f n) (f n) (upto_all P n (λ i l. h i (omega arith))) (h n (omega arith))

  pub upto_same : (xs : List X) (d : X) → ((i : ℕ) → i < length xs → f i ≡ get_or xs i d) → upto f (length xs) ≡ xs
  upto_same xs d h =
      let q = upto_length (length xs) in
      ext_get_or d (upto f (length xs)) xs q (λ i l. let k : i < length xs = omega arith in upto_at (length xs) i d k ∙ h i k)
