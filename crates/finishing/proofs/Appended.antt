-- Words that are put one behind another.
use Rattle.std.proofs.Common.{◌≡◌, ℕ, zero, suc, ◌+◌, ◌<◌, ◌≤◌, List, [], ◌++◌, length, sym, refl, ap, ◌∙◌, ⊎_elim, add-one, arith, length-append}
use Rattle.std.specs.List.{flat_map}
use Rattle.std.proofs.lemmas.List.{append_assoc, append-nil, flat_map_more}
use Rattle.std.proofs.lemmas.Bool.{cases_lt}
use Rattle.registers.specs.Splices.{spliced}
use Rattle.registers.specs.Writing.{upto}
use Rattle.registers.proofs.WrittenSplices.{splice_none, splice_then}
use Rattle.finishing.specs.Records.{appended}

module _ (f : ℕ → List ℕ) where
  appended_suc : (n : ℕ) → appended f (suc n) ≡ appended f n ++ f n
  unfolding appended
  appended_suc n = refl

  pub step_length : (n : ℕ) → length (appended f (suc n)) ≡ length (appended f n) + length (f n)
  step_length n = ap length (appended_suc n) ∙ length-append (appended f n) (f n)

  pub appended_length : (n : ℕ) → length (appended f (n + 1)) ≡ length (appended f n) + length (f n)
  appended_length n = ap (λ k. length (appended f k)) (add-one n) ∙ step_length n

  pub appended_none : length (appended f 0) ≡ 0
  unfolding appended
  appended_none = refl

  pub appended_start : (at : ℕ) (old : List ℕ) → old ≡ spliced at (appended f 0) old
  unfolding appended
  appended_start at old = splice_none at old

  pub appended_put : (at b i : ℕ) (old mid new : List ℕ) → at ≤ length old → b ≡ at + length (appended f i) → mid ≡ spliced at (appended f i) old
      → new ≡ spliced b (f i) mid → new ≡ spliced at (appended f (i + 1)) old
  appended_put at b i old mid new h e p q =
      splice_then at b (appended f i) (f i) old mid new h (sym e) p q
      ∙ ap (λ x. spliced at x old) (sym (ap (appended f) (add-one i) ∙ appended_suc i))

  -- there is room for each of the first n
  pub appended_room : (i n : ℕ) → i < n → length (appended f i) + length (f i) ≤ length (appended f n)
  appended_room i zero h = absurd (omega arith)
  appended_room i (suc n) h =
      let q = step_length n in
      ⊎_elim (λ (b : i < n). let r = appended_room i n b in omega arith) (λ (b : n ≤ i). let s : i ≡ n = omega arith in rw s (omega arith)) (cases_lt i n)

  -- the first before the others
  pub appended_front : (n : ℕ) → appended f (suc n) ≡ f 0 ++ appended (λ i. f (suc i)) n
  unfolding appended
  appended_front zero = sym (append-nil (f 0))
  appended_front (suc n) = ap (λ x. x ++ f (suc n)) (appended_front n) ∙ append_assoc (f 0) (appended (λ i. f (suc i)) n) (f (suc n))

pub appended_same : (f g : ℕ → List ℕ) (n : ℕ) → ((i : ℕ) → i < n → f i ≡ g i) → appended f n ≡ appended g n
unfolding appended
appended_same f g zero h = refl
appended_same f g (suc n) h = let p = appended_same f g n (λ i l. h i (omega arith)) in let q = h n (omega arith) in λ i. p i ++ q i

pub appended_joined : {X : Type 0} (words : X → List ℕ) (row : ℕ → X) (n : ℕ) → flat_map words (upto row n) ≡ appended (λ i. words (row i)) n
unfolding appended upto
appended_joined words row zero = refl
appended_joined words row (suc n) = sym (flat_map_more words [] (upto row n) (row n)) ∙ ap (λ x. x ++ words (row n)) (appended_joined words row n)
