-- Lists made by count, written from a place on or kept in an array; and their sums.
use Rattle.std.proofs.Common.{◌≡◌, ℕ, zero, suc, ◌+◌, ◌-◌, ◌<◌, ◌≤◌, List, [], ◌∷◌, ◌++◌, length, slice_index, get_or, take, drop, set, drop-drop, length-drop, sym, refl, ap, ◌∙◌, add-one, arith}
use Rattle.std.proofs.lemmas.List.{get_or-take, length-take, take_more_set, replicate_more}
use Rattle.std.proofs.Math.ListN.{replicate}
use borrow.Rule.Slice.PartMut.{mid_of, put_mid}
use Rattle.registers.specs.Splices.{spliced}
use Rattle.registers.specs.Writing.{upto}
use Rattle.registers.proofs.WrittenLists.{upto_length, upto_at}
use Rattle.machine.specs.Loading.{sum}

pub sum_next : (f : ℕ → ℕ) (n : ℕ) → sum f (n + 1) ≡ sum f n + f n
unfolding sum
sum_next f n = rw add-one refl

pub sum_none : (f : ℕ → ℕ) → sum f 0 ≡ 0
unfolding sum
sum_none f = refl

pub sum_same : (f h : ℕ → ℕ) (n : ℕ) → ((i : ℕ) → i < n → f i ≡ h i) → sum f n ≡ sum h n
unfolding sum
sum_same f h zero e = refl
sum_same f h (suc n) e = let a = sum_same f h n (λ i l. e i (omega arith)) in let b = e n (omega arith) in cc

-- a list that was written into a part of as many words is spliced in
pub put_part : (at n : ℕ) (old ys : List ℕ) (made : ℕ → List ℕ) → at + n ≤ length old → length (made n) ≡ n → ys ≡ made (length (mid_of at (at + n - at) old)) → put_mid at (at + n - at) old ys ≡ spliced at (made n) old
unfolding spliced
put_part at n old ys made h l e =
    let k : length (mid_of at (at + n - at) old) ≡ n = simp (length-take, length-drop) (omega arith) in
    ap (λ zs. take at old ++ (zs ++ drop (at + n - at) (drop at old))) (e ∙ ap made k) ∙ ap (λ zs. take at old ++ (made n ++ zs)) (drop-drop (at + n - at) at old ∙ ap (λ i. drop i old) (omega (arith, l)))

pub zeros : (n : ℕ) → replicate {A = ℕ} n 0 ≡ upto (λ i. 0) n
unfolding upto
zeros zero = refl
zeros (suc n) = ap (λ k. replicate {A = ℕ} k 0) (sym (add-one n)) ∙ sym (replicate_more n 0) ∙ ap (λ xs. xs ++ 0 ∷ []) (zeros n)

pub upto_alike : (f h : ℕ → ℕ) (n : ℕ) → ((i : ℕ) → i < n → f i ≡ h i) → upto f n ≡ upto h n
unfolding upto
upto_alike f h zero e = refl
upto_alike f h (suc n) e = let a = upto_alike f h n (λ i l. e i (omega arith)) in let b = e n (omega arith) in cc

-- parts of these sizes, one behind another
module _ (f : ℕ → ℕ) (n place : ℕ) (sizes : List ℕ) (e : sizes ≡ upto f n) where
  pub sized : length sizes ≡ n
  sized = ap length e ∙ upto_length f n

  summed : (i : ℕ) → i ≤ n → place + sum (slice_index sizes) i ≡ place + sum f i
  summed i h = ap (λ k. place + k) (sum_same (slice_index sizes) f i (λ k b. ap (λ xs. slice_index xs k) e ∙ upto_at f n k 0 (omega arith)))

  pub stacked : upto (λ i. place + sum (slice_index sizes) i) (length sizes) ≡ upto (λ i. place + sum f i) n
  stacked = ap (upto (λ i. place + sum (slice_index sizes) i)) sized ∙ upto_alike _ _ n (λ i h. summed i (omega arith))

  pub piled_behind : (next : ℕ) → next ≡ place + sum (slice_index sizes) (length sizes) → next ≡ place + sum f n
  piled_behind next q = q ∙ ap (λ k. place + sum (slice_index sizes) k) sized ∙ summed n (omega arith)

  pub piled_size : (next : ℕ) → next ≡ place + sum (slice_index sizes) (length sizes) → next - place ≡ sum f n
  piled_size next q = let b = piled_behind next q in omega arith

module _ (f : ℕ → ℕ) where
  pub upto_next : (n : ℕ) → upto f (n + 1) ≡ upto f n ++ f n ∷ []
  unfolding upto
  upto_next n = rw add-one refl

  -- one more is kept in an array
  pub none_kept : [] ≡ upto f 0
  unfolding upto
  none_kept = refl

  pub take_upto : (xs : List ℕ) (i v : ℕ) → i < length xs → v ≡ f i → take i xs ≡ upto f i → take (i + 1) (set xs i v) ≡ upto f (i + 1)
  take_upto xs i v h p q = take_more_set xs i v h ∙ ap (λ ys. ys ++ v ∷ []) q ∙ ap (λ w. upto f i ++ w ∷ []) p ∙ sym (upto_next i)
