-- The record words of a link, one for each entry of the kind that it leaves.
use Rattle.std.proofs.Common.{◌≡◌, ℕ, zero, suc, ◌<◌, ◌≤◌, cond, eqb, List, [], ◌∷◌, ◌++◌, map, length, Some, sym, refl, ap, ◌∙◌, subst, inl, inr, arith}
use Rattle.std.proofs.lemmas.List.{map_push}
use Rattle.std.proofs.lemmas.Bool.{cases_eq, eq-eqb, ne_eqb, cond-true, cond-false}
use Rattle.words.specs.declared.tags.Tag.TheVariants as tag
use Rattle.words.specs.Tags.{tagged}
use Rattle.registers.specs.Writing.{upto}
use Rattle.machine.specs.State.{cell}
use Rattle.machine.specs.Sequence.{nth}
use Rattle.machine.specs.Finish.{tally, entry_in}
use Rattle.machine.proofs.Entries.{tally_yes, tally_no, entry_yes, entry_no}
use Rattle.machine.proofs.Fill.{some_same}
use Rattle.rows.specs.Layout.{Raw, shown}
use Rattle.finishing.specs.Records.{appended, nth_entry, number_in, Numbered, lead_word, Led}
use Rattle.finishing.proofs.Appended.{appended_front}

module _ (b : Raw) (from l i e : ℕ) (is : e ≡ nth_entry b i) where
  pub lead_none : ((shown b).kind e ≡ from → ⊥) → lead_word b from l i ≡ []
  unfolding lead_word
  lead_none h = cond-false _ _ [] (ap (λ x. eqb ((shown b).kind x) from) (sym is) ∙ ne_eqb ((shown b).kind e) from h)

  pub lead_some : (shown b).kind e ≡ from → lead_word b from l i ≡ tagged tag.Record (number_in b (cell e l)) ∷ []
  unfolding lead_word
  lead_some h =
      cond-true _ _ [] (ap (λ x. eqb ((shown b).kind x) from) (sym is) ∙ eq-eqb ((shown b).kind e) from h)
      ∙ ap (λ x. tagged tag.Record (number_in b (cell x l)) ∷ []) (sym is)

  pub lead_numbered : (n : ℕ) → Led b from l n → i < n → (shown b).kind e ≡ from → Numbered b (cell e l)
  lead_numbered n led h k = subst (λ x. Numbered b (cell x l)) (sym is) (led.numbered i h (ap (shown b).kind (sym is) ∙ k))

-- the first m of the sequence
pub led_first : (b : Raw) (from l m n : ℕ) → m ≤ n → Led b from l n → Led b from l m
led_first b from l m n h led = record {
  room = omega (arith, led.room);
  known = λ i k. led.known i (omega arith);
  numbered = λ i k. led.numbered i (omega arith);
}

upto_front : {X : Type 0} (f : ℕ → X) (n : ℕ) → upto f (suc n) ≡ f 0 ∷ upto (λ i. f (suc i)) n
unfolding upto
upto_front f zero = refl
upto_front f (suc n) = ap (λ xs. xs ++ f (suc n) ∷ []) (upto_front f n)

pub map_upto : {X Y : Type 0} (g : X → Y) (f : ℕ → X) (n : ℕ) → map g (upto f n) ≡ upto (λ i. g (f i)) n
unfolding upto
map_upto g f zero = refl
map_upto g f (suc n) = map_push g (upto f n) (f n) ∙ ap (λ xs. xs ++ g (f n) ∷ []) (map_upto g f n)

-- a list in its order, those of one kind, are the entries of that kind in the order of their numbers
module _ (kind : ℕ → ℕ) (k : ℕ) (word : ℕ → ℕ) where
  abbrev pub picked : ℕ → List ℕ
  picked e = cond (eqb (kind e) k) (word e ∷ []) []

  abbrev by_number : List ℕ → ℕ → ℕ
  by_number xs n = word (entry_in kind k xs n)

  picked_first : (x : ℕ) (xs : List ℕ) → picked x ++ upto (by_number xs) (tally kind k xs) ≡ upto (by_number (x ∷ xs)) (tally kind k (x ∷ xs))
  picked_first x xs = elim (cases_eq (kind x) k) [
    | inl e ↦ ap (λ ys. ys ++ upto (by_number xs) (tally kind k xs)) (cond-true _ _ [] (eq-eqb (kind x) k e))
        ∙ sym (ap (upto (by_number (x ∷ xs))) (tally_yes kind k x xs e) ∙ upto_front (by_number (x ∷ xs)) (tally kind k xs)
        ∙ (λ j. word (entry_yes kind k x xs 0 e j) ∷ upto (λ i. word (entry_yes kind k x xs (suc i) e j)) (tally kind k xs)))
    | inr e ↦ ap (λ ys. ys ++ upto (by_number xs) (tally kind k xs)) (cond-false _ _ [] (ne_eqb (kind x) k e))
        ∙ sym (ap (upto (by_number (x ∷ xs))) (tally_no kind k x xs e) ∙ (λ j. upto (λ i. word (entry_no kind k x xs i e j)) (tally kind k xs)))
  ]

  pub picked_all : (xs : List ℕ) (at : ℕ → ℕ) → ((i : ℕ) → i < length xs → nth xs i ≡ Some (at i)) →
      appended (λ i. picked (at i)) (length xs) ≡ upto (by_number xs) (tally kind k xs)
  unfolding appended upto tally nth
  picked_all [] at h = refl
  picked_all (x ∷ xs) at h =
      appended_front (λ i. picked (at i)) (length xs)
      ∙ ap (λ e. picked e ++ appended (λ i. picked (at (suc i))) (length xs)) (sym (some_same x (at 0) (Some x) refl (h 0 (omega arith))))
      ∙ ap (λ ys. picked x ++ ys) (picked_all xs (λ i. at (suc i)) (λ i l. h (suc i) (omega arith)))
      ∙ picked_first x xs
