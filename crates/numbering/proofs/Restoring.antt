-- Taking the numbering back.
use Rattle.std.proofs.Common.{◌≡◌, ℕ, ◌+◌, ◌<◌, List, length, set, Some, sym, refl, ap, ◌∙◌, inl, inr, arith}
use Rattle.std.proofs.lemmas.List.{length-set, get_or-set_other}
use Rattle.std.proofs.lemmas.Bool.{cases_Bool, cases_eq}
use Rattle.machine.specs.Sequence.{member, nth}
use Rattle.machine.proofs.Fill.{some_same}
use Rattle.machine.proofs.Numbering.{member_in, nth_below}
use Rattle.rows.specs.Layout.{Raw, Shape, Becomes, place, shown, forward_of}
use Rattle.rows.specs.Writes.{over}
use Rattle.rows.proofs.Bridge.{none_waiting}
use Rattle.rows.proofs.Keeps.{tidy_by}
use Rattle.rows.proofs.Places.{place_fits, word_same, word_column, word_row, copied_low}
use Rattle.rows.proofs.Shown.{same_state}
use Rattle.numbering.specs.Marked.{Kept, Marked, Restored, row}
use Rattle.numbering.proofs.Kept.{forward_row, fits, same_given, same_kinds, same_held, nth_row, met_short}

pub restored_none : (a b : Raw) (xs : List ℕ) → Marked a b xs → Restored a b xs 0
restored_none a b xs m = record {
  kept = m.kept;
  back = λ e h. m.forwards e ∙ elim (cases_Bool (member e xs)) [ inl q ↦ absurd (let p = member_in e xs q in let z = h p.0 p.1 in omega arith) | inr q ↦ rw q refl ];
}

-- the entry that is written, and its room
module _ (a b : Raw) (xs : List ℕ) (k : Kept a b xs) (i : ℕ) (h : i < length xs) where
  pub slot_room : i < b.shape.capacity
  slot_room = omega (arith, met_short a xs b k, (fits a xs b k).few)

  pub entry_room : (e : ℕ) → e ≡ row b i 2 → e < b.shape.capacity
  entry_room e q = let l = (k.met.all i (row b i 2) (nth_row a xs b k i h)).0 in omega (arith, q, l, same_given a xs b k, (fits a xs b k).few)

module _ (a b : Raw) (xs : List ℕ) (i : ℕ) (h : i < length xs) (r : Restored a b xs i) (e : ℕ) (is_e : e ≡ row b i 2) where
  here : nth xs i ≡ Some e
  here = nth_row a xs b r.kept i h ∙ ap Some (sym is_e)

  abbrev at : ℕ
  at = place b.shape.base b.shape.links e 1

  at_fits : at < length b.ws
  at_fits = place_fits b.shape.base b.shape.links b.shape.capacity (length b.ws) e 1 (fits a xs b r.kept).room (entry_room a b xs r.kept i h e is_e) (omega arith)

  column : (x j : ℕ) → j < b.shape.links + 3 → (j ≡ 1 → ⊥) → row (over b (set b.ws at e)) x j ≡ row b x j
  column x j hj n = word_column b.ws b.shape.base b.shape.links e 1 e x j (omega arith) hj n

  kept_more : Kept a (over b (set b.ws at e)) xs
  kept_more =
      let k = r.kept in
      record {
        from = k.from;
        met = k.met;
        numbers = ap (λ (z : Raw). over z (set b.ws at e)) k.numbers;
        size = length-set b.ws at e ∙ k.size;
        low = λ j l. get_or-set_other b.ws at j e 0 (λ q. omega arith) ∙ k.low j l;
        rest = λ x j l p q. column x j l p ∙ k.rest x j l p q;
        slots = λ j x q. column j 2 (omega arith) (λ p. omega arith) ∙ k.slots j x q;
      }

  back_more : (x : ℕ) → ((j : ℕ) → nth xs j ≡ Some x → j < i + 1) → row (over b (set b.ws at e)) x 1 ≡ row a x 1
  back_more x last = elim (cases_eq x e) [
    | inl q ↦ rw q (word_same b.ws b.shape.base b.shape.links e 1 e at_fits ∙ sym (forward_row a e (r.kept.met.all i e here)))
    | inr q ↦ word_row b.ws b.shape.base b.shape.links e 1 e x 1 (omega arith) (omega arith) q
        ∙ r.back x (λ j p. elim (cases_eq j i) [
          | inl z ↦ absurd (q (some_same x e (nth xs i) (ap (nth xs) (sym z) ∙ p) here))
          | inr z ↦ omega (arith, last j p, z)
        ])
  ]

  pub restored_more : (p : ℕ) → p ≡ at → Restored a (over b (set b.ws p e)) xs (i + 1)
  restored_more p q = rw q (record { kept = kept_more; back = back_more })

-- all are back
module _ (a b : Raw) (xs : List ℕ) (n : ℕ) (end : n ≡ length xs) (r : Restored a b xs n) where
  forwards : (x : ℕ) → row b x 1 ≡ row a x 1
  forwards x = r.back x (λ i q. omega (arith, nth_below xs i x q))

  quiet : b.waits ≡ 0
  quiet = ap (λ (z : Raw). z.waits) r.kept.numbers ∙ r.kept.from.quiet

  state : shown b ≡ shown a
  unfolding forward_of
  state =
      let g = same_given a xs b r.kept in
      same_state (shown b) (shown a) g (λ x. ap (λ (f : ℕ → ℕ). f x) (same_kinds a xs b r.kept))
      (λ x. rw (forwards x, g) refl)
      (λ t. ap (λ f. f t) (same_held a xs b r.kept))
      (none_waiting b quiet ∙ sym (none_waiting a r.kept.from.quiet))

  pub restored_all : Becomes a (λ s. s) b
  restored_all =
      let k = r.kept in
      let t = k.from.tidy in
      let shape = ap (λ (z : Raw). z.shape) k.numbers in
      let base = ap (λ (h : Shape). h.base) shape in
      record {
        tidy = tidy_by b (shown a) (fits a xs b k) state t.lower t.given (omega (arith, t.queued, ap (λ (z : Raw). z.front) k.numbers, ap (λ (z : Raw). z.waits) k.numbers));
        state = state;
        same = record { shape = shape; size = k.size; copies = λ i c. k.low i (omega (arith, copied_low a t.fits i c, base)) };
      }
