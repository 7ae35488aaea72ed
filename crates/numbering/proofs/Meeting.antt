-- Meeting an entry, in the words.
use Rattle.std.proofs.Common.{◌≡◌, ℕ, ◌+◌, ◌<◌, ◌≤◌, true, false, cond, ◌&&◌, eqb, List, [], ◌∷◌, ◌++◌, length, get_or, set, Some, None, Option, sym, refl, ap, ◌∙◌, subst, inl, inr, arith}
use mathlib.Core.Logic.{∥∥₁_elim, ∥∥₁_map}
use native.Mathlib.Bridge.{le_prop}
use Rattle.std.proofs.lemmas.List.{length-set, length_push, get_or-set_same, get_or-set_other}
use Rattle.std.proofs.lemmas.Bool.{cases_Bool, cases_eq}
use Rattle.std.proofs.lemmas.Bool.Decides.{nat_tests, eqb_tells}
use Rattle.machine.specs.State.{Slot}
use Rattle.machine.specs.Sequence.{member, met, met_in}
use Rattle.machine.specs.Finish.{tally, before}
use Rattle.machine.proofs.Bounds.{tally_short}
use Rattle.machine.proofs.Numbering.{Fine, met_fine, nth_split, nth_below}
use Rattle.rows.specs.Layout.{Raw, place, shown}
use Rattle.rows.specs.Writes.{over}
use Rattle.rows.proofs.Places.{place_fits, word_set}
use Rattle.numbering.specs.declared.Numbering.{Numbering}
use Rattle.numbering.specs.Marked.{Kept, Marked, Tallied, Numbered, Fresh, Counting, Next, row}
use Rattle.numbering.proofs.Lists.{member_push, tally_push, before_last, before_push}
use Rattle.numbering.proofs.Kept.{Lives, fine, short, forward_row, fits, same_given, same_kinds, same_held, held_lives}

met_new : (e : ℕ) (xs : List ℕ) → member e xs ≡ false → met e xs ≡ xs ++ e ∷ []
met_new e xs h = rw h refl

-- a forward from 65536 on tells that an entry was met
module _ (a b : Raw) (xs : List ℕ) (m : Marked a b xs) (e : ℕ) (lives : Lives (shown a) e) where
  unmet : member e xs ≡ false → row b e 1 < 65536
  unmet h =
      let f : row b e 1 ≡ row a e 1 = m.forwards e ∙ rw h refl in
      let o = m.kept.from.tidy.fits in
      omega (arith, f, forward_row a e lives, lives.0, o.few, o.small)

  was_met : 65536 ≤ row b e 1 → met e xs ≡ xs
  was_met h = elim (cases_Bool (member e xs)) [ inl q ↦ rw q refl | inr q ↦ absurd (let u = unmet q in omega arith) ]

  is_new : row b e 1 < 65536 → member e xs ≡ false
  is_new h = elim (cases_Bool (member e xs)) [
    | inl q ↦ absurd (let f : row b e 1 ≡ 65536 + tally (shown a).kind ((shown a).kind e) (before e xs) = m.forwards e ∙ rw q refl in omega arith)
    | inr q ↦ q
  ]

-- one more
module _ (a b : Raw) (xs : List ℕ) (n : ℕ) (counts : List ℕ) (e : ℕ) (m : Numbered a b xs n counts) (f : Fresh a xs e) where
  abbrev k : Kept a b xs
  k = m.marked.kept

  abbrev more : List ℕ
  more = xs ++ e ∷ []

  met_more : Fine (Lives (shown a)) more
  met_more = subst (Fine (Lives (shown a))) (met_new e xs f.new) (met_fine (Lives (shown a)) e xs (f.below, f.lives) (fine (shown a) xs k.met))

  room : n < b.shape.capacity
  room = omega (arith, short (shown a) more met_more, length_push xs e, m.tallied.size, (fits a xs b k).few, same_given a xs b k)

  module _ (kind : ℕ) (is_kind : kind ≡ (shown b).kind e) where
    same_kind : kind ≡ (shown a).kind e
    same_kind = is_kind ∙ ap (λ (f : ℕ → ℕ). f e) (same_kinds a xs b k)

    kind_small : kind < 32
    kind_small = rw same_kind (k.from.kinds e f.below)

    next : get_or counts kind 0 ≡ tally (shown a).kind kind xs
    next = m.tallied.counted kind kind_small

    few : get_or counts kind 0 < 65536
    few = omega (arith, next, tally_short (shown a).kind kind xs, m.tallied.size, room, (fits a xs b k).small)

    abbrev slotted : List ℕ
    slotted = set b.ws (place b.shape.base b.shape.links n 2) e

    abbrev written : List ℕ
    written = set slotted (place b.shape.base b.shape.links e 1) (65536 + get_or counts kind 0)

    fit : (x j : ℕ) → x < b.shape.capacity → j < 3 → place b.shape.base b.shape.links x j < length b.ws
    fit x j hx hj = place_fits b.shape.base b.shape.links b.shape.capacity (length b.ws) x j (fits a xs b k).room hx (omega arith)

    row_written : (x j : ℕ) → j < b.shape.links + 3 → row (over b written) x j ≡ cond (eqb x e && eqb j 1) (65536 + get_or counts kind 0) (cond (eqb x n && eqb j 2) e (row b x j))
    row_written x j hj =
        let l = length-set b.ws (place b.shape.base b.shape.links n 2) e in
        let f1 = fit e 1 (omega (arith, f.below, same_given a xs b k, (fits a xs b k).few)) (omega arith) in
        word_set slotted b.shape.base b.shape.links e 1 (65536 + get_or counts kind 0) x j (omega arith) (omega arith) hj
        ∙ ap (cond (eqb x e && eqb j 1) (65536 + get_or counts kind 0)) (word_set b.ws b.shape.base b.shape.links n 2 e x j (fit n 2 room (omega arith)) (omega arith) hj)

    kept_more : Kept a (over b written) more
    kept_more = record {
      from = k.from;
      met = record { once = met_more.once; all = met_more.all };
      numbers = ap (λ (r : Raw). over r written) k.numbers;
      size = length-set slotted _ _ ∙ length-set b.ws _ e ∙ k.size;
      low = λ i h. get_or-set_other slotted _ i _ 0 (λ q. omega arith) ∙ get_or-set_other b.ws _ i e 0 (λ q. omega arith) ∙ k.low i h;
      rest = λ x j h p q. (let w = row_written x j h in let z : row (over b written) x j ≡ row b x j = grind (arith, nat_tests) in z ∙ k.rest x j h p q);
      slots = λ i x h. (let w = row_written i 2 (omega arith) in elim (nth_split xs e i x h) [
        | inl q ↦ (let l = nth_below xs i x q in let z : row (over b written) i 2 ≡ row b i 2 = grind (arith, nat_tests, m.tallied.size) in z ∙ k.slots i x q)
        | inr q ↦ grind (arith, nat_tests, m.tallied.size, q.0, q.1)
      ]);
    }

    forward_more : (x : ℕ) → row (over b written) x 1 ≡ cond (member x more) (65536 + tally (shown a).kind ((shown a).kind x) (before x more)) (row a x 1)
    forward_more x =
        let w = row_written x 1 (omega arith) in
        let p = member_push x e xs in
        elim (eqb_tells x e) [
          | inl q ↦ (
              let z : row (over b written) x 1 ≡ 65536 + get_or counts kind 0 = grind (arith, nat_tests) in
              let y : member x more ≡ true = grind (arith, nat_tests) in
              z ∙ ap (λ (i : ℕ). 65536 + i) (next ∙ ap (λ (i : ℕ). tally (shown a).kind i xs) same_kind)
              ∙ rw (y, q.1, before_last e xs f.new) refl)
          | inr q ↦ (
              let z : row (over b written) x 1 ≡ row b x 1 = grind (arith, nat_tests) in
              let y : member x more ≡ member x xs = grind (arith, nat_tests) in
              z ∙ m.marked.forwards x ∙ elim (cases_Bool (member x xs)) [ inl h ↦ rw (y, h, before_push x e xs h) refl | inr h ↦ rw (y, h) refl ])
        ]

    tallied_more : Tallied (shown a) more (n + 1) (set counts kind (get_or counts kind 0 + 1))
    tallied_more = record {
      size = omega (arith, length_push xs e, m.tallied.size);
      width = length-set counts kind _ ∙ m.tallied.width;
      counted = λ j h. (let t = tally_push (shown a).kind j e xs in elim (cases_eq j kind) [
        | inl q ↦ (
            let z : get_or (set counts kind (get_or counts kind 0 + 1)) j 0 ≡ get_or counts kind 0 + 1 = rw q (get_or-set_same counts kind _ 0 (omega (arith, kind_small, m.tallied.width))) in
            let y : tally (shown a).kind j xs ≡ get_or counts kind 0 = rw q (sym next) in
            let x : (shown a).kind e ≡ j = sym same_kind ∙ sym q in
            grind (arith, nat_tests))
        | inr q ↦ (
            let z = get_or-set_other counts kind j (get_or counts kind 0 + 1) 0 q in
            let y = m.tallied.counted j h in
            let x : (shown a).kind e ≡ j → ⊥ = λ p. q (sym p ∙ sym same_kind) in
            grind (arith, nat_tests))
      ]);
    }

    pub numbered_more : (at slot : ℕ) → at ≡ place b.shape.base b.shape.links e 1 → slot ≡ place b.shape.base b.shape.links n 2 →
        Numbered a (over b (set (set b.ws slot e) at (65536 + get_or counts kind 0))) more (n + 1) (set counts kind (get_or counts kind 0 + 1))
    numbered_more at slot p q = rw (p, q) (record { marked = record { kept = kept_more; forwards = forward_more }; tallied = tallied_more })

-- what the code needs for it
pub record New (b : Raw) (n : Numbering) (kind : ℕ) : Type 0 where
  pub room : n.met < b.shape.capacity
  pub kind_small : kind < 32
  pub few : get_or n.counts kind 0 < 65536

module _ (b : Raw) (n : Numbering) (e : ℕ) (u : Next b n e) where
  pub next_below : e < b.given
  next_below = ∥∥₁_elim u le_prop (λ x. omega (arith, x.3.below, same_given x.0 x.1 b x.2.marked.kept))

  pub next_new : (kind : ℕ) → kind ≡ (shown b).kind e → New b n kind
  next_new kind q = record {
    room = ∥∥₁_elim u le_prop (λ x. room x.0 b x.1 n.met n.counts e x.2 x.3);
    kind_small = ∥∥₁_elim u le_prop (λ x. kind_small x.0 b x.1 n.met n.counts e x.2 x.3 kind q);
    few = ∥∥₁_elim u le_prop (λ x. few x.0 b x.1 n.met n.counts e x.2 x.3 kind q);
  }

-- what the code meets in a slot
module _ (a b : Raw) (xs : List ℕ) (n : ℕ) (counts : List ℕ) (m : Numbered a b xs n counts) (t : Slot) where
  held_as : (o : Option ℕ) → (shown b).held t ≡ o → (shown a).held t ≡ o
  held_as o h = sym (ap (λ (f : Slot → Option ℕ). f t) (same_held a xs b m.marked.kept)) ∙ h

  pub meets_none : (shown b).held t ≡ None → Numbered a b (met_in ((shown a).held t) xs) n counts
  meets_none h = rw (held_as None h) m

  module _ (e : ℕ) (held : (shown b).held t ≡ Some e) where
    here : Lives (shown a) e
    here = held_lives a xs b m.marked.kept t e held

    pub meets_met : 65536 ≤ row b e 1 → Numbered a b (met_in ((shown a).held t) xs) n counts
    meets_met h = rw (held_as (Some e) held, was_met a b xs m.marked e here h) m

    pub meets_fresh : row b e 1 < 65536 → Fresh a xs e
    meets_fresh h = record { below = here.0; lives = here.1; new = is_new a b xs m.marked e here h }

    pub meets_new : row b e 1 < 65536 → (c : Raw) (o : ℕ) (d : List ℕ) → (Fresh a xs e → Numbered a c (xs ++ e ∷ []) o d) → Numbered a c (met_in ((shown a).held t) xs) o d
    meets_new h c o d f = rw (held_as (Some e) held, met_new e xs (meets_fresh h).new) (f (meets_fresh h))

-- and so in a table under numbering
module _ (b : Raw) (n : Numbering) (u : Counting b n) (t : Slot) (e : ℕ) (held : (shown b).held t ≡ Some e) where
  pub held_below : e < b.given
  held_below = ∥∥₁_elim u le_prop (λ x. omega (arith, (here x.0 b x.1 n.met n.counts x.2 t e held).0, same_given x.0 x.1 b x.2.marked.kept))

  pub held_next : row b e 1 < 65536 → Next b n e
  held_next h = ∥∥₁_map u (λ x. (x.0, x.1, x.2, meets_fresh x.0 b x.1 n.met n.counts x.2 t e held h))
