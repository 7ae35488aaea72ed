-- What a write does to the state that the words show.
use Rattle.std.proofs.Common.{◌≡◌, ℕ, zero, suc, ◌+◌, ◌-◌, ◌<◌, ◌≤◌, true, false, cond, ◌&&◌, eqb, ltb, leb, List, map, length, get_or, set, Some, None, Option, sym, refl, ap, ◌∙◌, inl, inr, add-one, arith}
use mathlib.Core.Path.{fun_ext}
use Rattle.std.specs.List.{range_with_len}
use Rattle.std.proofs.lemmas.List.{length-set, get_or-set_same, get_or-set_other}
use Rattle.std.proofs.lemmas.List.FromFn.{map-range_with_len_more, length-map-range_with_len}
use Rattle.std.proofs.lemmas.Bool.{cases_Bool}
use Rattle.std.proofs.lemmas.Bool.Decides.{nat_tests, leb_tells}
use Rattle.machine.specs.State.{Slot, cell, landing, State, put, hold}
use Rattle.machine.specs.Merging.{die}
use Rattle.machine.specs.Settling.{tail, pop}
use Rattle.machine.proofs.Base.{put_cases}
use Rattle.rows.specs.Layout.{Raw, Fits, Within, inside, spot, place, word, decode, shown, kind_of, forward_of, held_of, waiting_of}
use Rattle.rows.specs.Writes.{changed, emptied, added}
use Rattle.rows.proofs.Places.{inside_true, within_true, place_fits, word_set, spot_fits, spot_own, spot_apart, landing_low}
use Rattle.rows.proofs.Writes.{length_changed, changed_kept, word_changed}

pub same_state : (s t : State) → s.given ≡ t.given → ((e : ℕ) → s.kind e ≡ t.kind e) → ((e : ℕ) → s.forward e ≡ t.forward e) →
    ((t' : Slot) → s.held t' ≡ t.held t') → s.waiting ≡ t.waiting → s ≡ t
same_state s t n k f x w = λ i. record { given = n i; kind = λ e. k e i; forward = λ e. f e i; held = λ e. x e i; waiting = w i }

-- the same numbers, but words, numbers given and numbers waiting
abbrev pub with : Raw → List ℕ → ℕ → ℕ → Raw
with r ws given waits = record { ws = ws; shape = r.shape; given = given; front = r.front; waits = waits }

-- what a slot holds, by its word
module _ (r : Raw) (t : Slot) where
  pub held_out : inside r.shape r.given t ≡ false → None ≡ (shown r).held t
  unfolding held_of
  held_out h = rw h refl

  pub held_in : inside r.shape r.given t ≡ true → (shown r).held t ≡ decode (get_or r.ws (spot r.shape t) 0)
  unfolding held_of
  held_in h = rw h refl

  pub held_none : inside r.shape r.given t ≡ true → get_or r.ws (spot r.shape t) 0 ≡ 0 → (shown r).held t ≡ None
  held_none h z = held_in h ∙ rw z refl

  pub held_some : inside r.shape r.given t ≡ true → 1 ≤ get_or r.ws (spot r.shape t) 0 → (shown r).held t ≡ Some (get_or r.ws (spot r.shape t) 0 - 1)
  held_some h n = let z : eqb (get_or r.ws (spot r.shape t) 0) 0 ≡ false = grind (arith, nat_tests) in held_in h ∙ rw z refl

pub decode_more : (v : ℕ) → decode (v + 1) ≡ Some v
decode_more v = let h : v + 1 - 1 ≡ v = omega arith in grind (arith, nat_tests)

-- lists made from functions that agree
pub map_same : (f h : ℕ → ℕ) (xs : List ℕ) → ((i : ℕ) → f i ≡ h i) → map f xs ≡ map h xs
map_same f h xs e = ap (λ (k : ℕ → ℕ). map k xs) (fun_ext e)

map_counting_same : (f h : ℕ → ℕ) (a n : ℕ) → ((i : ℕ) → i < a + n → f i ≡ h i) → map f (range_with_len a n) ≡ map h (range_with_len a n)
map_counting_same f h a zero e = refl
map_counting_same f h a (suc n) e =
    let z : f a ≡ h a = e a (omega arith) in
    let i = map_counting_same f h (a + 1) n (λ i l. e i (omega arith)) in cc

-- a slot whose word is the same holds the same
pub held_kept : (r : Raw) (ws : List ℕ) (waits : ℕ) (t : Slot) → (Within r.shape r.given t → get_or ws (spot r.shape t) 0 ≡ get_or r.ws (spot r.shape t) 0) →
    (shown (with r ws r.given waits)).held t ≡ (shown r).held t
held_kept r ws waits t e = elim (cases_Bool (inside r.shape r.given t)) [
  | inl b ↦ held_in (with r ws r.given waits) t b ∙ ap decode (e (inside_true r.shape r.given t b)) ∙ sym (held_in r t b)
  | inr b ↦ sym (held_out (with r ws r.given waits) t b) ∙ held_out r t b
]

-- a slot is written
module _ (r : Raw) (fits : Fits r) (t : Slot) (v : ℕ) (in_t : Within r.shape r.given t) where
  column : (x y : ℕ) → y < 3 → word (set r.ws (spot r.shape t) v) r.shape.base r.shape.links x y ≡ word r.ws r.shape.base r.shape.links x y
  unfolding word
  column x y h = get_or-set_other r.ws (spot r.shape t) (place r.shape.base r.shape.links x y) v 0 (λ q. spot_apart r fits t in_t x y h (sym q))

  abbrev slotted : Raw
  slotted = with r (set r.ws (spot r.shape t) v) r.given r.waits

  held_write : (u : Slot) → (shown slotted).held u ≡ put t (decode v) (shown r).held u
  held_write u = elim (put_cases t u (decode v) (shown r).held) [
    | inl q ↦ ap (shown slotted).held q.0 ∙ held_in slotted t (within_true r.shape r.given t in_t)
        ∙ ap decode (get_or-set_same r.ws (spot r.shape t) v 0 (spot_fits r fits t in_t)) ∙ sym q.1
    | inr q ↦ held_kept r (set r.ws (spot r.shape t) v) r.waits u
        (λ w. get_or-set_other r.ws (spot r.shape t) (spot r.shape u) v 0 (λ p. q.0 (spot_own r fits t u in_t w p))) ∙ sym q.1
  ]

  pub shown_hold : shown slotted ≡ hold t (decode v) (shown r)
  unfolding kind_of forward_of waiting_of
  shown_hold = same_state _ _ refl
      (λ x. ap (λ n. cond (ltb x r.given) n 0) (column x 0 (omega arith)))
      (λ x. ap (λ n. cond (ltb x r.given) n x) (column x 1 (omega arith)))
      held_write
      (map_same _ _ (range_with_len r.front r.waits) (λ i. column i 2 (omega arith)))

-- an entry is given: its kind, its forward and its empty cells are written
module _ (r : Raw) (fits : Fits r) (k : ℕ) (free : r.given < r.shape.capacity) where
  abbrev at : ℕ → ℕ
  at j = place r.shape.base r.shape.links r.given j

  abbrev named : List ℕ
  named = set (set r.ws (at 0) k) (at 1) r.given

  abbrev pub grown : List ℕ
  grown = changed emptied named (at 3) r.shape.links

  fit : (j : ℕ) → j < r.shape.links + 3 → at j < length r.ws
  fit j hj = place_fits r.shape.base r.shape.links r.shape.capacity (length r.ws) r.given j fits.room free hj

  length_named : length named ≡ length r.ws
  length_named = length-set (set r.ws (at 0) k) (at 1) r.given ∙ length-set r.ws (at 0) k

  pub length_grown : length grown ≡ length r.ws
  length_grown = length_changed emptied named (at 3) r.shape.links ∙ length_named

  cells_fit : at 3 + r.shape.links ≤ length named
  cells_fit = let f = fit (r.shape.links + 2) (omega arith) in omega (arith, length_named)

  -- what lies below the entries is as it was
  pub grown_low : (i : ℕ) → i < r.shape.base → get_or grown i 0 ≡ get_or r.ws i 0
  grown_low i h = changed_kept emptied named (at 3) r.shape.links i cells_fit (inl (omega arith))
      ∙ get_or-set_other (set r.ws (at 0) k) (at 1) i r.given 0 (λ q. omega arith) ∙ get_or-set_other r.ws (at 0) i k 0 (λ q. omega arith)

  -- each word of the entries after it
  word_grown : (x y : ℕ) → y < r.shape.links + 3 → word grown r.shape.base r.shape.links x y ≡
      cond (eqb x r.given) (cond (leb 3 y) 0 (cond (eqb y 1) r.given (cond (eqb y 0) k (word r.ws r.shape.base r.shape.links x y)))) (word r.ws r.shape.base r.shape.links x y)
  word_grown x y hy =
      let l1 = length-set r.ws (at 0) k in
      let a1 = word_set r.ws r.shape.base r.shape.links r.given 0 k x y (fit 0 (omega arith)) (omega arith) hy in
      let f1 = fit 1 (omega arith) in
      let a2 : word named r.shape.base r.shape.links x y ≡ cond (eqb x r.given && eqb y 1) r.given (word (set r.ws (at 0) k) r.shape.base r.shape.links x y) =
      word_set (set r.ws (at 0) k) r.shape.base r.shape.links r.given 1 r.given x y (omega arith) (omega arith) hy in
      let a3 : word grown r.shape.base r.shape.links x y ≡
      cond (eqb x r.given && (leb 3 y && ltb y (3 + r.shape.links))) (emptied (word named r.shape.base r.shape.links x y)) (word named r.shape.base r.shape.links x y) =
      word_changed emptied named r.shape.base r.shape.links r.given r.shape.links x y cells_fit (omega arith) hy in
      grind (arith, nat_tests)

  held_grown : (t : Slot) → (shown (with r grown (r.given + 1) r.waits)).held t ≡ (shown r).held t
  unfolding held_of word
  held_grown (cell x y) = elim (leb_tells (suc y) r.shape.links) [
    | inl p ↦ let w = word_grown x (3 + y) (omega arith) in grind (arith, nat_tests)
    | inr p ↦ grind (arith, nat_tests)
  ]
  held_grown (landing j q) = elim (cases_Bool (inside r.shape r.given (landing j q))) [
    | inl b ↦ rw b (ap decode (grown_low _ (let h = landing_low r fits j q (inside_true r.shape r.given (landing j q) b) in omega (arith, fits.below))))
    | inr b ↦ rw b refl
  ]

  pub shown_grown : shown (with r grown (r.given + 1) r.waits) ≡ added k (shown r)
  unfolding kind_of forward_of waiting_of
  shown_grown = same_state _ _ (add-one r.given)
      (λ x. let w = word_grown x 0 (omega arith) in grind (arith, nat_tests))
      (λ x. let w = word_grown x 1 (omega arith) in grind (arith, nat_tests))
      held_grown
      (map_same _ _ (range_with_len r.front r.waits) (λ i. let w = word_grown i 2 (omega arith) in grind (arith, nat_tests)))

-- an entry dies: its forward and the next slot of the waiting list are written
module _ (r : Raw) (fits : Fits r) (v u : ℕ) (here : v < r.given) (room : r.front + r.waits < r.shape.capacity) where
  abbrev turned : List ℕ
  turned = set r.ws (place r.shape.base r.shape.links v 1) u

  abbrev last : ℕ
  last = place r.shape.base r.shape.links (r.front + r.waits) 2

  abbrev pub dead : List ℕ
  dead = set turned last v

  pub dead_low : (i : ℕ) → i < r.shape.base → get_or dead i 0 ≡ get_or r.ws i 0
  dead_low i h = get_or-set_other turned last i v 0 (λ q. omega arith) ∙ get_or-set_other r.ws (place r.shape.base r.shape.links v 1) i u 0 (λ q. omega arith)

  word_dead : (x y : ℕ) → y < r.shape.links + 3 → word dead r.shape.base r.shape.links x y ≡
      cond (eqb x (r.front + r.waits) && eqb y 2) v (cond (eqb x v && eqb y 1) u (word r.ws r.shape.base r.shape.links x y))
  word_dead x y hy =
      let l = length-set r.ws (place r.shape.base r.shape.links v 1) u in
      let f1 = place_fits r.shape.base r.shape.links r.shape.capacity (length r.ws) v 1 fits.room (omega (arith, fits.few)) (omega arith) in
      let f2 = place_fits r.shape.base r.shape.links r.shape.capacity (length r.ws) (r.front + r.waits) 2 fits.room room (omega arith) in
      word_set turned r.shape.base r.shape.links (r.front + r.waits) 2 v x y (omega arith) (omega arith) hy
      ∙ ap (cond (eqb x (r.front + r.waits) && eqb y 2) v) (word_set r.ws r.shape.base r.shape.links v 1 u x y f1 (omega arith) hy)

  pub shown_dead : shown (with r dead r.given (r.waits + 1)) ≡ die v u (shown r)
  unfolding kind_of forward_of waiting_of
  shown_dead = same_state _ _ refl
      (λ x. let w = word_dead x 0 (omega arith) in grind (arith, nat_tests))
      (λ x. let w = word_dead x 1 (omega arith) in grind (arith, nat_tests))
      (λ t. held_kept r dead (r.waits + 1) t (λ w.
      get_or-set_other turned last (spot r.shape t) v 0 (spot_apart r fits t w (r.front + r.waits) 2 (omega arith))
      ∙ get_or-set_other r.ws (place r.shape.base r.shape.links v 1) (spot r.shape t) u 0 (spot_apart r fits t w v 1 (omega arith))))
      (map-range_with_len_more (λ i. word dead r.shape.base r.shape.links i 2) r.front r.waits (r.front + r.waits) refl
      ∙ let z : word dead r.shape.base r.shape.links (r.front + r.waits) 2 ≡ v = let w = word_dead (r.front + r.waits) 2 (omega arith) in grind (arith, nat_tests) in
      let i = map_counting_same (λ i. word dead r.shape.base r.shape.links i 2) (λ i. word r.ws r.shape.base r.shape.links i 2) r.front r.waits
      (λ i l. let w = word_dead i 2 (omega arith) in grind (arith, nat_tests)) in
      rw (z, i))

-- the first that waits, and the rest
abbrev pub popped : Raw → Raw
popped r = record { ws = r.ws; shape = r.shape; given = r.given; front = r.front + 1; waits = r.waits - 1 }

pub first_waits : (r : Raw) → 0 < r.waits → word r.ws r.shape.base r.shape.links r.front 2 ≡ get_or (shown r).waiting 0 0
unfolding waiting_of
first_waits r h = let q : r.waits ≡ suc (r.waits - 1) = omega arith in rw q refl

pub shown_popped : (r : Raw) → 0 < r.waits → shown (popped r) ≡ pop (shown r)
unfolding waiting_of kind_of forward_of held_of
shown_popped r h = let q : r.waits ≡ suc (r.waits - 1) = omega arith in
    same_state _ _ refl (λ _. refl) (λ _. refl) (λ _. refl)
    (sym (ap (λ (n : ℕ). tail (map (λ i. word r.ws r.shape.base r.shape.links i 2) (range_with_len r.front n))) q))

pub waits_are : (r : Raw) → length (shown r).waiting ≡ r.waits
unfolding waiting_of
waits_are r = length-map-range_with_len (λ i. word r.ws r.shape.base r.shape.links i 2) r.front r.waits
