-- One entry in the place of another, in all slots.
use Rattle.std.proofs.Common.{◌≡◌, ℕ, ◌+◌, ◌-◌, ◌*◌, ◌<◌, ◌≤◌, true, false, cond, ◌&&◌, eqb, ltb, leb, ◌⊎◌, List, length, get_or, sym, refl, ap, ◌∙◌, inl, inr, arith}
use Rattle.std.specs.List.{range_with_len}
use Rattle.std.proofs.lemmas.Nat.{mul-le}
use Rattle.std.proofs.lemmas.Bool.{cases_Bool}
use Rattle.std.proofs.lemmas.Bool.Decides.{nat_tests, eqb_tells}
use Rattle.machine.specs.State.{Slot, cell, landing}
use Rattle.machine.specs.Settling.{swap, rehold}
use Rattle.machine.proofs.Settle.{swap_held}
use Rattle.rows.specs.Layout.{Raw, Tidy, Becomes, Copied, Within, inside, spot, place, word, decode, shown, kind_of, forward_of, waiting_of}
use Rattle.rows.specs.Writes.{changed, changed_rows, swapped, over}
use Rattle.rows.proofs.Places.{inside_true, landing_low, copied_low}
use Rattle.rows.proofs.Writes.{length_changed, length_rows, changed_kept, get_d_changed, rows_low, word_rows}
use Rattle.rows.proofs.Shown.{same_state, held_in, held_out, map_same}
use Rattle.rows.proofs.Keeps.{tidy_by, fits_with}

pub decode_swapped : (v u w : ℕ) → decode (swapped (v + 1) (u + 1) w) ≡ swap v u (decode w)
decode_swapped v u w = elim (eqb_tells w 0) [
  | inl z ↦ (let n : eqb w (v + 1) ≡ false = grind (arith, nat_tests) in rw (n, z.0) refl)
  | inr z ↦ elim (eqb_tells w (v + 1)) [
    | inl q ↦ (
        let a : eqb (w - 1) v ≡ true = grind (arith, nat_tests) in
        let b : eqb (u + 1) 0 ≡ false = grind (arith, nat_tests) in
        let d : u + 1 - 1 ≡ u = omega arith in
        rw (q.0, z.0, a, b, d) refl)
    | inr q ↦ (let a : eqb (w - 1) v ≡ false = grind (arith, nat_tests) in rw (q.0, z.0, a) refl)
  ]
]

module _ (r : Raw) (ok : Tidy r) (v u : ℕ) where
  abbrev rows : List ℕ
  rows = changed_rows (swapped (v + 1) (u + 1)) r.ws r.shape.base r.shape.links r.given

  abbrev all : List ℕ
  all = changed (swapped (v + 1) (u + 1)) rows r.shape.lands r.shape.records

  room : r.shape.base + r.given * (r.shape.links + 3) ≤ length r.ws
  room = omega (arith, mul-le r.given (r.shape.links + 3) r.shape.capacity (r.shape.links + 3) ok.fits.few (omega arith), ok.fits.room)

  size : length rows ≡ length r.ws
  size = length_rows (swapped (v + 1) (u + 1)) r.ws r.shape.base r.shape.links r.given

  pub lands_fit : r.shape.lands + r.shape.records ≤ length rows
  lands_fit = omega (arith, size, ok.fits.below, ok.fits.room)

  length_all : length all ≡ length r.ws
  length_all = length_changed (swapped (v + 1) (u + 1)) rows r.shape.lands r.shape.records ∙ size

  -- the words of the entries
  word_all : (x y : ℕ) → y < r.shape.links + 3 → word all r.shape.base r.shape.links x y ≡
      cond (ltb x r.given && leb 3 y) (swapped (v + 1) (u + 1) (word r.ws r.shape.base r.shape.links x y)) (word r.ws r.shape.base r.shape.links x y)
  unfolding word
  word_all x y h = changed_kept (swapped (v + 1) (u + 1)) rows r.shape.lands r.shape.records (place r.shape.base r.shape.links x y) lands_fit (inr (omega (arith, ok.fits.below)))
      ∙ word_rows (swapped (v + 1) (u + 1)) r.ws r.shape.base r.shape.links r.given x y room h

  column : (x y : ℕ) → y < 3 → word all r.shape.base r.shape.links x y ≡ word r.ws r.shape.base r.shape.links x y
  column x y h = word_all x y (omega arith) ∙ grind (arith, nat_tests)

  -- the words of the slots
  spot_all : (t : Slot) → Within r.shape r.given t → get_or all (spot r.shape t) 0 ≡ swapped (v + 1) (u + 1) (get_or r.ws (spot r.shape t) 0)
  unfolding word
  spot_all (cell e l) w =
      let a : (ltb e r.given && leb 3 (3 + l)) ≡ true = grind (arith, nat_tests) in
      word_all e (3 + l) (omega arith) ∙ rw a refl
  spot_all (landing k q) w =
      let h = landing_low r ok.fits k q w in
      let g = get_d_changed (swapped (v + 1) (u + 1)) rows r.shape.lands r.shape.records (spot r.shape (landing k q)) lands_fit in
      let a : (leb r.shape.lands (spot r.shape (landing k q)) && ltb (spot r.shape (landing k q)) (r.shape.lands + r.shape.records)) ≡ true = grind (arith, nat_tests) in
      let b = rows_low (swapped (v + 1) (u + 1)) r.ws r.shape.base r.shape.links r.given (spot r.shape (landing k q)) room (omega (arith, ok.fits.below)) in
      g ∙ rw (a, b) refl

  held_all : (t : Slot) → (shown (over r all)).held t ≡ swap v u ((shown r).held t)
  held_all t = elim (cases_Bool (inside r.shape r.given t)) [
    | inl b ↦ held_in (over r all) t b ∙ ap decode (spot_all t (inside_true r.shape r.given t b)) ∙ decode_swapped v u (get_or r.ws (spot r.shape t) 0) ∙ ap (swap v u) (sym (held_in r t b))
    | inr b ↦ sym (held_out (over r all) t b) ∙ ap (swap v u) (held_out r t b)
  ]

  shown_all : shown (over r all) ≡ rehold v u (shown r)
  unfolding kind_of forward_of waiting_of
  shown_all = same_state _ _ refl
      (λ x. ap (λ n. cond (ltb x r.given) n 0) (column x 0 (omega arith)))
      (λ x. ap (λ n. cond (ltb x r.given) n x) (column x 1 (omega arith)))
      held_all
      (map_same _ _ (range_with_len r.front r.waits) (λ i. column i 2 (omega arith)))

  copied_all : (i : ℕ) → Copied r.shape i → (i < r.shape.lands) ⊎ (r.shape.lands + r.shape.records ≤ i)
  copied_all i (inl a) = inl a
  copied_all i (inr a) = inr a.0

  pub becomes_reheld : u < r.given → Becomes r (rehold v u) (over r all)
  becomes_reheld h = record {
    tidy = tidy_by (over r all) (rehold v u (shown r)) (fits_with r all r.given r.waits ok.fits length_all ok.fits.few) shown_all ok.lower
        (λ t w e. elim (swap_held v u ((shown r).held t) w e) [ inl q ↦ omega (arith, q.1) | inr q ↦ ok.given t w q.0 ])
        ok.queued;
    state = shown_all;
    same = record {
      shape = refl;
      size = length_all;
      copies = λ i c.
          changed_kept (swapped (v + 1) (u + 1)) rows r.shape.lands r.shape.records i lands_fit (copied_all i c)
          ∙ rows_low (swapped (v + 1) (u + 1)) r.ws r.shape.base r.shape.links r.given i room (copied_low r ok.fits i c);
    };
  }

  -- as the code comes to it: the cells of all entries, and then the landings
  module _ (z : Raw) (p : z ≡ over r rows) where
    pub lands_in : z.shape.lands + z.shape.records ≤ length z.ws
    lands_in = rw p lands_fit

    pub becomes_replaced : (ws : List ℕ) → ws ≡ changed (swapped (v + 1) (u + 1)) z.ws z.shape.lands z.shape.records → u < r.given → Becomes r (rehold v u) (over z ws)
    becomes_replaced ws q h =
        let e : over z ws ≡ over r all = ap (over z) q ∙ ap (λ (y : Raw). over y (changed (swapped (v + 1) (u + 1)) y.ws y.shape.lands y.shape.records)) p in
        rw e (becomes_reheld h)
