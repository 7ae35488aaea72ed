-- The last steps of sweeping, in the words: a row is moved down, and the table is cut.
use Rattle.std.proofs.Common.{◌≡◌, ℕ, zero, suc, ◌+◌, ◌-◌, ◌<◌, ◌≤◌, Bool, true, false, cond, eqb, ltb, ◌≢◌, List, [], length, get_or, set, Some, None, Option, sym, refl, ap, ◌∙◌, subst, inl, inr, arith}
use Rattle.std.proofs.lemmas.Nat.{mul-add-lt}
use Rattle.std.proofs.lemmas.List.{length-set, get_or-set_other}
use Rattle.std.proofs.lemmas.Bool.{cases_Bool, cases_lt, cases_eq}
use Rattle.std.proofs.lemmas.Bool.Decides.{nat_tests, eqb_tells, leb_tells}
use Rattle.machine.specs.Loaded.{Loaded}
use Rattle.machine.specs.Sound.{Mem, Sound}
use Rattle.machine.specs.State.{Slot, cell, landing, State}
use Rattle.machine.specs.Sweeping.{rank, renamed, swept}
use Rattle.machine.proofs.Fill.{some_none}
use Rattle.machine.proofs.Ranks.{rank_live, rank_small}
use Rattle.machine.proofs.Sweep.{rank_less, renamed_held}
use Rattle.rows.specs.Layout.{Raw, Fits, Tidy, Becomes, inside, place, word, shown, kind_of, forward_of, held_of}
use Rattle.rows.specs.Sweeps.{renames, in_rows, in_kinds, at_entry, moves, packed, HeldLive, Still, Goes}
use Rattle.rows.proofs.Places.{place_fits, word_same, word_column, word_row, copied_low, landing_low}
use Rattle.rows.proofs.Shown.{with, same_state, held_out, held_kept}
use Rattle.rows.proofs.Keeps.{AllGiven, tidy_by}
use Rattle.rows.proofs.Bridge.{none_waiting}
use Rattle.rows.proofs.SweepStates.{Adds, cut, cut_swept, renames_more, parts_all}
use Rattle.rows.proofs.SweepSteps.{goes_by, goes_then}

-- n words are the same as those from `from` on, from `to` on, and the others stay
pub record Copy (old new : List ℕ) (from to n : ℕ) : Type 0 where
  pub size : length new ≡ length old
  pub there : (i : ℕ) → to ≤ i → i < to + n → get_or new i 0 ≡ get_or old (from + (i - to)) 0
  pub below : (i : ℕ) → i < to → get_or new i 0 ≡ get_or old i 0
  pub above : (i : ℕ) → to + n ≤ i → get_or new i 0 ≡ get_or old i 0

-- the row e over the row k
module _ (old new : List ℕ) (base links e k : ℕ) (copy : Copy old new (place base links e 0) (place base links k 0) (links + 3)) where
  copied_there : (y : ℕ) → y < links + 3 → word new base links k y ≡ word old base links e y
  unfolding word
  copied_there y hy =
      copy.there (place base links k y) (omega arith) (omega arith)
      ∙ ap (λ (i : ℕ). get_or old i 0) (let q : place base links e 0 + (place base links k y - place base links k 0) ≡ place base links e y = omega arith in q)

  copied_other : (x y : ℕ) → y < links + 3 → x ≢ k → word new base links x y ≡ word old base links x y
  unfolding word
  copied_other x y hy n = elim (cases_lt x k) [
    | inl l ↦ copy.below (place base links x y) (omega (arith, mul-add-lt x (links + 3) y k l hy))
    | inr l ↦ copy.above (place base links x y) (let g : k < x = omega (arith, n, l) in omega (arith, mul-add-lt k (links + 3) (links + 2) x g (omega arith)))
  ]

module _ (r : Raw) (s : Still r) (e k : ℕ) (he : e < r.given) (hk : k ≤ e) (new : List ℕ)
    (copy : Copy r.ws new (place r.shape.base r.shape.links e 0) (place r.shape.base r.shape.links k 0) (r.shape.links + 3)) where
  abbrev over : List ℕ
  over = set new (place r.shape.base r.shape.links k 1) k

  over_forward : word over r.shape.base r.shape.links k 1 ≡ k
  over_forward = word_same new r.shape.base r.shape.links k 1 k
      (let h = place_fits r.shape.base r.shape.links r.shape.capacity (length r.ws) k 1 s.fits.room (omega (arith, s.fits.few)) (omega arith) in omega (arith, copy.size))

  over_row : (y : ℕ) → y < r.shape.links + 3 → y ≢ 1 → word over r.shape.base r.shape.links k y ≡ word r.ws r.shape.base r.shape.links e y
  over_row y hy n = word_column new r.shape.base r.shape.links k 1 k k y (omega arith) hy n ∙ copied_there r.ws new r.shape.base r.shape.links e k copy y hy

  over_other : (x y : ℕ) → y < r.shape.links + 3 → x ≢ k → word over r.shape.base r.shape.links x y ≡ word r.ws r.shape.base r.shape.links x y
  over_other x y hy n = word_row new r.shape.base r.shape.links k 1 k x y (omega arith) hy n ∙ copied_other r.ws new r.shape.base r.shape.links e k copy x y hy n

  over_low : (i : ℕ) → i < r.shape.base → get_or over i 0 ≡ get_or r.ws i 0
  over_low i h = get_or-set_other new (place r.shape.base r.shape.links k 1) i k 0 (λ q. omega arith) ∙ copy.below i (omega arith)

  abbrev moved : Raw
  moved = with r over r.given r.waits

  held_moved : (t : Slot) → (shown moved).held t ≡ (moves e k (shown r)).held t
  unfolding held_of word
  held_moved (cell x l) = elim (leb_tells (suc l) r.shape.links) [
    | inl p ↦ elim (eqb_tells x k) [
      | inl a ↦ (let w = over_row (3 + l) (omega (arith, p.1)) (λ q. omega arith) in rw a.0 (grind (arith, nat_tests)))
      | inr a ↦ (let w = over_other x (3 + l) (omega (arith, p.1)) a.1 in rw a.0 (grind (arith, nat_tests)))
    ]
    | inr p ↦ grind (arith, nat_tests)
  ]
  held_moved (landing j q) = held_kept r over r.waits (landing j q) (λ w. over_low _ (let h = landing_low r s.fits j q w in omega (arith, s.fits.below)))

  shown_moved : shown moved ≡ moves e k (shown r)
  unfolding kind_of forward_of
  shown_moved = same_state _ _ refl
      (λ x. elim (eqb_tells x k) [
        | inl a ↦ (let w = over_row 0 (omega arith) (λ q. omega arith) in rw a.0 (grind (arith, nat_tests)))
        | inr a ↦ (let w = over_other x 0 (omega arith) a.1 in rw a.0 (grind (arith, nat_tests)))
      ])
      (λ x. elim (eqb_tells x k) [
        | inl a ↦ (let w = over_forward in rw a.0 (grind (arith, nat_tests)))
        | inr a ↦ (let w = over_other x 1 (omega arith) a.1 in rw a.0 (grind (arith, nat_tests)))
      ])
      held_moved
      (none_waiting moved s.quiet ∙ sym (none_waiting r s.quiet))

  goes_over : Goes r (moves e k) moved
  goes_over = goes_by r over (moves e k) s (length-set new (place r.shape.base r.shape.links k 1) k ∙ copy.size) (λ i c. over_low i (copied_low r s.fits i c)) shown_moved
      (λ t w h. s.given (at_entry (λ x. cond (eqb x k) e x) t) w h)

-- as the code comes to it
pub goes_move : (r : Raw) → Still r → (e k : ℕ) → e < r.given → k ≤ e → (new : List ℕ) (from to n : ℕ) →
    from ≡ place r.shape.base r.shape.links e 0 → to ≡ place r.shape.base r.shape.links k 0 → n ≡ r.shape.links + 3 →
    Copy r.ws new from to n → Goes r (moves e k) (with r (set new (to + 1) k) r.given r.waits)
goes_move r s e k he hk new from to n pf pt pn copy =
    let q : to + 1 ≡ place r.shape.base r.shape.links k 1 = omega arith in
    rw q (goes_over r s e k he hk new (rw (pf, pt, pn) at copy))

-- nothing from k on is given any more
abbrev pub shrunk : Raw → ℕ → Raw
shrunk r k = record { ws = r.ws; shape = r.shape; given = k; front = 0; waits = r.waits }

fits_shrunk : (r : Raw) (k : ℕ) → Fits r → k ≤ r.shape.capacity → Fits (shrunk r k)
fits_shrunk r k f h = record {
  below = f.below;
  room = f.room;
  few = h;
  small = f.small;
  narrow = f.narrow;
  lot = f.lot;
  sorts = f.sorts;
  stacked = f.stacked;
  total = f.total;
}

module _ (r : Raw) (s : Still r) (k : ℕ) (h : k ≤ r.given) where
  held_cut : (t : Slot) → (shown (shrunk r k)).held t ≡ (cut k (shown r)).held t
  unfolding held_of
  held_cut (cell x l) = grind (arith, nat_tests)
  held_cut (landing j q) = refl

  shown_cut : shown (shrunk r k) ≡ cut k (shown r)
  unfolding kind_of forward_of
  shown_cut = same_state _ _ refl (λ x. grind (arith, nat_tests)) (λ x. grind (arith, nat_tests)) held_cut (none_waiting (shrunk r k) s.quiet)

-- what is held after a sweep was given
below_swept : (s : State) (o : Option ℕ) → ((w : ℕ) → o ≡ Some w → (w < s.given) × (s.forward w ≡ w)) → (b : Bool) (v : ℕ) → cond b (renamed (rank s.forward) o) None ≡ Some v → v < rank s.forward s.given
below_swept s o h true v e = let q = renamed_held (rank s.forward) o v e in let l = h q.0 q.1 in omega (arith, rank_less s.forward q.0 s.given l.1 l.0, q.2)
below_swept s o h false v e = absurd (some_none v None e refl)

swept_given : (s : State) → AllGiven s → HeldLive s → AllGiven (swept s)
swept_given s g l (cell x y) v e = below_swept s _ (λ w q. (g _ w q, l _ w q)) (ltb x (rank s.forward s.given)) v e
swept_given s g l (landing j q) v e = below_swept s _ (λ w p. (g (landing j q) w p, l (landing j q) w p)) true v e

rank_all : (n : ℕ) → rank (λ x. x) n ≡ n
unfolding rank
rank_all zero = refl
rank_all (suc n) = rank_live (λ x. x) n refl ∙ ap suc (rank_all n)

renames_inside : (r : Raw) (t : Slot) → (renames (inside r.shape r.given) (shown r)).held t ≡ renamed (rank (shown r).forward) ((shown r).held t)
renames_inside r t = elim (cases_Bool (inside r.shape r.given t)) [
  | inl b ↦ rw b refl
  | inr b ↦ (let n = sym (held_out r t b) in rw (b, n) refl)
]

-- what is held lives in a sound state, while none waits
pub sound_live : (L : Loaded) (s : State) → Sound L s → s.waiting ≡ [] → HeldLive s
sound_live L s ok none t w e = elim (cases_eq (s.forward w) w) [
  | inl q ↦ q
  | inr d ↦ (let m : Mem w [] = subst (Mem w) none ((ok.used t w e).0.if_dead d) in elim m [ ])
]

-- the steps of the code, taken together: k are left
pub record Done (r z : Raw) (k : ℕ) : Type 0 where
  pub given : z.given ≡ r.given
  pub many : k ≡ rank (shown r).forward r.given
  pub becomes : Becomes r swept (shrunk z k)

module _ (r a b d z : Raw) (ok : Tidy r) (live : HeldLive (shown r))
    (number : Goes r (λ s. s) a) (cells : Goes a (renames (in_rows a.given a.shape.links)) b) (landings : Goes b (renames (in_kinds b.shape b.shape.kinds)) d)
    (pack : Goes d (packed d.given) z) (k : ℕ) (is : k ≡ rank (shown d).forward d.given) where
  abbrev rows : Slot → Bool
  rows = in_rows a.given a.shape.links

  abbrev kinds : Slot → Bool
  kinds = in_kinds b.shape b.shape.kinds

  parts : (t : Slot) → Adds (rows t) (kinds t) (inside r.shape r.given t)
  parts t =
      let n : a.given ≡ r.given = ap (λ (z : State). z.given) number.state in
      let g : a.shape ≡ r.shape = number.same.shape in
      let h : b.shape ≡ r.shape = cells.same.shape ∙ g in
      rw (n, g, h) (parts_all r.shape r.given t)

  named : Goes r (renames (inside r.shape r.given)) d
  named = goes_then r b d (renames rows) (renames kinds) _ (goes_then r a b (λ s. s) (renames rows) _ number cells refl) landings (renames_more (shown r) rows kinds _ parts)

  all : Goes r (λ s. packed r.given (renames (inside r.shape r.given) s)) z
  all = goes_then r d z _ _ _ named pack (ap (λ (n : ℕ). packed n (renames (inside r.shape r.given) (shown r))) (ap (λ (s : State). s.given) named.state))

  given : z.given ≡ r.given
  given = ap (λ (s : State). s.given) all.state

  many : k ≡ rank (shown r).forward r.given
  many = is ∙ ap (λ (s : State). rank s.forward s.given) named.state

  few : k ≤ z.given
  few = omega (arith, given, many, rank_small (shown r).forward r.given)

  shown_swept : shown (shrunk z k) ≡ swept (shown r)
  shown_swept = shown_cut z all.still k few ∙ ap (cut k) all.state
      ∙ ap (λ (m : ℕ). cut m (packed r.given (renames (inside r.shape r.given) (shown r)))) many
      ∙ cut_swept (shown r) (inside r.shape r.given) (renames_inside r)

  becomes_swept : Becomes r swept (shrunk z k)
  becomes_swept = record {
    tidy = tidy_by (shrunk z k) (swept (shown r)) (fits_shrunk z k all.still.fits (omega (arith, few, all.still.fits.few))) shown_swept
        (λ x. omega arith) (swept_given (shown r) ok.given live) (omega (arith, all.still.quiet, rank_all (rank (shown r).forward r.given)));
    state = shown_swept;
    same = record { shape = all.same.shape; size = all.same.size; copies = all.same.copies };
  }

  pub done : Done r z k
  done = record { given = given; many = many; becomes = becomes_swept }
