-- Where the words lie: two words of entries have one place only if row and column agree, landings are stacked below the entries, and each slot has a place of its own.
use Rattle.std.proofs.Common.{◌≡◌, ℕ, zero, suc, ◌+◌, ◌*◌, ◌/◌, ◌%◌, ◌<◌, ◌≤◌, true, cond, ◌&&◌, eqb, ◌≢◌, List, length, get_or, set, sym, ap, ◌∙◌, subst, inl, inr, arith}
use Rattle.std.proofs.lemmas.List.{get_or-set_same, get_or-set_other}
use Rattle.std.proofs.lemmas.Nat.{mul-add-lt, div-mul-add, mod-mul-add}
use Rattle.std.proofs.lemmas.Bool.{cases_lt, cases_eq}
use Rattle.std.proofs.lemmas.Bool.Decides.{nat_tests, eqb_tells}
use Rattle.machine.specs.Loading.{sum}
use Rattle.machine.specs.State.{Slot, cell, landing}
use Rattle.rows.specs.Layout.{Raw, Fits, Shape, Copied, Within, inside, count, spot, place, word}

pub place_fits : (base links capacity n e j : ℕ) → base + capacity * (links + 3) ≤ n → e < capacity → j < links + 3 → place base links e j < n
place_fits base links capacity n e j room he hj = omega (arith, mul-add-lt e (links + 3) j capacity he hj)

pub same_row : (base links e j x y : ℕ) → j < links + 3 → y < links + 3 → place base links x y ≡ place base links e j → x ≡ e
same_row base links e j x y hj hy h =
    let q : x * (links + 3) + y ≡ e * (links + 3) + j = omega arith in
    sym (div-mul-add x (links + 3) y hy) ∙ ap (λ n. n / (links + 3)) q ∙ div-mul-add e (links + 3) j hj

pub same_column : (base links e j x y : ℕ) → j < links + 3 → y < links + 3 → place base links x y ≡ place base links e j → y ≡ j
same_column base links e j x y hj hy h =
    let q : x * (links + 3) + y ≡ e * (links + 3) + j = omega arith in
    sym (mod-mul-add x (links + 3) y hy) ∙ ap (λ n. n % (links + 3)) q ∙ mod-mul-add e (links + 3) j hj

module _ (ws : List ℕ) (base links e j v : ℕ) where
  pub word_same : place base links e j < length ws → word (set ws (place base links e j) v) base links e j ≡ v
  unfolding word
  word_same h = get_or-set_same ws (place base links e j) v 0 h

  pub word_column : (x y : ℕ) → j < links + 3 → y < links + 3 → y ≢ j → word (set ws (place base links e j) v) base links x y ≡ word ws base links x y
  unfolding word
  word_column x y hj hy n = get_or-set_other ws (place base links e j) (place base links x y) v 0 (λ q. n (same_column base links e j x y hj hy q))

  pub word_row : (x y : ℕ) → j < links + 3 → y < links + 3 → x ≢ e → word (set ws (place base links e j) v) base links x y ≡ word ws base links x y
  unfolding word
  word_row x y hj hy n = get_or-set_other ws (place base links e j) (place base links x y) v 0 (λ q. n (same_row base links e j x y hj hy q))

  -- the whole of it
  pub word_set : (x y : ℕ) → place base links e j < length ws → j < links + 3 → y < links + 3 →
      word (set ws (place base links e j) v) base links x y ≡ cond (eqb x e && eqb y j) v (word ws base links x y)
  word_set x y h hj hy =
      elim (eqb_tells x e) [
        | inl p ↦ elim (eqb_tells y j) [
          | inl q ↦ rw (p.0, q.0, p.1, q.1) (word_same h)
          | inr q ↦ rw (p.0, q.0) (word_column x y hj hy q.1)
        ]
        | inr p ↦ rw p.0 (word_row x y hj hy p.1)
      ]

-- sums of more parts are more
pub sum_more : (f : ℕ → ℕ) (n k : ℕ) → k < n → sum f k + f k ≤ sum f n
unfolding sum
sum_more f zero k h = absurd (omega arith)
sum_more f (suc n) k h = elim (cases_eq k n) [ inl e ↦ rw e (omega arith) | inr e ↦ omega (arith, sum_more f n k (omega (arith, e))) ]

-- the tests of a slot
module _ (h : Shape) (given : ℕ) where
  pub inside_true : (t : Slot) → inside h given t ≡ true → Within h given t
  inside_true (cell e l) b = (grind (arith, nat_tests), grind (arith, nat_tests))
  inside_true (landing k q) b = (grind (arith, nat_tests), grind (arith, nat_tests))

  pub within_true : (t : Slot) → Within h given t → inside h given t ≡ true
  within_true (cell e l) w = grind (arith, nat_tests)
  within_true (landing k q) w = grind (arith, nat_tests)

module _ (r : Raw) (fits : Fits r) where
  pub copied_low : (i : ℕ) → Copied r.shape i → i < r.shape.base
  copied_low i (inl c) = omega (arith, fits.below)
  copied_low i (inr c) = c.1

  -- a landing lies between the problem and the source's answers
  pub landing_low : (k q : ℕ) → Within r.shape r.given (landing k q) → (r.shape.lands ≤ spot r.shape (landing k q)) × (spot r.shape (landing k q) < r.shape.lands + r.shape.records)
  landing_low k q w =
      let s = fits.stacked k w.0 in
      let m = sum_more (count r.shape) r.shape.kinds k w.0 in
      (omega arith, omega (arith, fits.total))

  pub spot_fits : (t : Slot) → Within r.shape r.given t → spot r.shape t < length r.ws
  spot_fits (cell e l) w = place_fits r.shape.base r.shape.links r.shape.capacity (length r.ws) e (3 + l) fits.room (omega (arith, fits.few)) (omega arith)
  spot_fits (landing k q) w = let h = landing_low k q w in omega (arith, fits.below, fits.room)

  -- a landing of a lower kind lies below
  landing_apart : (k q j p : ℕ) → Within r.shape r.given (landing k q) → Within r.shape r.given (landing j p) → k < j → spot r.shape (landing k q) < spot r.shape (landing j p)
  landing_apart k q j p w v h =
      let s = fits.stacked k w.0 in
      let t = fits.stacked j v.0 in
      let m = sum_more (count r.shape) j k h in
      omega arith

  pub spot_own : (t u : Slot) → Within r.shape r.given t → Within r.shape r.given u → spot r.shape u ≡ spot r.shape t → u ≡ t
  spot_own (cell e l) (cell x y) w v h =
      let a = same_row r.shape.base r.shape.links e (3 + l) x (3 + y) (omega arith) (omega arith) h in
      let b = same_column r.shape.base r.shape.links e (3 + l) x (3 + y) (omega arith) (omega arith) h in
      let c : y ≡ l = omega arith in cc
  spot_own (cell e l) (landing j p) w v h = let k = landing_low j p v in absurd (omega (arith, fits.below))
  spot_own (landing k q) (cell x y) w v h = let m = landing_low k q w in absurd (omega (arith, fits.below))
  spot_own (landing k q) (landing j p) w v h = elim (cases_eq j k) [
    | inl e ↦ (let c : p ≡ q = (let s : get_or r.shape.starts j 0 ≡ get_or r.shape.starts k 0 = ap (λ (n : ℕ). get_or r.shape.starts n 0) e in omega arith) in cc)
    | inr e ↦ elim (cases_lt j k) [
      | inl l ↦ absurd (let a = landing_apart j p k q v w l in omega arith)
      | inr l ↦ absurd (let a = landing_apart k q j p w v (omega (arith, e)) in omega arith)
    ]
  ]

  -- no slot lies at another word of an entry
  pub spot_apart : (t : Slot) → Within r.shape r.given t → (e j : ℕ) → j < 3 → spot r.shape t ≢ place r.shape.base r.shape.links e j
  spot_apart (cell x l) w e j h q = omega (arith, same_column r.shape.base r.shape.links e j x (3 + l) (omega arith) (omega arith) q)
  spot_apart (landing k p) w e j h q = let m = landing_low k p w in omega (arith, fits.below)

  -- nor at a copied word
  pub spot_copied : (t : Slot) → Within r.shape r.given t → (i : ℕ) → Copied r.shape i → i ≢ spot r.shape t
  spot_copied (cell x l) w i c q = omega (arith, copied_low i c)
  spot_copied (landing k p) w i (inl c) q = let m = landing_low k p w in omega arith
  spot_copied (landing k p) w i (inr c) q = let m = landing_low k p w in omega arith

  -- the place of a landing, as the code comes to it
  pub landing_placed : (t : Slot) (k q : ℕ) → t ≡ landing k q → Within r.shape r.given t →
      (get_or r.shape.starts k 0 + q ≡ spot r.shape t) × (get_or r.shape.starts k 0 + q < length r.ws) × (get_or r.shape.starts k 0 + q < r.shape.base)
  landing_placed t k q e w =
      let v : Within r.shape r.given (landing k q) = subst (Within r.shape r.given) e w in
      let h = landing_low k q v in
      (ap (spot r.shape) (sym e), spot_fits (landing k q) v, omega (arith, fits.below))
