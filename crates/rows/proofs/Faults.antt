-- The refusals of the calls that give entries, by the tests of the code.
use Rattle.std.proofs.Common.{◌≡◌, ℕ, zero, suc, ◌<◌, ◌≤◌, Bool, true, false, cond, ◌&&◌, eqb, ltb, List, [], ◌∷◌, length, get_or, take, filter, Some, None, Ok, Err, Option, is_some, sym, refl, ap, ◌∙◌, inl, inr, add-one, zero-add, arith}
use Rattle.std.specs.Bool.{then_some}
use Rattle.std.specs.List.{count_by, range_with_len}
use Rattle.std.proofs.lemmas.List.{take_all}
use Rattle.std.proofs.lemmas.List.Sums.{length-filter}
use Rattle.std.proofs.lemmas.List.Filters.{length-filter_more}
use Rattle.std.proofs.lemmas.List.FromFn.{length-range_with_len, get_or-range_with_len}
use Rattle.std.proofs.lemmas.Bool.{cases_Bool, lt-ltb}
use Rattle.std.proofs.lemmas.Bool.Decides.{nat_tests, leb_tells}
use Rattle.words.specs.declared.faults.Refusal.{Refusal}
use Rattle.words.specs.declared.faults.Refusal.TheVariants as refusal
use Rattle.machine.specs.Loaded.{Loaded}
use Rattle.machine.specs.State.{State, landing, filled, waits, lives}
use Rattle.machine.specs.Sweeping.{rank}
use Rattle.machine.specs.Calls.{unless, land_fault, define_fault}
use Rattle.machine.specs.Tables.{answered}
use Rattle.rows.specs.Layout.{Raw, Tidy, Becomes, Carries, inside, shown}
use Rattle.rows.specs.Calls.{free}
use Rattle.rows.specs.View.{slot}
use Rattle.rows.specs.declared.Slot as rows
use Rattle.rows.specs.declared.Slot.TheVariants.{Cell, Landing}
use Rattle.rows.proofs.Shown.{waits_are}
use Rattle.rows.proofs.Keeps.{becomes_as, becomes_none}

-- whether some wait
waits_length : (l : List ℕ) → waits l ≡ ltb 0 (length l)
waits_length [] = refl
waits_length (x ∷ xs) = grind (arith, nat_tests)

pub waits_told : (r : Raw) → waits (shown r).waiting ≡ ltb 0 r.waits
waits_told r = waits_length (shown r).waiting ∙ ap (ltb 0) (waits_are r)

pub busy : (r : Raw) → 0 < r.waits → waits (shown r).waiting ≡ true
busy r h = waits_told r ∙ grind (arith, nat_tests)

pub calm : (r : Raw) → r.waits ≤ 0 → waits (shown r).waiting ≡ false
calm r quiet = waits_told r ∙ grind (arith, nat_tests)

pub filled_told : (o : Option ℕ) → filled o ≡ is_some o
filled_told None = refl
filled_told (Some w) = refl

-- what the code tests
module _ (r : Raw) (o : Option rows.Slot) (capacity : ℕ) where
  pub free_waiting : 0 < r.waits → Err refusal.Waiting ≡ free (shown r) o capacity
  free_waiting h = rw (busy r h) refl

  module _ (quiet : r.waits ≤ 0) where
    pub free_lost : o ≡ None → Err refusal.NotLiving ≡ free (shown r) o capacity
    free_lost h = rw (calm r quiet, h) refl

    module _ (t : rows.Slot) (is : o ≡ Some t) where
      pub free_filled : true ≡ is_some ((shown r).held (slot t)) → Err refusal.Filled ≡ free (shown r) o capacity
      free_filled e = let f = filled_told ((shown r).held (slot t)) ∙ sym e in rw (calm r quiet, is, f) refl

      module _ (e : false ≡ is_some ((shown r).held (slot t))) where
        empty : filled ((shown r).held (slot t)) ≡ false
        empty = filled_told ((shown r).held (slot t)) ∙ sym e

        pub free_full : capacity ≤ r.given → Err refusal.Full ≡ free (shown r) o capacity
        free_full f = let w : ltb r.given capacity ≡ false = grind (arith, nat_tests) in rw (calm r quiet, is, empty, w) refl

        pub free_there : r.given < capacity → Ok t ≡ free (shown r) o capacity
        free_there f = let w : ltb r.given capacity ≡ true = grind (arith, nat_tests) in rw (calm r quiet, is, empty, w) refl

-- a slot that is free, by the tests, as an answer
answers : {X : Type 0} (w there f n : Bool) (t : X) →
    cond w (Err refusal.Waiting) (cond there (cond f (Err refusal.Filled) (cond n (Ok t) (Err refusal.Full))) (Err refusal.NotLiving))
    ≡ answered (cond w (Some refusal.Waiting) (cond there (cond f (Some refusal.Filled) (cond n None (Some refusal.Full))) (Some refusal.NotLiving))) t
answers true there f n t = refl
answers false false f n t = refl
answers false true true n t = refl
answers false true false true t = refl
answers false true false false t = refl

free_answers : (s : State) (there : Bool) (t : rows.Slot) (capacity : ℕ) → free s (then_some there t) capacity
    ≡ answered (cond (waits s.waiting) (Some refusal.Waiting) (cond there (cond (filled (s.held (slot t))) (Some refusal.Filled) (cond (ltb s.given capacity) None (Some refusal.Full))) (Some refusal.NotLiving))) t
free_answers s true t capacity = answers (waits s.waiting) true (filled (s.held (slot t))) (ltb s.given capacity) t
free_answers s false t capacity = answers (waits s.waiting) false false false t

-- what load took has the tests of the code
module _ (L : Loaded) (r : Raw) (c : Carries L r.shape) where
  pub counted : (k q : ℕ) → inside r.shape r.given (landing k q) ≡ (ltb k L.source_kinds && ltb q (L.count k))
  counted k q = elim (leb_tells (suc k) r.shape.kinds) [
    | inl a ↦ rw (c.kinds, c.counts k a.1) refl
    | inr a ↦ rw (c.kinds, a.0) refl
  ]

  pub leaving : (e l from : ℕ) → (l < r.shape.links → L.from l ≡ from) →
      (lives (shown r) e && (ltb l r.shape.links && eqb ((shown r).kind e) from)) ≡ (lives (shown r) e && (ltb l L.links && eqb ((shown r).kind e) (L.from l)))
  leaving e l from h = elim (leb_tells (suc l) r.shape.links) [
    | inl a ↦ rw (c.links, h a.1) refl
    | inr a ↦ rw (c.links, a.0) refl
  ]

  -- the code's refusals are the machine's
  pub land_free : (k q : ℕ) (there : Bool) → there ≡ inside r.shape r.given (landing k q) →
      free (shown r) (then_some there (Landing k q)) r.shape.capacity ≡ answered (land_fault L (shown r) k q) (Landing k q)
  land_free k q there e = free_answers (shown r) there (Landing k q) r.shape.capacity ∙ rw (e, counted k q, ← c.capacity) refl

  pub define_free : (e l from : ℕ) → (l < r.shape.links → L.from l ≡ from) → (there : Bool) → there ≡ (lives (shown r) e && (ltb l r.shape.links && eqb ((shown r).kind e) from)) →
      free (shown r) (then_some there (Cell e l)) r.shape.capacity ≡ answered (define_fault L (shown r) e l) (Cell e l)
  define_free e l from h there p = free_answers (shown r) there (Cell e l) r.shape.capacity ∙ rw (p, leaving e l from h, ← c.capacity) refl

-- a refusal changes nothing
told_err : {X : Type 0} (o : Option Refusal) (x : X) (f : Refusal) → Err f ≡ answered o x → o ≡ Some f
told_err None x f h = absurd (let z : ◌≡◌ {A = ℕ} 0 1 = cc in omega arith)
told_err (Some g) x f h = cc

pub refused : {X Y : Type 0} (o : Option Refusal) (x : X) (y : Y) (f : Refusal) → Err f ≡ answered o x → Err f ≡ answered o y
refused o x y f h = rw (told_err o x f h) refl

pub refused_kept : {X : Type 0} (a : Raw) → Tidy a → (o : Option Refusal) (x : X) (f : Refusal) → Err f ≡ answered o x → (g : State → State) (t : State) → g (shown a) ≡ unless o (shown a) t → Becomes a g a
refused_kept a tidy o x f h g t e = becomes_as a a (λ s. s) g (becomes_none a tidy) (sym (e ∙ ap (λ z. unless z (shown a) t) (told_err o x f h)))

-- the living are counted
module _ (s : State) where
  living_below : (n : ℕ) → n ≤ s.given → length (filter (lives s) (take n (range_with_len 0 s.given))) ≡ rank s.forward n
  unfolding rank
  living_below zero h = refl
  living_below (suc n) h =
      let all = range_with_len 0 s.given in
      let size = length-range_with_len 0 s.given in
      let more = length-filter_more (lives s) all n 0 (omega arith) in
      let below = living_below n (omega arith) in
      let at : get_or all n 0 ≡ n = get_or-range_with_len 0 s.given n 0 h ∙ zero-add n in
      let t = lt-ltb n s.given h in
      let here : lives s (get_or all n 0) ≡ eqb (s.forward n) n = ap (lives s) at ∙ rw t refl in
      rw (← add-one n) (more ∙ rw here (elim (cases_Bool (eqb (s.forward n) n)) [ inl e ↦ rw e (omega (arith, below)) | inr e ↦ rw e (omega (arith, below)) ]))

  pub living_counted : count_by (lives s) (range_with_len 0 s.given) ≡ rank s.forward s.given
  living_counted =
      let size = length-range_with_len 0 s.given in
      sym (length-filter (lives s) (range_with_len 0 s.given))
      ∙ ap (λ (l : List ℕ). length (filter (lives s) l)) (sym (take_all s.given (range_with_len 0 s.given) (omega arith)))
      ∙ living_below s.given (omega arith)
