-- Two complete tables of one load are the same up to the entries' numbers.
use Rattle.std.proofs.Common.{◌≡◌, ℕ, zero, suc, ◌+◌, ◌<◌, ◌≤◌, Bool, true, false, cond, ◌||◌, eqb, List, [], ◌∷◌, ◌++◌, map, length, Some, None, Option, sym, refl, ap, ◌∙◌, inl, inr, arith}
use Rattle.std.proofs.lemmas.Bool.{cases_eq, eq-eqb, ne_eqb}
use Rattle.machine.specs.Loaded.{Loaded}
use Rattle.machine.specs.State.{Slot, cell, landing, State, on}
use Rattle.machine.specs.Merging.{end}
use Rattle.machine.specs.Sweeping.{renamed}
use Rattle.machine.specs.Readings.{Accepted, worth}
use Rattle.machine.specs.Sequence.{member, nth, met, met_in, of_kind, of_landings, of_cells, visit, grown, sequence}
use Rattle.machine.specs.Finish.{with_capacity}
use Rattle.machine.proofs.Wide.{Reading}
use Rattle.machine.proofs.Base.{chase_fix}
use Rattle.machine.proofs.Closed.{only_one}
use Rattle.machine.proofs.Fill.{some_none}
use Rattle.machine.proofs.Numbering.{Fine, fine_short, cells_fine, kind_fine, landings_fine, grown_fine, nth_below}
use Rattle.machine.proofs.Capacity.{Whole, whole_of}
use Rattle.machine.proofs.Own.{Living, content, has_parts, parts_has, held_living, own, own_placing, own_reading}

abbrev pub image : (ℕ → ℕ) → Slot → Slot
image ρ (cell e l) = cell (ρ e) l
image ρ (landing k r) = landing k r

-- a reading of one table into another respects kinds and slots
module _ (L : Loaded) (acc : Accepted L) (s z : State) (a : Whole L s) (b : Whole L z) where
  pub carry : ℕ → ℕ
  carry = (a.good.read (own L acc z b) (own_placing L acc z b)).0

  pub carry_reading : Reading L (own L acc z b) (own_placing L acc z b) s carry
  unfolding carry
  carry_reading = (a.good.read (own L acc z b) (own_placing L acc z b)).1

  pub carry_living : (e : ℕ) → e < s.given → Living z (carry e) × (z.kind (carry e) ≡ s.kind e)
  carry_living e h = has_parts z (s.kind e) (carry e) (carry_reading.counted e h)

  pub carry_held : (t : Slot) (w : ℕ) → s.held t ≡ Some w → z.held (image carry t) ≡ Some (carry w)
  carry_held (cell e l) w h =
      let o = (a.good.sound.used (cell e l) w h).1 in
      let c = carry_living e o.0.below in
      let y = b.complete.defined (carry e) l c.0.0 c.0.1 o.1 (c.1 ∙ (a.kinds.fit (cell e l) w h).1) in
      y.1 ∙ ap Some (sym (carry_reading.agrees (cell e l) w h ∙ ap content y.1))
  carry_held (landing k r) w h =
      let o = (a.good.sound.used (landing k r) w h).1 in
      let y = b.complete.landed k r o.0 o.1 in
      y.1 ∙ ap Some (sym (carry_reading.agrees (landing k r) w h ∙ ap content y.1))

abbrev pub Kept : State → Slot → Type 0
Kept s (cell e l) = Living s e
Kept s (landing k r) = Unit {0}

-- there and back again
module _ (L : Loaded) (acc : Accepted L) (s z : State) (a : Whole L s) (b : Whole L z) where
  abbrev ρ : ℕ → ℕ
  ρ = carry L acc s z a b

  abbrev σ : ℕ → ℕ
  σ = carry L acc z s b a

  round : Reading L (own L acc s a) (own_placing L acc s a) s (λ e. σ (ρ e))
  round = record {
    counted = λ e h.
        let p = carry_living L acc s z a b e h in
        let q = carry_living L acc z s b a (ρ e) p.0.0 in
        parts_has s (s.kind e) (σ (ρ e)) q.0 (q.1 ∙ p.1);
    agrees = agree;
    forwards = λ e. ap σ ((carry_reading L acc s z a b).forwards e);
  }
    where
      agree : (t : Slot) (w : ℕ) → s.held t ≡ Some w → σ (ρ w) ≡ worth (own L acc s a).lead (own_placing L acc s a).at (λ e. σ (ρ e)) t
      agree (cell e l) w h = sym (ap content (carry_held L acc z s b a (cell (ρ e) l) (ρ w) (carry_held L acc s z a b (cell e l) w h)))
      agree (landing k r) w h = sym (ap content (carry_held L acc z s b a (landing k r) (ρ w) (carry_held L acc s z a b (landing k r) w h)))

  pub round_is : (e : ℕ) → Living s e → σ (ρ e) ≡ e
  round_is e h = only_one L (own L acc s a) (own_placing L acc s a) s a.good.reached (λ e. σ (ρ e)) (end s) round (own_reading L acc s a) e h.0 ∙ chase_fix s.forward e e h.1

  pub held_same : (t : Slot) → Kept s t → z.held (image ρ t) ≡ renamed ρ (s.held t)
  held_same t k = go (s.held t) refl
    where
      fixed : (t : Slot) → Kept s t → image σ (image ρ t) ≡ t
      fixed (cell e l) k = ap (λ y. cell y l) (round_is e k)
      fixed (landing i r) k = refl

      empty : (o : Option ℕ) → z.held (image ρ t) ≡ o → s.held t ≡ None → o ≡ None
      empty None q n = refl
      empty (Some w) q n = absurd (some_none (σ w) (s.held t) (ap s.held (sym (fixed t k)) ∙ carry_held L acc z s b a (image ρ t) w q) n)

      go : (o : Option ℕ) → s.held t ≡ o → z.held (image ρ t) ≡ renamed ρ o
      go None q = empty (z.held (image ρ t)) refl q
      go (Some w) q = carry_held L acc s z a b t w q

  pub eqb_same : (x y : ℕ) → Living s x → Living s y → eqb (ρ x) (ρ y) ≡ eqb x y
  eqb_same x y hx hy = elim (cases_eq x y) [
    | inl e ↦ eq-eqb (ρ x) (ρ y) (ap ρ e) ∙ sym (eq-eqb x y e)
    | inr e ↦ ne_eqb (ρ x) (ρ y) (λ q. e (sym (round_is x hx) ∙ (ap σ q ∙ round_is y hy))) ∙ sym (ne_eqb x y e)
  ]

-- lists of living entries
abbrev pub Each : (ℕ → Type 0) → List ℕ → Type 0
Each P [] = Unit {0}
Each P (x ∷ xs) = P x × Each P xs

pub each_of : (P : ℕ → Type 0) (xs : List ℕ) → ((i e : ℕ) → nth xs i ≡ Some e → P e) → Each P xs
unfolding nth
each_of P [] f = tt
each_of P (x ∷ xs) f = (f 0 x refl, each_of P xs (λ i e q. f (suc i) e q))

pub fine_each : (P : ℕ → Type 0) (xs : List ℕ) → Fine P xs → Each P xs
fine_each P xs f = each_of P xs f.all

map_last : (f : ℕ → ℕ) (xs : List ℕ) (x : ℕ) → map f (xs ++ (x ∷ [])) ≡ map f xs ++ (f x ∷ [])
map_last f [] x = refl
map_last f (y ∷ xs) x = ap (λ l. f y ∷ l) (map_last f xs x)

nth_map : (f : ℕ → ℕ) (xs : List ℕ) (i : ℕ) → nth (map f xs) i ≡ renamed f (nth xs i)
unfolding nth
nth_map f [] i = refl
nth_map f (x ∷ xs) zero = refl
nth_map f (x ∷ xs) (suc i) = nth_map f xs i

nth_past : (xs : List ℕ) (i : ℕ) → length xs ≤ i → nth xs i ≡ None
nth_past xs i h = go (nth xs i) refl
  where
    go : (o : Option ℕ) → nth xs i ≡ o → o ≡ None
    go None q = refl
    go (Some w) q = absurd (omega (arith, nth_below xs i w q, h))

-- the sequence is at its end after as many visits as there are numbers
module _ (L : Loaded) (s : State) (a : Whole L s) where
  grown_more : (n : ℕ) → s.given ≤ n → grown L s (suc n) ≡ grown L s n
  unfolding grown
  grown_more n h =
      let xs = grown L s n in
      let short = fine_short s.given (Living s) xs (λ y q. q.0) (grown_fine L s a.good a.complete.quiet n) in
      ap (λ o. on o xs (λ e. of_cells s e L.links xs)) (nth_past xs n (omega (arith, short, h)))

  pub grown_end : (n : ℕ) → s.given ≤ n → grown L s n ≡ sequence L s
  grown_end zero h = let e : 0 ≡ s.given = omega (arith, h) in ap (grown L s) e
  grown_end (suc n) h = elim (cases_eq (suc n) s.given) [ inl e ↦ ap (grown L s) e | inr e ↦ (let k : s.given ≤ n = omega (arith, h, e) in grown_more n k ∙ grown_end n k) ]

module _ (L : Loaded) (acc : Accepted L) (c : ℕ) (s z : State) (a : Whole L s) (b : Whole (with_capacity c L) z) where
  abbrev pub to : ℕ → ℕ
  to = carry L acc s z a (whole_of c L z b)

  pub kind_kept : (e : ℕ) → Living s e → z.kind (to e) ≡ s.kind e
  kind_kept e h = (carry_living L acc s z a (whole_of c L z b) e h.0).1

  pub test_kept : (x y : ℕ) → Living s x → Living s y → eqb (to x) (to y) ≡ eqb x y
  test_kept = eqb_same L acc s z a (whole_of c L z b)

  pub slot_kept : (t : Slot) → Kept s t → z.held (image to t) ≡ renamed to (s.held t)
  slot_kept = held_same L acc s z a (whole_of c L z b)

  member_same : (x : ℕ) (xs : List ℕ) → Living s x → Each (Living s) xs → member (to x) (map to xs) ≡ member x xs
  unfolding member
  member_same x [] hx f = refl
  member_same x (y ∷ ys) hx f = ap (λ t. t || member (to x) (map to ys)) (test_kept x y hx f.0) ∙ ap (λ t. eqb x y || t) (member_same x ys hx f.1)

  met_same : (x : ℕ) (xs : List ℕ) → Living s x → Each (Living s) xs → met (to x) (map to xs) ≡ map to (met x xs)
  met_same x xs hx f = ap (λ t. cond t (map to xs) (map to xs ++ (to x ∷ []))) (member_same x xs hx f) ∙ go (member x xs)
    where
      go : (t : Bool) → cond t (map to xs) (map to xs ++ (to x ∷ [])) ≡ map to (cond t xs (xs ++ (x ∷ [])))
      go true = refl
      go false = sym (map_last to xs x)

  met_in_same : (t : Slot) (xs : List ℕ) → Kept s t → Each (Living s) xs → met_in (z.held (image to t)) (map to xs) ≡ map to (met_in (s.held t) xs)
  met_in_same t xs k f = ap (λ o. met_in o (map to xs)) (slot_kept t k) ∙ go (s.held t) (λ w q. held_living L acc s a t w q)
    where
      go : (o : Option ℕ) → ((w : ℕ) → o ≡ Some w → Living s w) → met_in (renamed to o) (map to xs) ≡ map to (met_in o xs)
      go None h = refl
      go (Some w) h = met_same w xs (h w refl) f

  kind_same : (k r : ℕ) (xs : List ℕ) → Fine (Living s) xs → of_kind z k r (map to xs) ≡ map to (of_kind s k r xs)
  unfolding of_kind
  kind_same k zero xs f = refl
  kind_same k (suc r) xs f = ap (met_in (z.held (landing k r))) (kind_same k r xs f) ∙ met_in_same (landing k r) (of_kind s k r xs) tt (fine_each (Living s) (of_kind s k r xs) (kind_fine L s a.good a.complete.quiet k r xs f))

  cells_same : (e l : ℕ) (xs : List ℕ) → Living s e → Fine (Living s) xs → of_cells z (to e) l (map to xs) ≡ map to (of_cells s e l xs)
  unfolding of_cells
  cells_same e zero xs h f = refl
  cells_same e (suc l) xs h f = ap (met_in (z.held (cell (to e) l))) (cells_same e l xs h f) ∙ met_in_same (cell e l) (of_cells s e l xs) h (fine_each (Living s) (of_cells s e l xs) (cells_fine L s a.good a.complete.quiet e l xs f))

  landings_same : (n : ℕ) → of_landings (with_capacity c L) z n ≡ map to (of_landings L s n)
  unfolding of_landings
  landings_same zero = refl
  landings_same (suc k) = ap (of_kind z k (L.count k)) (landings_same k) ∙ kind_same k (L.count k) (of_landings L s k) (landings_fine L s a.good a.complete.quiet k)

  visit_same : (n : ℕ) (xs : List ℕ) → Fine (Living s) xs → visit L z n (map to xs) ≡ map to (visit L s n xs)
  visit_same n xs f = ap (λ o. on o (map to xs) (λ e. of_cells z e L.links (map to xs))) (nth_map to xs n) ∙ go (nth xs n) (f.all n)
    where
      go : (o : Option ℕ) → ((e : ℕ) → o ≡ Some e → Living s e) → on (renamed to o) (map to xs) (λ e. of_cells z e L.links (map to xs)) ≡ map to (on o xs (λ e. of_cells s e L.links xs))
      go None h = refl
      go (Some e) h = cells_same e L.links xs (h e refl) f

  grown_same : (n : ℕ) → grown (with_capacity c L) z n ≡ map to (grown L s n)
  unfolding grown
  grown_same zero = landings_same L.source_kinds
  grown_same (suc n) = ap (visit L z n) (grown_same n) ∙ visit_same n (grown L s n) (grown_fine L s a.good a.complete.quiet n)

  pub sequence_same : sequence (with_capacity c L) z ≡ map to (sequence L s)
  sequence_same = sym (grown_end (with_capacity c L) z b (s.given + z.given) (omega arith)) ∙ (grown_same (s.given + z.given) ∙ ap (map to) (grown_end L s a (s.given + z.given) (omega arith)))
