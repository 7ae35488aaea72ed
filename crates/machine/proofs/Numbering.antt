-- The sequence has each living entry once.
use Rattle.std.proofs.Common.{◌≡◌, ℕ, zero, suc, ◌<◌, ◌≤◌, Bool, true, false, cond, ◌||◌, eqb, ◌⊎◌, List, [], ◌∷◌, ◌++◌, length, Some, Option, sym, refl, ap, ◌∙◌, subst, inl, inr, arith}
use Rattle.std.proofs.lemmas.Bool.{cases_eq, eq-eqb, ne_eqb, eqb-false, cond-true, cond-false, or_parts, false≢true}
use Rattle.machine.specs.Loaded.{Loaded}
use Rattle.machine.specs.State.{Slot, cell, landing, State, start, on}
use Rattle.machine.specs.Merging.{end}
use Rattle.machine.specs.Shift.{calls}
use Rattle.machine.specs.Sequence.{member, nth, met, met_in, of_kind, of_landings, of_cells, visit, grown, sequence, Numbers, AllNumbered}
use Rattle.machine.proofs.Wide.{Good}
use Rattle.machine.proofs.Base.{chase_fix, end_forward}
use Rattle.machine.proofs.Closed.{Closed, Before, closed_all}
use Rattle.machine.proofs.Fill.{some_same}
use Rattle.machine.proofs.Check.{on_cases}
use Rattle.machine.proofs.Sweep.{use_lives}
use Rattle.machine.proofs.Runs.{calls_good, start_good}

abbrev pub In : ℕ → List ℕ → Type 0
In e xs = (i : ℕ) × (nth xs i ≡ Some e)

-- places
pub nth_below : (xs : List ℕ) (i w : ℕ) → nth xs i ≡ Some w → i < length xs
unfolding nth
nth_below [] i w e = absurd (cc)
nth_below (x ∷ xs) zero w e = omega arith
nth_below (x ∷ xs) (suc i) w e = let h = nth_below xs i w e in omega (arith, h)

pub nth_before : (xs : List ℕ) (i j w : ℕ) → i < j → nth xs j ≡ Some w → (e : ℕ) × (nth xs i ≡ Some e)
unfolding nth
nth_before [] i j w h e = absurd (cc)
nth_before (x ∷ xs) zero j w h e = (x, refl)
nth_before (x ∷ xs) (suc i) zero w h e = absurd (omega (arith, h))
nth_before (x ∷ xs) (suc i) (suc j) w h e = nth_before xs i j w (omega (arith, h)) e

nth_front : (xs : List ℕ) (x i w : ℕ) → nth xs i ≡ Some w → nth (xs ++ (x ∷ [])) i ≡ Some w
unfolding nth
nth_front [] x i w e = absurd (cc)
nth_front (y ∷ xs) x zero w e = e
nth_front (y ∷ xs) x (suc i) w e = nth_front xs x i w e

nth_last : (xs : List ℕ) (x : ℕ) → In x (xs ++ (x ∷ []))
unfolding nth
nth_last [] x = (0, refl)
nth_last (y ∷ xs) x = let r = nth_last xs x in (suc r.0, r.1)

pub member_in : (x : ℕ) (xs : List ℕ) → member x xs ≡ true → In x xs
unfolding member nth
member_in x [] e = absurd (false≢true e)
member_in x (y ∷ ys) e = elim (cases_eq x y) [
  | inl q ↦ (0, ap Some (sym q))
  | inr q ↦ (let n = ne_eqb x y q in let r = member_in x ys ((ap (λ b. b || member x ys) (sym n)) ∙ e) in (suc r.0, r.1))
]

pub in_member : (x : ℕ) (xs : List ℕ) (i : ℕ) → nth xs i ≡ Some x → member x xs ≡ false → ⊥
unfolding member nth
in_member x [] i e h = cc
in_member x (y ∷ ys) zero e h = eqb-false x y (or_parts (eqb x y) (member x ys) h).0 (sym (some_same y x (Some y) refl e))
in_member x (y ∷ ys) (suc i) e h = in_member x ys i e (or_parts (eqb x y) (member x ys) h).1

-- lists without repetition, of numbers that satisfy P
pub record Fine (P : ℕ → Type 0) (xs : List ℕ) : Type 0 where
  pub once : (i j e : ℕ) → nth xs i ≡ Some e → nth xs j ≡ Some e → i ≡ j
  pub all : (i e : ℕ) → nth xs i ≡ Some e → P e

pub record Longer (xs ys : List ℕ) : Type 0 where
  pub keeps : (i w : ℕ) → nth xs i ≡ Some w → nth ys i ≡ Some w

pub longer_none : (xs : List ℕ) → Longer xs xs
longer_none xs = record { keeps = λ i w e. e }

pub longer_then : (xs ys zs : List ℕ) → Longer xs ys → Longer ys zs → Longer xs zs
longer_then xs ys zs a b = record { keeps = λ i w e. b.keeps i w (a.keeps i w e) }

pub longer_in : (xs ys : List ℕ) → Longer xs ys → (e : ℕ) → In e xs → In e ys
longer_in xs ys a e r = (r.0, a.keeps r.0 e r.1)

pub met_cases : (T : List ℕ → Type 0) (x : ℕ) (xs : List ℕ) → (member x xs ≡ true → T xs) → (member x xs ≡ false → T (xs ++ (x ∷ []))) → T (met x xs)
met_cases T x xs a b = go (member x xs) refl
  where
    go : (t : Bool) → member x xs ≡ t → T (cond t xs (xs ++ (x ∷ [])))
    go true e = a e
    go false e = b e

met_longer : (x : ℕ) (xs : List ℕ) → Longer xs (met x xs)
met_longer x xs = met_cases (Longer xs) x xs (λ e. longer_none xs) (λ e. record { keeps = nth_front xs x })

met_has : (x : ℕ) (xs : List ℕ) → In x (met x xs)
met_has x xs = met_cases (In x) x xs (λ e. member_in x xs e) (λ e. nth_last xs x)

-- a place in xs ++ [x] is one of xs, or the last
pub nth_split : (xs : List ℕ) (x i w : ℕ) → nth (xs ++ (x ∷ [])) i ≡ Some w → (nth xs i ≡ Some w) ⊎ ((i ≡ length xs) × (w ≡ x))
unfolding nth
nth_split [] x zero w e = inr (refl, sym (some_same x w (Some x) refl e))
nth_split [] x (suc i) w e = absurd (cc)
nth_split (y ∷ xs) x zero w e = inl e
nth_split (y ∷ xs) x (suc i) w e = elim (nth_split xs x i w e) [ inl q ↦ inl q | inr q ↦ inr (ap suc q.0, q.1) ]

pub met_fine : (P : ℕ → Type 0) (x : ℕ) (xs : List ℕ) → P x → Fine P xs → Fine P (met x xs)
met_fine P x xs px f = met_cases (Fine P) x xs (λ e. f) (λ e. record {
  once = λ i j w p q. elim (nth_split xs x i w p) [
    | inl a ↦ elim (nth_split xs x j w q) [ inl b ↦ f.once i j w a b | inr b ↦ absurd (in_member x xs i (a ∙ ap Some b.1) e) ]
    | inr a ↦ elim (nth_split xs x j w q) [ inl b ↦ absurd (in_member x xs j (b ∙ ap Some a.1) e) | inr b ↦ a.0 ∙ sym b.0 ]
  ];
  all = λ i w p. elim (nth_split xs x i w p) [ inl a ↦ f.all i w a | inr a ↦ subst P (sym a.1) px ];
})

-- as many different numbers below n as m: m ≤ n
abbrev moved : (ℕ → ℕ) → ℕ → ℕ → ℕ → ℕ
moved f n m i = cond (eqb (f i) n) (f m) (f i)

moved_cases : (f : ℕ → ℕ) (n m i : ℕ) → ((f i ≡ n) × (moved f n m i ≡ f m)) ⊎ ((f i ≡ n → ⊥) × (moved f n m i ≡ f i))
moved_cases f n m i = elim (cases_eq (f i) n) [ inl e ↦ inl (e, cond-true (eqb (f i) n) (f m) (f i) (eq-eqb (f i) n e)) | inr e ↦ inr (e, cond-false (eqb (f i) n) (f m) (f i) (ne_eqb (f i) n e)) ]

pigeon : (n m : ℕ) (f : ℕ → ℕ) → ((i : ℕ) → i < m → f i < n) → ((i j : ℕ) → i < m → j < m → f i ≡ f j → i ≡ j) → m ≤ n
pigeon n zero f b inj = omega arith
pigeon zero (suc m) f b inj = absurd (omega (arith, b 0 (omega arith)))
pigeon (suc n) (suc m) f b inj =
    let r = pigeon n m (moved f n m)
    (λ i h. elim (moved_cases f n m i) [
      | inl e ↦ (let k : f m ≡ n → ⊥ = λ q. (let z = inj i m (omega (arith, h)) (omega arith) (e.0 ∙ sym q) in omega (arith, z, h)) in omega (arith, k, e.1, b m (omega arith)))
      | inr e ↦ omega (arith, e.0, e.1, b i (omega (arith, h)))
    ])
    (λ i j hi hj q. elim (moved_cases f n m i) [
      | inl a ↦ elim (moved_cases f n m j) [
        | inl c ↦ inj i j (omega (arith, hi)) (omega (arith, hj)) (a.0 ∙ sym c.0)
        | inr c ↦ absurd (let z = inj m j (omega arith) (omega (arith, hj)) (sym a.1 ∙ (q ∙ c.1)) in omega (arith, z, hj))
      ]
      | inr a ↦ elim (moved_cases f n m j) [
        | inl c ↦ absurd (let z = inj i m (omega (arith, hi)) (omega arith) (sym a.1 ∙ (q ∙ c.1)) in omega (arith, z, hi))
        | inr c ↦ inj i j (omega (arith, hi)) (omega (arith, hj)) (sym a.1 ∙ (q ∙ c.1))
      ]
    ]) in
    omega (arith, r)

pub nth_some : (xs : List ℕ) (i : ℕ) → i < length xs → (w : ℕ) × (nth xs i ≡ Some w)
unfolding nth
nth_some [] i h = absurd (omega (arith, h))
nth_some (x ∷ xs) zero h = (x, refl)
nth_some (x ∷ xs) (suc i) h = nth_some xs i (omega (arith, h))

abbrev value : Option ℕ → ℕ
value o = on o 0 (λ w. w)

pub fine_short : (n : ℕ) (P : ℕ → Type 0) (xs : List ℕ) → ((e : ℕ) → P e → e < n) → Fine P xs → length xs ≤ n
fine_short n P xs below f = pigeon n (length xs) (λ i. value (nth xs i))
    (λ i h. let a = nth_some xs i h in subst (λ x. x < n) (sym (ap value a.1)) (below a.0 (f.all i a.0 a.1)))
    (λ i j hi hj q.
    let a = nth_some xs i hi in
    let b = nth_some xs j hj in
    let z : a.0 ≡ b.0 = sym (ap value a.1) ∙ (q ∙ ap value b.1) in
    f.once i j a.0 a.1 (b.1 ∙ ap Some (sym z)))

-- the loops
module _ (L : Loaded) (s : State) (g : Good L s) (quiet : s.waiting ≡ []) where
  abbrev pub Lives : ℕ → Type 0
  Lives e = (e < s.given) × (s.forward e ≡ e)

  pub held_lives : (t : Slot) (w : ℕ) → s.held t ≡ Some w → Lives w
  held_lives t w e = let u = (g.sound.used t w e).0 in (u.below, use_lives L s g quiet w u)

  met_in_longer : (t : Slot) (xs : List ℕ) → Longer xs (met_in (s.held t) xs)
  met_in_longer t xs = on_cases (Longer xs) (s.held t) xs (λ w. met w xs) (λ e. longer_none xs) (λ w e. met_longer w xs)

  met_in_fine : (t : Slot) (xs : List ℕ) → Fine Lives xs → Fine Lives (met_in (s.held t) xs)
  met_in_fine t xs f = on_cases (Fine Lives) (s.held t) xs (λ w. met w xs) (λ e. f) (λ w e. met_fine Lives w xs (held_lives t w e) f)

  met_in_has : (t : Slot) (xs : List ℕ) (w : ℕ) → s.held t ≡ Some w → In w (met_in (s.held t) xs)
  met_in_has t xs w e = subst (λ o. In w (met_in o xs)) (sym e) (met_has w xs)

  pub cells_longer : (e l : ℕ) (xs : List ℕ) → Longer xs (of_cells s e l xs)
  unfolding of_cells
  cells_longer e zero xs = longer_none xs
  cells_longer e (suc l) xs = longer_then xs (of_cells s e l xs) (met_in (s.held (cell e l)) (of_cells s e l xs)) (cells_longer e l xs) (met_in_longer (cell e l) (of_cells s e l xs))

  pub cells_fine : (e l : ℕ) (xs : List ℕ) → Fine Lives xs → Fine Lives (of_cells s e l xs)
  unfolding of_cells
  cells_fine e zero xs f = f
  cells_fine e (suc l) xs f = met_in_fine (cell e l) (of_cells s e l xs) (cells_fine e l xs f)

  pub cells_has : (e l : ℕ) (xs : List ℕ) (k w : ℕ) → k < l → s.held (cell e k) ≡ Some w → In w (of_cells s e l xs)
  unfolding of_cells
  cells_has e zero xs k w h q = absurd (omega (arith, h))
  cells_has e (suc l) xs k w h q = elim (cases_eq k l) [
    | inl z ↦ met_in_has (cell e l) (of_cells s e l xs) w (ap (λ j. s.held (cell e j)) (sym z) ∙ q)
    | inr z ↦ longer_in (of_cells s e l xs) (met_in (s.held (cell e l)) (of_cells s e l xs)) (met_in_longer (cell e l) (of_cells s e l xs)) w (cells_has e l xs k w (omega (arith, h, z)) q)
  ]

  kind_longer : (k r : ℕ) (xs : List ℕ) → Longer xs (of_kind s k r xs)
  unfolding of_kind
  kind_longer k zero xs = longer_none xs
  kind_longer k (suc r) xs = longer_then xs (of_kind s k r xs) (met_in (s.held (landing k r)) (of_kind s k r xs)) (kind_longer k r xs) (met_in_longer (landing k r) (of_kind s k r xs))

  pub kind_fine : (k r : ℕ) (xs : List ℕ) → Fine Lives xs → Fine Lives (of_kind s k r xs)
  unfolding of_kind
  kind_fine k zero xs f = f
  kind_fine k (suc r) xs f = met_in_fine (landing k r) (of_kind s k r xs) (kind_fine k r xs f)

  kind_has : (k r : ℕ) (xs : List ℕ) (q w : ℕ) → q < r → s.held (landing k q) ≡ Some w → In w (of_kind s k r xs)
  unfolding of_kind
  kind_has k zero xs q w h e = absurd (omega (arith, h))
  kind_has k (suc r) xs q w h e = elim (cases_eq q r) [
    | inl z ↦ met_in_has (landing k r) (of_kind s k r xs) w (ap (λ j. s.held (landing k j)) (sym z) ∙ e)
    | inr z ↦ longer_in (of_kind s k r xs) (met_in (s.held (landing k r)) (of_kind s k r xs)) (met_in_longer (landing k r) (of_kind s k r xs)) w (kind_has k r xs q w (omega (arith, h, z)) e)
  ]

  pub landings_fine : (n : ℕ) → Fine Lives (of_landings L s n)
  unfolding of_landings nth
  landings_fine zero = record { once = λ i j e p q. absurd (cc); all = λ i e p. absurd (cc) }
  landings_fine (suc k) = kind_fine k (L.count k) (of_landings L s k) (landings_fine k)

  pub landings_has : (n k r w : ℕ) → k < n → r < L.count k → s.held (landing k r) ≡ Some w → In w (of_landings L s n)
  unfolding of_landings
  landings_has zero k r w hk hr e = absurd (omega (arith, hk))
  landings_has (suc n) k r w hk hr e = elim (cases_eq k n) [
    | inl z ↦ kind_has n (L.count n) (of_landings L s n) r w (subst (λ j. r < L.count j) z hr) (ap (λ j. s.held (landing j r)) (sym z) ∙ e)
    | inr z ↦ longer_in (of_landings L s n) (of_kind s n (L.count n) (of_landings L s n)) (kind_longer n (L.count n) (of_landings L s n)) w (landings_has n k r w (omega (arith, hk, z)) hr e)
  ]

  pub visit_longer : (n : ℕ) (xs : List ℕ) → Longer xs (visit L s n xs)
  visit_longer n xs = on_cases (Longer xs) (nth xs n) xs (λ e. of_cells s e L.links xs) (λ q. longer_none xs) (λ e q. cells_longer e L.links xs)

  visit_fine : (n : ℕ) (xs : List ℕ) → Fine Lives xs → Fine Lives (visit L s n xs)
  visit_fine n xs f = on_cases (Fine Lives) (nth xs n) xs (λ e. of_cells s e L.links xs) (λ q. f) (λ e q. cells_fine e L.links xs f)

  pub grown_fine : (n : ℕ) → Fine Lives (grown L s n)
  unfolding grown
  grown_fine zero = landings_fine L.source_kinds
  grown_fine (suc n) = visit_fine n (grown L s n) (grown_fine n)

  pub grown_longer : (n : ℕ) → Longer (of_landings L s L.source_kinds) (grown L s n)
  unfolding grown
  grown_longer zero = longer_none (of_landings L s L.source_kinds)
  grown_longer (suc n) = longer_then (of_landings L s L.source_kinds) (grown L s n) (visit L s n (grown L s n)) (grown_longer n) (visit_longer n (grown L s n))

  -- the cells of the first n of the sequence are in it
  abbrev pub Visited : ℕ → List ℕ → Type 0
  Visited n xs = (i e : ℕ) → i < n → nth xs i ≡ Some e → (k w : ℕ) → k < L.links → s.held (cell e k) ≡ Some w → In w xs

  visit_visited : (n : ℕ) (xs : List ℕ) → Visited n xs → Visited (suc n) (visit L s n xs)
  visit_visited n xs v = on_cases (Visited (suc n)) (nth xs n) xs (λ e. of_cells s e L.links xs)
      (λ none i e h q k w hk held. elim (cases_eq i n) [
        | inl z ↦ absurd (cc)
        | inr z ↦ v i e (omega (arith, h, z)) q k w hk held
      ])
      (λ d some i e h q k w hk held. elim (cases_eq i n) [
        | inl z ↦ (
            let now = (cells_longer d L.links xs).keeps n d some in
            let same : d ≡ e = some_same d e (nth (of_cells s d L.links xs) n) now (ap (nth (of_cells s d L.links xs)) (sym z) ∙ q) in
            cells_has d L.links xs k w hk (ap (λ y. s.held (cell y k)) same ∙ held))
        | inr z ↦ (
            let old = nth_before xs i n d (omega (arith, h, z)) some in
            let now = (cells_longer d L.links xs).keeps i old.0 old.1 in
            let same : old.0 ≡ e = some_same old.0 e (nth (of_cells s d L.links xs) i) now q in
            longer_in xs (of_cells s d L.links xs) (cells_longer d L.links xs) w (v i e (omega (arith, h, z)) (old.1 ∙ ap Some same) k w hk held))
      ])

  pub grown_visited : (n : ℕ) → Visited n (grown L s n)
  unfolding grown
  grown_visited zero = λ i e h. absurd (omega (arith, h))
  grown_visited (suc n) = visit_visited n (grown L s n) (grown_visited n)

  abbrev xs : List ℕ
  xs = sequence L s

  ends_in : Closed (λ e. In (end s e) xs) s
  ends_in = record {
    fits = fit;
    goes = λ x q. subst (λ y. In y xs) (sym (end_forward s.forward g.sound.lower x)) q;
    comes = λ x q. subst (λ y. In y xs) (end_forward s.forward g.sound.lower x) q;
  }
    where
      stays : (w : ℕ) → Lives w → end s w ≡ w
      stays w h = chase_fix s.forward w w h.1

      fit : (t : Slot) (w : ℕ) → s.held t ≡ Some w → Before (λ e. In (end s e) xs) t → In (end s w) xs
      fit (landing k r) w e b =
          let o = (g.sound.used (landing k r) w e).1 in
          subst (λ y. In y xs) (sym (stays w (held_lives (landing k r) w e))) (longer_in (of_landings L s L.source_kinds) xs (grown_longer s.given) w (landings_has L.source_kinds k r w o.0 o.1 e))
      fit (cell d l) w e b =
          let o = (g.sound.used (cell d l) w e).1 in
          let h = use_lives L s g quiet d o.0 in
          let p : In d xs = subst (λ y. In y xs) (chase_fix s.forward d d h) b in
          let short = fine_short s.given Lives xs (λ y q. q.0) (grown_fine s.given) in
          subst (λ y. In y xs) (sym (stays w (held_lives (cell d l) w e))) (grown_visited s.given p.0 d (omega (arith, nth_below xs p.0 d p.1, short)) p.1 l w o.1 e)

  pub numbers : Numbers L s
  numbers = record {
    each = λ e h live. subst (λ y. In y xs) (chase_fix s.forward e e live) (closed_all ends_in (g.reached e h));
    once = (grown_fine s.given).once;
    only = (grown_fine s.given).all;
  }

pub all_numbered : AllNumbered
all_numbered L acc cs quiet = numbers L (calls L cs start) (calls_good L acc cs start (start_good L)) quiet
