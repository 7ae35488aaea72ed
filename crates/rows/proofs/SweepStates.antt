-- The steps of sweeping, as steps of a state: contents renamed part by part, and the living moved down one by one.
use Rattle.std.proofs.Common.{◌≡◌, ℕ, ◌+◌, ◌<◌, Bool, true, false, cond, ◌&&◌, ◌||◌, eqb, ltb, [], None, Option, sym, refl, ap, ◌∙◌, inl, inr, add-one, arith}
use mathlib.Core.Path.{fun_ext}
use Rattle.std.proofs.lemmas.Bool.Decides.{nat_tests, eqb_tells}
use Rattle.machine.specs.State.{Slot, cell, landing, State}
use Rattle.machine.specs.Sweeping.{rank, pick, renamed, swept}
use Rattle.machine.proofs.Ranks.{rank_small}
use Rattle.machine.proofs.Sweep.{pick_rank}
use Rattle.rows.specs.Layout.{Shape, inside}
use Rattle.rows.specs.Sweeps.{renames, in_rows, in_kinds, at_entry, placed, moves, packs, packed}
use Rattle.rows.proofs.Shown.{same_state}

-- the number of the living, by the test
module _ (f : ℕ → ℕ) where
  pub rank_none : rank f 0 ≡ 0
  unfolding rank
  rank_none = refl

  pub rank_more : (e : ℕ) → rank f (e + 1) ≡ cond (eqb (f e) e) (rank f e + 1) (rank f e)
  unfolding rank
  rank_more e = rw (add-one e, add-one (rank f e)) refl

-- a test is true of what passes one of two others, and nothing passes both
abbrev pub Adds : Bool → Bool → Bool → Type 0
Adds a b c = ((a && b) ≡ false) × (c ≡ (a || b))

pub parts_all : (h : Shape) (n : ℕ) (t : Slot) → Adds (in_rows n h.links t) (in_kinds h h.kinds t) (inside h n t)
parts_all h n (cell x y) = (grind (arith, nat_tests), grind (arith, nat_tests))
parts_all h n (landing j p) = (refl, refl)

join : (f : ℕ → ℕ) (o : Option ℕ) (a b : Bool) → (a && b) ≡ false → cond b (renamed f (cond a (renamed f o) o)) (cond a (renamed f o) o) ≡ cond (a || b) (renamed f o) o
join f o true true h = absurd (let z : ◌≡◌ {A = ℕ} 0 1 = cc in omega arith)
join f o true false h = refl
join f o false true h = refl
join f o false false h = refl

module _ (s : State) where
  -- one part, and then another
  pub renames_more : (p q r : Slot → Bool) → ((t : Slot) → Adds (p t) (q t) (r t)) → renames q (renames p s) ≡ renames r s
  renames_more p q r h = same_state _ _ refl (λ _. refl) (λ _. refl)
      (λ t. join (rank s.forward) (s.held t) (p t) (q t) (h t).0 ∙ ap (λ (b : Bool). cond b (renamed (rank s.forward) (s.held t)) (s.held t)) (sym (h t).1)) refl

at_own : (t : Slot) → t ≡ at_entry (λ x. x) t
at_own (cell x l) = refl
at_own (landing k q) = refl

at_twice : (h k : ℕ → ℕ) (t : Slot) → at_entry h (at_entry k t) ≡ at_entry (λ x. h (k x)) t
at_twice h k (cell x l) = refl
at_twice h k (landing j q) = refl

module _ (s : State) where
  placed_same : (h k f g : ℕ → ℕ) → ((x : ℕ) → h x ≡ k x) → ((x : ℕ) → f x ≡ g x) → placed h f s ≡ placed k g s
  placed_same h k f g p q = ap (λ (z : ℕ → ℕ). placed z f s) (fun_ext p) ∙ ap (λ (z : ℕ → ℕ). placed k z s) (fun_ext q)

  placed_own : s ≡ placed (λ x. x) s.forward s
  placed_own = same_state _ _ refl (λ _. refl) (λ _. refl) (λ t. ap s.held (at_own t)) refl

  placed_twice : (h k f g : ℕ → ℕ) → placed k g (placed h f s) ≡ placed (λ x. h (k x)) g s
  placed_twice h k f g = same_state _ _ refl (λ _. refl) (λ _. refl) (λ t. ap s.held (at_twice h k t)) refl

  pub packed_none : s ≡ packed 0 s
  packed_none = let z = rank_none s.forward in placed_own ∙ placed_same _ _ _ _ (λ x. grind (arith, nat_tests)) (λ x. grind (arith, nat_tests))

  packed_live : (e : ℕ) → e < s.given → s.forward e ≡ e → rank s.forward (e + 1) ≡ rank s.forward e + 1 → moves e (rank s.forward e) (packed e s) ≡ packed (e + 1) s
  packed_live e he live m =
      let h = rank_small s.forward e in
      let p = pick_rank s.forward s.given e live he in
      placed_twice _ _ (packed e s).forward _ ∙ placed_same _ _ _ _
      (λ x. elim (eqb_tells x (rank s.forward e)) [ inl a ↦ rw (a.0, m, a.1, p) (grind (arith, nat_tests)) | inr a ↦ rw (a.0, m) (grind (arith, nat_tests)) ])
      (λ x. elim (eqb_tells x (rank s.forward e)) [ inl a ↦ rw (a.0, m) (grind (arith, nat_tests)) | inr a ↦ rw (a.0, m) (grind (arith, nat_tests)) ])

  -- the forward of the next one is as it was
  packed_forward : (e : ℕ) → (packed e s).forward e ≡ s.forward e
  packed_forward e = let h = rank_small s.forward e in grind (arith, nat_tests)

  -- one entry more
  pub packed_more : (e k : ℕ) → k ≡ rank s.forward e → e < s.given →
      (cond (eqb ((packed e s).forward e) e) (k + 1) k ≡ rank s.forward (e + 1)) × (packs e k (packed e s) ≡ packed (e + 1) s)
  packed_more e k hk he =
      let m = rank_more s.forward e in
      let f = packed_forward e in
      elim (eqb_tells (s.forward e) e) [
        | inl a ↦ (let n : rank s.forward (e + 1) ≡ rank s.forward e + 1 = m ∙ rw a.0 refl in
            rw (f, a.0) (ap (λ (z : ℕ). z + 1) hk ∙ sym n, ap (λ (z : ℕ). moves e z (packed e s)) hk ∙ packed_live e he a.1 n))
        | inr a ↦ (let n : rank s.forward (e + 1) ≡ rank s.forward e = m ∙ rw a.0 refl in
            rw (f, a.0) (hk ∙ sym n, rw n refl))
      ]

-- nothing from k on is given, and nothing waits
abbrev kept : ℕ → Slot → Bool
kept k (cell x l) = ltb x k
kept k (landing j q) = true

abbrev pub cut : ℕ → State → State
cut k s = record {
  given = k;
  kind = λ x. cond (ltb x k) (s.kind x) 0;
  forward = λ x. cond (ltb x k) (s.forward x) x;
  held = λ t. cond (kept k t) (s.held t) None;
  waiting = [];
}

cut_one : (b : Bool) (f g : ℕ → Option ℕ) (x y : ℕ) → ((z : ℕ) → f z ≡ g z) → cond b (f (cond b y x)) None ≡ cond b (g y) None
cut_one true f g x y e = e y
cut_one false f g x y e = refl

-- the steps together
pub cut_swept : (s : State) (p : Slot → Bool) → ((t : Slot) → (renames p s).held t ≡ renamed (rank s.forward) (s.held t)) →
    cut (rank s.forward s.given) (packed s.given (renames p s)) ≡ swept s
cut_swept s p all = same_state _ _ refl (λ x. grind (arith, nat_tests)) (λ x. grind (arith, nat_tests)) held refl
  where
    held : (t : Slot) → (cut (rank s.forward s.given) (packed s.given (renames p s))).held t ≡ (swept s).held t
    held (cell x l) = cut_one (ltb x (rank s.forward s.given)) _ _ x (pick s.forward s.given x) (λ z. all (cell z l))
    held (landing j q) = all (landing j q)
