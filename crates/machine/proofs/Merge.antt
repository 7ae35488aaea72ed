-- Merging: readings stay, and what is reached stays reached.
use Rattle.std.proofs.Common.{◌≡◌, ℕ, ◌<◌, ◌≤◌, Bool, true, false, cond, eqb, ltb, ◌⊎◌, List, [], ◌∷◌, ◌++◌, sym, refl, ap, ◌∙◌, subst, inl, inr, arith}
use Rattle.std.proofs.lemmas.Bool.{cases_eq, ltb-true, ltb-false, eq-eqb, ne_eqb, cond-true, cond-false}
use Rattle.machine.specs.Loaded.{Loaded}
use Rattle.machine.specs.State.{Slot, cell, landing, State}
use Rattle.machine.specs.Merging.{end, die, meet, merge}
use Rattle.machine.specs.Sound.{Mem, InUse, Owner, Sound}
use Rattle.machine.proofs.Wide.{Receiver, Placing, Reading}
use Rattle.machine.proofs.Base.{chase_lives, chase_lower}
use Rattle.machine.proofs.Closed.{Closed, end_goes, end_comes, end_read}

pub mem_front : (x : ℕ) (xs ys : List ℕ) → Mem x xs → Mem x (xs ++ ys)
mem_front x [] ys m = elim m [ ]
mem_front x (y ∷ xs) ys (inl e) = inl e
mem_front x (y ∷ xs) ys (inr m) = inr (mem_front x xs ys m)

pub mem_last : (x : ℕ) (xs : List ℕ) → Mem x (xs ++ (x ∷ []))
mem_last x [] = inl refl
mem_last x (y ∷ xs) = inr (mem_last x xs)

pub mem_split : (x h : ℕ) (xs : List ℕ) → Mem x (xs ++ (h ∷ [])) → Mem x xs ⊎ (x ≡ h)
mem_split x h [] (inl e) = inr e
mem_split x h [] (inr m) = elim m [ ]
mem_split x h (y ∷ xs) (inl e) = inl (inl e)
mem_split x h (y ∷ xs) (inr m) = elim (mem_split x h xs m) [ inl q ↦ inl (inr q) | inr e ↦ inr e ]

abbrev pub turned : (ℕ → ℕ) → ℕ → ℕ → ℕ → ℕ
turned f h l x = cond (eqb x h) l (f x)

pub turned_cases : (f : ℕ → ℕ) (h l x : ℕ) → ((x ≡ h) × (turned f h l x ≡ l)) ⊎ ((x ≡ h → ⊥) × (turned f h l x ≡ f x))
turned_cases f h l x = elim (cases_eq x h) [ inl e ↦ inl (e, cond-true (eqb x h) l (f x) (eq-eqb x h e)) | inr n ↦ inr (n, cond-false (eqb x h) l (f x) (ne_eqb x h n)) ]

module _ (L : Loaded) (s : State) (h l : ℕ) (ok : Sound L s) (here : h < s.given) (alive : s.forward h ≡ h) (less : l < h) where
  die_in_use : (x : ℕ) → InUse s x → InUse (die h l s) x
  die_in_use x u = record {
    below = u.below;
    if_dead = λ d. elim (turned_cases s.forward h l x) [
      | inl e ↦ subst (λ y. Mem y (s.waiting ++ (h ∷ []))) (sym e.0) (mem_last h s.waiting)
      | inr e ↦ mem_front x s.waiting (h ∷ []) (u.if_dead (λ q. d (e.1 ∙ q)))
    ];
  }

  die_owner : (t : Slot) → Owner L s t → Owner L (die h l s) t
  die_owner (cell e k) o = (die_in_use e o.0, o.1)
  die_owner (landing k r) o = o

  pub die_sound : Sound L (die h l s)
  die_sound = record {
    lower = λ x. elim (turned_cases s.forward h l x) [ inl e ↦ omega (arith, e.0, e.1) | inr e ↦ omega (arith, e.1, ok.lower x) ];
    fresh = λ x b. elim (turned_cases s.forward h l x) [ inl e ↦ absurd (omega (arith, e.0, b, here)) | inr e ↦ e.1 ∙ ok.fresh x b ];
    dead = λ x m q. elim (turned_cases s.forward h l x) [
      | inl e ↦ omega (arith, e.0, e.1, q, less)
      | inr e ↦ elim (mem_split x h s.waiting m) [ inl n ↦ ok.dead x n (sym e.1 ∙ q) | inr n ↦ e.0 n ]
    ];
    used = λ t w q. (die_in_use w (ok.used t w q).0, die_owner t (ok.used t w q).1);
  }

  pub die_closed : (Q : ℕ → Type 0) → Closed Q (die h l s) → Closed Q s
  die_closed Q c = record {
    fits = c.fits;
    goes = λ x q. elim (turned_cases s.forward h l x) [ inl e ↦ subst Q (sym alive ∙ ap s.forward (sym e.0)) (subst Q e.0 q) | inr e ↦ subst Q e.1 (c.goes x q) ];
    comes = λ x q. elim (turned_cases s.forward h l x) [ inl e ↦ subst Q (sym e.0) (subst Q (ap s.forward e.0 ∙ alive) q) | inr e ↦ c.comes x (subst Q (sym e.1) q) ];
  }

  turned_here : turned s.forward h l h ≡ l
  turned_here = cond-true (eqb h h) l (s.forward h) (eq-eqb h h refl)

  pub die_joins : (Q : ℕ → Type 0) → Closed Q (die h l s) → (Q h → Q l) × (Q l → Q h)
  die_joins Q c = ((λ q. subst Q turned_here (c.goes h q)), (λ q. c.comes h (subst Q (sym turned_here) q)))

  pub die_read : (R : Receiver L) (P : Placing L R) (ρ : ℕ → ℕ) → Reading L R P s ρ → ρ h ≡ ρ l → Reading L R P (die h l s) ρ
  die_read R P ρ d j = record {
    counted = d.counted;
    agrees = d.agrees;
    forwards = λ x. elim (turned_cases s.forward h l x) [ inl e ↦ ap ρ e.1 ∙ (sym j ∙ ap ρ (sym e.0)) | inr e ↦ ap ρ e.1 ∙ d.forwards x ];
  }

-- the three ways of a meeting
pub meet_cases : (P : State → Type 0) (x y : ℕ) (s : State) → (x < y → P (die y x s)) → (y < x → P (die x y s)) → (x ≡ y → P s) → P (meet x y s)
unfolding meet
meet_cases P x y s a b c = first (ltb x y) refl
  where
    second : (t : Bool) → ltb y x ≡ t → y ≤ x → P (cond t (die x y s) s)
    second true e h = b (ltb-true y x e)
    second false e h = c (omega (arith, ltb-false y x e))

    first : (t : Bool) → ltb x y ≡ t → P (cond t (die y x s) (cond (ltb y x) (die x y s) s))
    first true e = a (ltb-true x y e)
    first false e = second (ltb y x) refl (ltb-false x y e)

pub end_lives : (L : Loaded) (s : State) → Sound L s → (x : ℕ) → s.forward (end s x) ≡ end s x
end_lives L s ok x = chase_lives s.forward ok.lower x x (omega arith)

pub end_below : (L : Loaded) (s : State) → Sound L s → (x : ℕ) → x < s.given → end s x < s.given
end_below L s ok x h = omega (arith, chase_lower s.forward ok.lower x x)

pub end_in_use : (L : Loaded) (s : State) → Sound L s → (x : ℕ) → x < s.given → InUse s (end s x)
end_in_use L s ok x h = record { below = end_below L s ok x h; if_dead = λ d. absurd (d (end_lives L s ok x)) }

module _ (L : Loaded) (s : State) (ok : Sound L s) (a b : ℕ) (ha : a < s.given) (hb : b < s.given) where
  pub merge_sound : Sound L (merge a b s)
  merge_sound = meet_cases (Sound L) (end s a) (end s b) s
      (λ q. die_sound L s (end s b) (end s a) ok (end_below L s ok b hb) (end_lives L s ok b) q)
      (λ q. die_sound L s (end s a) (end s b) ok (end_below L s ok a ha) (end_lives L s ok a) q)
      (λ q. ok)

  pub merge_closed : (Q : ℕ → Type 0) → Closed Q (merge a b s) → Closed Q s
  merge_closed Q = meet_cases (λ t. Closed Q t → Closed Q s) (end s a) (end s b) s
      (λ q. die_closed L s (end s b) (end s a) ok (end_below L s ok b hb) (end_lives L s ok b) q Q)
      (λ q. die_closed L s (end s a) (end s b) ok (end_below L s ok a ha) (end_lives L s ok a) q Q)
      (λ q c. c)

  ends_join : (Q : ℕ → Type 0) → Closed Q (merge a b s) → (Q (end s a) → Q (end s b)) × (Q (end s b) → Q (end s a))
  ends_join Q = meet_cases (λ t. Closed Q t → (Q (end s a) → Q (end s b)) × (Q (end s b) → Q (end s a))) (end s a) (end s b) s
      (λ q c. let j = die_joins L s (end s b) (end s a) ok (end_below L s ok b hb) (end_lives L s ok b) q Q c in (j.1, j.0))
      (λ q c. die_joins L s (end s a) (end s b) ok (end_below L s ok a ha) (end_lives L s ok a) q Q c)
      (λ q c. (subst Q q, subst Q (sym q)))

  pub merge_joins : (Q : ℕ → Type 0) → Closed Q (merge a b s) → (Q a → Q b) × (Q b → Q a)
  merge_joins Q c =
      let d = merge_closed Q c in
      let j = ends_join Q c in
      ((λ q. end_comes Q s d b (j.0 (end_goes Q s d a q))), (λ q. end_comes Q s d a (j.1 (end_goes Q s d b q))))

  pub merge_read : (R : Receiver L) (P : Placing L R) (ρ : ℕ → ℕ) → Reading L R P s ρ → ρ a ≡ ρ b → Reading L R P (merge a b s) ρ
  merge_read R P ρ d j =
      let k : ρ (end s a) ≡ ρ (end s b) = end_read L R P s ρ d a ∙ (j ∙ sym (end_read L R P s ρ d b)) in
      meet_cases (λ t. Reading L R P t ρ) (end s a) (end s b) s
      (λ q. die_read L s (end s b) (end s a) ok (end_below L s ok b hb) (end_lives L s ok b) q R P ρ d (sym k))
      (λ q. die_read L s (end s a) (end s b) ok (end_below L s ok a ha) (end_lives L s ok a) q R P ρ d k)
      (λ q. d)

  pub merge_held : (merge a b s).held ≡ s.held
  merge_held = meet_cases (λ t. t.held ≡ s.held) (end s a) (end s b) s (λ q. refl) (λ q. refl) (λ q. refl)

  pub merge_given : (merge a b s).given ≡ s.given
  merge_given = meet_cases (λ t. t.given ≡ s.given) (end s a) (end s b) s (λ q. refl) (λ q. refl) (λ q. refl)

  -- the dead stay dead
  die_dead : (h l v : ℕ) → s.forward h ≡ h → (s.forward v ≡ v → ⊥) → (die h l s).forward v ≡ v → ⊥
  die_dead h l v alive dead q = elim (turned_cases s.forward h l v) [
    | inl e ↦ dead (subst (λ y. s.forward y ≡ y) (sym e.0) alive)
    | inr e ↦ dead (sym e.1 ∙ q)
  ]

  pub merge_dead : (v : ℕ) → (s.forward v ≡ v → ⊥) → (merge a b s).forward v ≡ v → ⊥
  merge_dead v dead = meet_cases (λ t. t.forward v ≡ v → ⊥) (end s a) (end s b) s
      (λ q. die_dead (end s b) (end s a) v (end_lives L s ok b) dead)
      (λ q. die_dead (end s a) (end s b) v (end_lives L s ok a) dead)
      (λ q. dead)

  pub merge_front : (v : ℕ) → ((ws : List ℕ) × (s.waiting ≡ v ∷ ws)) → (ws : List ℕ) × ((merge a b s).waiting ≡ v ∷ ws)
  merge_front v (ws, e) = meet_cases (λ t. (ws : List ℕ) × (t.waiting ≡ v ∷ ws)) (end s a) (end s b) s
      (λ q. (ws ++ (end s b ∷ []), ap (λ xs. xs ++ (end s b ∷ [])) e))
      (λ q. (ws ++ (end s a ∷ []), ap (λ xs. xs ++ (end s a ∷ [])) e))
      (λ q. (ws, e))
