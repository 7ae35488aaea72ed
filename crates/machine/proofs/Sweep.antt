-- Sweeping keeps a table good.
use Rattle.std.proofs.Common.{◌≡◌, ℕ, zero, suc, ◌<◌, ◌≤◌, Bool, true, false, cond, ltb, ◌⊎◌, [], Some, None, Option, sym, refl, ap, ◌∙◌, subst, inl, inr, arith}
use Rattle.std.proofs.lemmas.Bool.{cases_eq, cases_lt, eq-eqb, ne_eqb, lt-ltb, ltb-true, cond-true}
use Rattle.machine.specs.Loaded.{Loaded}
use Rattle.machine.specs.State.{Slot, cell, landing, State}
use Rattle.machine.specs.Merging.{end}
use Rattle.machine.specs.Sweeping.{rank, pick, renamed, swept_held, swept}
use Rattle.machine.specs.Readings.{worth}
use Rattle.machine.specs.Sound.{Mem, InUse, Owner, Sound, Reach}
use Rattle.machine.proofs.Wide.{Receiver, Placing, Reading, Good}
use Rattle.machine.proofs.Base.{chase_fix, end_forward}
use Rattle.machine.proofs.Closed.{Closed, Before, closed_all, closed_reach}
use Rattle.machine.proofs.Merge.{end_in_use}
use Rattle.machine.proofs.Kept.{Found, Kept}
use Rattle.machine.proofs.Ranks.{rank_live, rank_dead}

module _ (f : ℕ → ℕ) where
  rank_up : (e : ℕ) → rank f e ≤ rank f (suc e)
  rank_up e = elim (cases_eq (f e) e) [ inl h ↦ omega (arith, rank_live f e h) | inr h ↦ omega (arith, rank_dead f e h) ]

  rank_mono : (a b : ℕ) → a ≤ b → rank f a ≤ rank f b
  rank_mono a zero h = let e : a ≡ 0 = omega arith in subst (λ x. rank f x ≤ rank f 0) (sym e) (omega arith)
  rank_mono a (suc b) h = elim (cases_eq a (suc b)) [ inl e ↦ subst (λ x. rank f x ≤ rank f (suc b)) (sym e) (omega arith) | inr e ↦ omega (arith, rank_mono a b (omega arith), rank_up b) ]

  pub rank_less : (a b : ℕ) → f a ≡ a → a < b → rank f a < rank f b
  rank_less a b live h = omega (arith, rank_live f a live, rank_mono (suc a) b h)

  pick_cases : (g n : ℕ) → ((f g ≡ g) × (rank f g ≡ n) × (pick f (suc g) n ≡ g)) ⊎ ((f g ≡ g → rank f g ≡ n → ⊥) × (pick f (suc g) n ≡ pick f g n))
  unfolding pick
  pick_cases g n = elim (cases_eq (f g) g) [
    | inl a ↦ elim (cases_eq (rank f g) n) [
      | inl b ↦ (let p = eq-eqb (f g) g a in let q = eq-eqb (rank f g) n b in inl (a, b, (cc)))
      | inr b ↦ (let p = eq-eqb (f g) g a in let q = ne_eqb (rank f g) n b in inr ((λ _ y. b y), (cc)))
    ]
    | inr a ↦ (let p = ne_eqb (f g) g a in inr ((λ x _. a x), (cc)))
  ]

  pub pick_rank : (g e : ℕ) → f e ≡ e → e < g → pick f g (rank f e) ≡ e
  pick_rank zero e live h = absurd (omega (arith, h))
  pick_rank (suc g) e live h = elim (pick_cases g (rank f e)) [
    | inl q ↦ elim (cases_lt e g) [ inl y ↦ absurd (omega (arith, rank_less e g live y, q.1)) | inr y ↦ q.2 ∙ (omega (arith, y, h)) ]
    | inr q ↦ elim (cases_eq e g) [
      | inl y ↦ absurd (q.0 (subst (λ x. f x ≡ x) y live) (ap (rank f) (sym y)))
      | inr y ↦ q.1 ∙ pick_rank g e live (omega (arith, y, h))
    ]
  ]

  pub record Picked (g n p : ℕ) : Type 0 where
    pub below : p < g
    pub live : f p ≡ p
    pub ranked : rank f p ≡ n

  pub pick_good : (g n : ℕ) → n < rank f g → Picked g n (pick f g n)
  unfolding rank
  pick_good zero n h = absurd (omega (arith, h))
  pick_good (suc g) n h = elim (pick_cases g n) [
    | inl q ↦ subst (Picked (suc g) n) (sym q.2) (record { below = omega arith; live = q.0; ranked = q.1 })
    | inr q ↦ (
        let k : n < rank f g = elim (cases_eq (f g) g) [
          | inl a ↦ (let b = q.0 a in let r = rank_live f g a in omega (arith, b, r, h))
          | inr a ↦ (let r = rank_dead f g a in omega (arith, r, h))
        ] in
        let i = pick_good g n k in
        subst (Picked (suc g) n) (sym q.1) (record { below = omega (arith, i.below); live = i.live; ranked = i.ranked }))
  ]

pub renamed_held : (f : ℕ → ℕ) (o : Option ℕ) (y : ℕ) → renamed f o ≡ Some y → (w : ℕ) × (o ≡ Some w) × (y ≡ f w)
renamed_held f None y e = absurd (cc)
renamed_held f (Some w) y e = (w, refl, (cc))

when_some : (b : Bool) (o : Option ℕ) (y : ℕ) → cond b o None ≡ Some y → (b ≡ true) × (o ≡ Some y)
when_some true o y e = (refl, e)
when_some false o y e = absurd (cc)

module _ (L : Loaded) (s : State) (g : Good L s) (none : s.waiting ≡ []) where
  abbrev f : ℕ → ℕ
  f = s.forward

  abbrev G : ℕ
  G = rank f s.given

  pub use_lives : (x : ℕ) → InUse s x → f x ≡ x
  use_lives x u = elim (cases_eq (f x) x) [ inl e ↦ e | inr e ↦ (let m : Mem x [] = subst (Mem x) none (u.if_dead e) in elim m [ ]) ]

  pub use_end : (x : ℕ) → InUse s x → end s x ≡ x
  use_end x u = chase_fix f x x (use_lives x u)

  pub use_rank : (x : ℕ) → InUse s x → rank f x < G
  use_rank x u = rank_less f x s.given (use_lives x u) u.below

  pub use_pick : (x : ℕ) → InUse s x → pick f s.given (rank f x) ≡ x
  use_pick x u = pick_rank f s.given x (use_lives x u) u.below

  pub picked : (n : ℕ) → n < G → Picked f s.given n (pick f s.given n)
  picked n h = pick_good f s.given n h

  -- what a slot held before
  pub cell_was : (n l y : ℕ) → swept_held s (cell n l) ≡ Some y → (n < G) × ((w : ℕ) × (s.held (cell (pick f s.given n) l) ≡ Some w) × (y ≡ rank f w))
  cell_was n l y e =
      let a = when_some (ltb n G) (renamed (rank f) (s.held (cell (pick f s.given n) l))) y e in
      (ltb-true n G a.0, renamed_held (rank f) (s.held (cell (pick f s.given n) l)) y a.1)

  -- what a cell holds now
  cell_now : (e l w : ℕ) → s.held (cell e l) ≡ Some w → swept_held s (cell (rank f e) l) ≡ Some (rank f w)
  cell_now e l w q =
      let u = (g.sound.used (cell e l) w q).1.0 in
      cond-true (ltb (rank f e) G) (renamed (rank f) (s.held (cell (pick f s.given (rank f e)) l))) None (lt-ltb (rank f e) G (use_rank e u))
      ∙ ap (renamed (rank f)) (ap (λ x. s.held (cell x l)) (use_pick e u) ∙ q)

  now_use : (x : ℕ) → x < G → InUse (swept s) x
  now_use x h = record { below = h; if_dead = λ d. absurd (d refl) }

  swept_used : (t : Slot) (y : ℕ) → (swept s).held t ≡ Some y → InUse (swept s) y × Owner L (swept s) t
  swept_used (cell n l) y e =
      let a = cell_was n l y e in
      let w = a.1.0 in
      let u = g.sound.used (cell (pick f s.given n) l) w a.1.1 in
      (now_use y (subst (λ x. x < G) (sym a.1.2) (use_rank w u.0)), (now_use n a.0, u.1.1))
  swept_used (landing k r) y e =
      let a = renamed_held (rank f) (s.held (landing k r)) y e in
      let w = a.0 in
      let u = g.sound.used (landing k r) w a.1 in
      (now_use y (subst (λ x. x < G) (sym a.2) (use_rank w u.0)), u.1)

  swept_sound : Sound L (swept s)
  swept_sound = record { lower = λ x. omega arith; fresh = λ x h. refl; dead = λ x m. elim m [ ]; used = swept_used }

  module _ (R : Receiver L) (P : Placing L R) (ρ : ℕ → ℕ) (d : Reading L R P s ρ) where
    swept_agrees : (t : Slot) (y : ℕ) → (swept s).held t ≡ Some y → ρ (pick f s.given y) ≡ worth R.lead P.at (λ n. ρ (pick f s.given n)) t
    swept_agrees (cell n l) y e =
        let a = cell_was n l y e in
        let w = a.1.0 in
        let u = g.sound.used (cell (pick f s.given n) l) w a.1.1 in
        ap ρ (ap (pick f s.given) a.1.2 ∙ use_pick w u.0) ∙ d.agrees (cell (pick f s.given n) l) w a.1.1
    swept_agrees (landing k r) y e =
        let a = renamed_held (rank f) (s.held (landing k r)) y e in
        let w = a.0 in
        let u = g.sound.used (landing k r) w a.1 in
        ap ρ (ap (pick f s.given) a.2 ∙ use_pick w u.0) ∙ d.agrees (landing k r) w a.1

    swept_read : (σ : ℕ → ℕ) × Reading L R P (swept s) σ
    swept_read = (
      (λ n. ρ (pick f s.given n)),
      record {
        counted = λ n h. subst (λ k. R.has k (ρ (pick f s.given n)) ≡ true) (sym (cond-true (ltb n G) (s.kind (pick f s.given n)) 0 (lt-ltb n G h))) (d.counted (pick f s.given n) (picked n h).below);
        agrees = swept_agrees;
        forwards = λ e. refl;
      },
    )

  Old : ℕ → Type 0
  Old x = Reach (swept s) (rank f (end s x))

  old_to : (x : ℕ) → f x ≡ x → Reach (swept s) (rank f x) → Old x
  unfolding Old
  old_to x h q = subst (λ y. Reach (swept s) (rank f y)) (sym (chase_fix f x x h)) q

  old_from : (x : ℕ) → f x ≡ x → Old x → Reach (swept s) (rank f x)
  unfolding Old
  old_from x h q = subst (λ y. Reach (swept s) (rank f y)) (chase_fix f x x h) q

  old_fits : (t : Slot) (w : ℕ) → s.held t ≡ Some w → Before Old t → Old w
  old_fits (cell e l) w q b =
      let u = g.sound.used (cell e l) w q in
      old_to w (use_lives w u.0) ((closed_reach (swept s)).fits (cell (rank f e) l) (rank f w) (cell_now e l w q) (old_from e (use_lives e u.1.0) b))
  old_fits (landing k r) w q b =
      let u = g.sound.used (landing k r) w q in
      old_to w (use_lives w u.0) ((closed_reach (swept s)).fits (landing k r) (rank f w) (ap (renamed (rank f)) q) tt)

  old_closed : Closed Old s
  unfolding Old
  old_closed = record {
    fits = old_fits;
    goes = λ x q. subst (λ y. Reach (swept s) (rank f y)) (sym (end_forward f g.sound.lower x)) q;
    comes = λ x q. subst (λ y. Reach (swept s) (rank f y)) (end_forward f g.sound.lower x) q;
  }

  pub swept_good : Good L (swept s)
  swept_good = record {
    sound = swept_sound;
    read = λ R P. let r = g.read R P in swept_read R P r.0 r.1;
    reached = λ n h.
        let p = picked n h in
        subst (Reach (swept s)) p.ranked (old_from (pick f s.given n) p.live (closed_all old_closed (g.reached (pick f s.given n) p.below)));
  }

  swept_found : (t : Slot) (w : ℕ) → s.held t ≡ Some w → Found (swept s) (λ x. rank f (end s x)) t w
  swept_found (cell e l) w q =
      let u = g.sound.used (cell e l) w q in
      (cell (rank f e) l, rank f w, cell_now e l w q, ap (λ x. cell (end (swept s) (rank f x)) l) (sym (use_end e u.1.0)), ap (λ x. end (swept s) (rank f x)) (sym (use_end w u.0)))
  swept_found (landing k r) w q =
      let u = g.sound.used (landing k r) w q in
      (landing k r, rank f w, ap (renamed (rank f)) q, refl, ap (λ x. end (swept s) (rank f x)) (sym (use_end w u.0)))

  pub swept_kept : Kept s (swept s) (λ x. rank f (end s x))
  swept_kept = record {
    numbered = λ x h. use_rank (end s x) (end_in_use L s g.sound x h);
    together = λ x y q. ap (λ a. end (swept s) (rank f a)) q;
    found = swept_found;
  }
