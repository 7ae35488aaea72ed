-- Filling a slot, and new entries.
use Rattle.std.proofs.Common.{◌≡◌, ℕ, suc, ◌<◌, true, cond, eqb, ◌⊎◌, Some, None, Option, sym, refl, ap, ◌∙◌, subst, inl, inr, arith}
use Rattle.std.proofs.lemmas.Bool.{cases_eq, eq-eqb, ne_eqb, cond-true, cond-false}
use Rattle.machine.specs.Loaded.{Loaded}
use Rattle.machine.specs.State.{Slot, cell, landing, State, put, hold, born}
use Rattle.machine.specs.Readings.{worth}
use Rattle.machine.specs.Sound.{InUse, Owner, Sound, Reach}
use Rattle.machine.proofs.Wide.{Receiver, Placing, Reading, Good}
use Rattle.machine.proofs.Base.{put_cases}
use Rattle.machine.proofs.Closed.{Closed, Before, closed_all, closed_reach}

pub some_same : (a b : ℕ) (o : Option ℕ) → o ≡ Some a → o ≡ Some b → a ≡ b
some_same a b o p q = cc

pub some_none : (a : ℕ) (o : Option ℕ) → o ≡ Some a → o ≡ None → ⊥
some_none a o p q = cc

-- a slot after a put: it has the new content, or it is another one
pub put_held : (t : Slot) (o : Option ℕ) (h : Slot → Option ℕ) (u : Slot) (w : ℕ) → put t o h u ≡ Some w → ((u ≡ t) × (o ≡ Some w)) ⊎ ((u ≡ t → ⊥) × (h u ≡ Some w))
put_held t o h u w e = elim (put_cases t u o h) [ inl q ↦ inl (q.0, sym q.1 ∙ e) | inr q ↦ inr (q.0, sym q.1 ∙ e) ]

pub put_here : (t : Slot) (o : Option ℕ) (h : Slot → Option ℕ) → put t o h t ≡ o
put_here t o h = elim (put_cases t t o h) [ inl q ↦ q.1 | inr q ↦ absurd (q.0 refl) ]

pub put_there : (t : Slot) (o : Option ℕ) (h : Slot → Option ℕ) (u : Slot) → (u ≡ t → ⊥) → put t o h u ≡ h u
put_there t o h u n = elim (put_cases t u o h) [ inl q ↦ absurd (n q.0) | inr q ↦ q.1 ]

module _ (L : Loaded) (s : State) (t : Slot) where
  pub hold_owner : (o : Option ℕ) (u : Slot) → Owner L s u → Owner L (hold t o s) u
  hold_owner o (cell e l) q = (record { below = q.0.below; if_dead = q.0.if_dead }, q.1)
  hold_owner o (landing k r) q = q

  pub hold_in_use : (o : Option ℕ) (w : ℕ) → InUse s w → InUse (hold t o s) w
  hold_in_use o w q = record { below = q.below; if_dead = q.if_dead }

  pub empty_sound : Sound L s → Sound L (hold t None s)
  empty_sound ok = record {
    lower = ok.lower;
    fresh = ok.fresh;
    dead = ok.dead;
    used = λ u w e. elim (put_held t None s.held u w e) [
      | inl q ↦ absurd (cc q.1)
      | inr q ↦ (hold_in_use None w (ok.used u w q.1).0, hold_owner None u (ok.used u w q.1).1)
    ];
  }

  pub empty_read : (R : Receiver L) (P : Placing L R) (ρ : ℕ → ℕ) → Reading L R P s ρ → Reading L R P (hold t None s) ρ
  empty_read R P ρ d = record {
    counted = d.counted;
    forwards = d.forwards;
    agrees = λ u w e. elim (put_held t None s.held u w e) [
      | inl q ↦ absurd (cc q.1)
      | inr q ↦ d.agrees u w q.1
    ];
  }

  module _ (a : ℕ) where
    pub fill_sound : Sound L s → InUse s a → Owner L s t → Sound L (hold t (Some a) s)
    fill_sound ok ua ot = record {
      lower = ok.lower;
      fresh = ok.fresh;
      dead = ok.dead;
      used = λ u w e. elim (put_held t (Some a) s.held u w e) [
        | inl q ↦ (hold_in_use (Some a) w (subst (InUse s) (some_same a w (Some a) refl q.1) ua), hold_owner (Some a) u (subst (Owner L s) (sym q.0) ot))
        | inr q ↦ (hold_in_use (Some a) w (ok.used u w q.1).0, hold_owner (Some a) u (ok.used u w q.1).1)
      ];
    }

    pub fill_read : (R : Receiver L) (P : Placing L R) (ρ : ℕ → ℕ) → Reading L R P s ρ → ρ a ≡ worth R.lead P.at ρ t → Reading L R P (hold t (Some a) s) ρ
    fill_read R P ρ d j = record {
      counted = d.counted;
      forwards = d.forwards;
      agrees = λ u w e. elim (put_held t (Some a) s.held u w e) [
        | inl q ↦ ap ρ (sym (some_same a w (Some a) refl q.1)) ∙ (j ∙ ap (worth R.lead P.at ρ) (sym q.0))
        | inr q ↦ d.agrees u w q.1
      ];
    }

    pub fill_closed : s.held t ≡ None → (Q : ℕ → Type 0) → Closed Q (hold t (Some a) s) → Closed Q s
    fill_closed none Q c = record { goes = c.goes; comes = c.comes; fits = λ u w e b. c.fits u w (put_there t (Some a) s.held u (λ q. cc) ∙ e) b }

    pub fill_fits : (Q : ℕ → Type 0) → Closed Q (hold t (Some a) s) → Before Q t → Q a
    fill_fits Q c b = c.fits t a (put_here t (Some a) s.held) b

  -- a new entry
  module _ (k : ℕ) (ok : Sound L s) (ot : Owner L s t) (none : s.held t ≡ None) where
    born_in_use : (x : ℕ) → InUse s x → InUse (born k t s) x
    born_in_use x u = record { below = omega (arith, u.below); if_dead = u.if_dead }

    born_owner : (u : Slot) → Owner L s u → Owner L (born k t s) u
    born_owner (cell e l) o = (born_in_use e o.0, o.1)
    born_owner (landing j r) o = o

    born_new : InUse (born k t s) s.given
    born_new = record { below = omega arith; if_dead = λ d. absurd (d (ok.fresh s.given (omega arith))) }

    pub born_sound : Sound L (born k t s)
    born_sound = record {
      lower = ok.lower;
      fresh = λ x h. ok.fresh x (omega (arith, h));
      dead = ok.dead;
      used = λ u w e. elim (put_held t (Some s.given) s.held u w e) [
        | inl q ↦ (subst (InUse (born k t s)) (some_same s.given w (Some s.given) refl q.1) born_new, born_owner u (subst (Owner L s) (sym q.0) ot))
        | inr q ↦ (born_in_use w (ok.used u w q.1).0, born_owner u (ok.used u w q.1).1)
      ];
    }

    before_reached : (u : Slot) → Owner L s u → ((e : ℕ) → e < s.given → Reach (born k t s) e) → Before (Reach (born k t s)) u
    before_reached (cell e l) o all = all e o.0.below
    before_reached (landing j r) o all = tt

    pub born_reached : ((e : ℕ) → e < s.given → Reach s e) → (e : ℕ) → e < suc s.given → Reach (born k t s) e
    born_reached all e h =
        let c = closed_reach (born k t s) in
        let d : Closed (Reach (born k t s)) s = record { goes = c.goes; comes = c.comes; fits = λ u w q b. c.fits u w (put_there t (Some s.given) s.held u (λ p. cc) ∙ q) b } in
        let old : (x : ℕ) → x < s.given → Reach (born k t s) x = λ x b. closed_all d (all x b) in
        elim (cases_eq e s.given) [
          | inl q ↦ subst (Reach (born k t s)) (sym q) (c.fits t s.given (put_here t (Some s.given) s.held) (before_reached t ot old))
          | inr q ↦ old e (omega (arith, h, q))
        ]

    module _ (R : Receiver L) (P : Placing L R) (ρ : ℕ → ℕ) (d : Reading L R P s ρ) (fits : R.has k (worth R.lead P.at ρ t) ≡ true) where
      new_value : ℕ
      new_value = worth R.lead P.at ρ t

      abbrev longer : ℕ → ℕ
      longer x = cond (eqb x s.given) new_value (ρ x)

      longer_new : (x : ℕ) → x ≡ s.given → longer x ≡ new_value
      longer_new x e = cond-true (eqb x s.given) new_value (ρ x) (eq-eqb x s.given e)

      longer_old : (x : ℕ) → (x ≡ s.given → ⊥) → longer x ≡ ρ x
      longer_old x n = cond-false (eqb x s.given) new_value (ρ x) (ne_eqb x s.given n)

      longer_below : (x : ℕ) → x < s.given → longer x ≡ ρ x
      longer_below x h = longer_old x (λ e. omega (arith, e, h))

      worth_longer : (u : Slot) → Owner L s u → worth R.lead P.at longer u ≡ worth R.lead P.at ρ u
      worth_longer (cell e l) o = ap (R.lead l) (longer_below e o.0.below)
      worth_longer (landing j r) o = refl

      kind_new : (x : ℕ) → x ≡ s.given → (born k t s).kind x ≡ k
      kind_new x e = cond-true (eqb x s.given) k (s.kind x) (eq-eqb x s.given e)

      kind_old : (x : ℕ) → (x ≡ s.given → ⊥) → (born k t s).kind x ≡ s.kind x
      kind_old x n = cond-false (eqb x s.given) k (s.kind x) (ne_eqb x s.given n)

      pub born_read : (σ : ℕ → ℕ) × Reading L R P (born k t s) σ
      unfolding new_value
      born_read = (
        longer,
        record {
          counted = λ e h. elim (cases_eq e s.given) [
            | inl q ↦ ap (λ j. R.has j (longer e)) (kind_new e q) ∙ (ap (R.has k) (longer_new e q) ∙ fits)
            | inr q ↦ ap (λ j. R.has j (longer e)) (kind_old e q) ∙ (ap (R.has (s.kind e)) (longer_old e q) ∙ d.counted e (omega (arith, h, q)))
          ];
          agrees = λ u w e. elim (put_held t (Some s.given) s.held u w e) [
            | inl q ↦ longer_new w (some_same w s.given (Some s.given) q.1 refl) ∙ (ap (worth R.lead P.at ρ) (sym q.0) ∙ sym (worth_longer u (subst (Owner L s) (sym q.0) ot)))
            | inr q ↦ longer_below w (ok.used u w q.1).0.below ∙ (d.agrees u w q.1 ∙ sym (worth_longer u (ok.used u w q.1).1))
          ];
          forwards = λ x. elim (cases_eq (s.forward x) x) [
            | inl q ↦ ap longer q
            | inr q ↦ (
                let b : x < s.given = elim (Rattle.std.proofs.lemmas.Bool.cases_lt x s.given) [ inl y ↦ y | inr y ↦ absurd (q (ok.fresh x y)) ] in
                longer_below (s.forward x) (omega (arith, ok.lower x, b)) ∙ (d.forwards x ∙ sym (longer_below x b)))
          ];
        },
      )

    pub born_good : (g : Good L s) → ((R : Receiver L) (P : Placing L R) (ρ : ℕ → ℕ) → Reading L R P s ρ → R.has k (worth R.lead P.at ρ t) ≡ true) → Good L (born k t s)
    born_good g fits = record {
      sound = born_sound;
      read = λ R P. let r = g.read R P in born_read R P r.0 r.1 (fits R P r.0 r.1);
      reached = born_reached g.reached;
    }
