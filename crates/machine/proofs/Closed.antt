-- Predicates closed under a table, and the single reading that they give.
use Rattle.std.proofs.Common.{◌≡◌, ℕ, ◌<◌, ltb, Some, sym, refl, ap, ◌∙◌, subst}
use Rattle.std.proofs.lemmas.Bool.{lt-ltb, ltb-true}
use Rattle.machine.specs.Loaded.{Loaded}
use Rattle.machine.specs.State.{Slot, cell, landing, State}
use Rattle.machine.specs.Merging.{end}
use Rattle.machine.specs.Readings.{OneReading}
use Rattle.machine.specs.Sound.{Reach, by_landing, by_cell, down, up}
use Rattle.machine.proofs.Wide.{Receiver, Placing, Reading, Good}
use Rattle.machine.proofs.Base.{chase_keeps, chase_back}

abbrev pub Before : (ℕ → Type 0) → Slot → Type 0
Before Q (cell e l) = Q e
Before Q (landing k r) = Unit {0}

pub record Closed (Q : ℕ → Type 0) (s : State) : Type 0 where
  pub fits : (t : Slot) (w : ℕ) → s.held t ≡ Some w → Before Q t → Q w
  pub goes : (x : ℕ) → Q x → Q (s.forward x)
  pub comes : (x : ℕ) → Q (s.forward x) → Q x

pub closed_all : {Q : ℕ → Type 0} {s : State} {e : ℕ} → Closed Q s → Reach s e → Q e
closed_all c (by_landing {w = w} k r h) = c.fits (landing k r) w h tt
closed_all c (by_cell {w = w} e l q h) = c.fits (cell e l) w h (closed_all c q)
closed_all {Q} c (down x q h) = subst Q h (c.goes x (closed_all c q))
closed_all {Q} c (up {x = x} y q h) = c.comes x (subst Q (sym h) (closed_all c q))

pub closed_reach : (s : State) → Closed (Reach s) s
closed_reach s = record { fits = fit; goes = λ x q. down x q refl; comes = λ x q. up (s.forward x) q refl }
  where
    fit : (t : Slot) (w : ℕ) → s.held t ≡ Some w → Before (Reach s) t → Reach s w
    fit (cell e l) w h b = by_cell e l b h
    fit (landing k r) w h b = by_landing k r h

pub end_goes : (Q : ℕ → Type 0) (s : State) → Closed Q s → (x : ℕ) → Q x → Q (end s x)
end_goes Q s c x q = chase_keeps s.forward Q c.goes x x q

pub end_comes : (Q : ℕ → Type 0) (s : State) → Closed Q s → (x : ℕ) → Q (end s x) → Q x
end_comes Q s c x q = chase_back s.forward Q c.comes x x q

module _ (L : Loaded) (R : Receiver L) (P : Placing L R) where
  pub end_read : (s : State) (ρ : ℕ → ℕ) → Reading L R P s ρ → (x : ℕ) → ρ (end s x) ≡ ρ x
  end_read s ρ d x = chase_keeps s.forward (λ y. ρ y ≡ ρ x) (λ y e. d.forwards y ∙ e) x x refl

  two_agree : (s : State) (ρ σ : ℕ → ℕ) → Reading L R P s ρ → Reading L R P s σ → Closed (λ e. ρ e ≡ σ e) s
  two_agree s ρ σ a b = record { fits = fit; goes = λ x e. a.forwards x ∙ (e ∙ sym (b.forwards x)); comes = λ x e. sym (a.forwards x) ∙ (e ∙ b.forwards x) }
    where
      fit : (t : Slot) (w : ℕ) → s.held t ≡ Some w → Before (λ e. ρ e ≡ σ e) t → ρ w ≡ σ w
      fit (cell e l) w h q = a.agrees (cell e l) w h ∙ (ap (R.lead l) q ∙ sym (b.agrees (cell e l) w h))
      fit (landing k r) w h q = a.agrees (landing k r) w h ∙ sym (b.agrees (landing k r) w h)

  pub only_one : (s : State) → ((e : ℕ) → e < s.given → Reach s e) → (ρ σ : ℕ → ℕ) → Reading L R P s ρ → Reading L R P s σ → (e : ℕ) → e < s.given → ρ e ≡ σ e
  only_one s all ρ σ a b e h = closed_all (two_agree s ρ σ a b) (all e h)

-- receivers by count are receivers by test
module _ (L : Loaded) (R : Rattle.machine.specs.Readings.Receiver L) (P : Rattle.machine.specs.Readings.Placing L R) where
  abbrev pub widened : Receiver L
  widened = record {
    has = λ k x. ltb x (R.count k);
    lead = R.lead;
    inside = λ l x hl h. lt-ltb (R.lead l x) (R.count (L.to l)) (R.inside l x hl (ltb-true x (R.count (L.from l)) h));
    keeps = λ i x hi h. R.keeps i x hi (ltb-true x (R.count (L.first i)) h);
  }

  abbrev pub widened_placing : Placing L widened
  widened_placing = record { at = P.at; counted = λ k r hk hr. lt-ltb (P.at k r) (R.count (L.kind_map k)) (P.counted k r hk hr); in_step = P.in_step }

  pub narrowed : (s : State) (ρ : ℕ → ℕ) → Reading L widened widened_placing s ρ → Rattle.machine.specs.Readings.Reading L R P s ρ
  narrowed s ρ d = record { counted = λ e h. ltb-true (ρ e) (R.count (s.kind e)) (d.counted e h); agrees = d.agrees; forwards = d.forwards }

  pub widened_reading : (s : State) (ρ : ℕ → ℕ) → Rattle.machine.specs.Readings.Reading L R P s ρ → Reading L widened widened_placing s ρ
  widened_reading s ρ d = record { counted = λ e h. lt-ltb (ρ e) (R.count (s.kind e)) (d.counted e h); agrees = d.agrees; forwards = d.forwards }

pub one_reading : (L : Loaded) (s : State) → Good L s → OneReading L s
one_reading L s g R P =
    let r = g.read (widened L R P) (widened_placing L R P) in
    record {
      some = (r.0, narrowed L R P s r.0 r.1);
      only = λ ρ σ a b. only_one L (widened L R P) (widened_placing L R P) s g.reached ρ σ (widened_reading L R P s ρ a) (widened_reading L R P s σ b);
    }
