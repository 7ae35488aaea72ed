-- A complete table is a receiver, with its landings as a placing; it reads itself by the living ends.
use Rattle.std.proofs.Common.{◌≡◌, ℕ, ◌<◌, Bool, true, ◌&&◌, eqb, ltb, List, [], ◌∷◌, length, Some, None, Option, sym, refl, ap, ◌∙◌, subst, arith}
use Rattle.std.proofs.lemmas.Bool.{eq-eqb, eqb-true, lt-ltb, ltb-true, and_from, and_parts}
use Rattle.machine.specs.Loaded.{Loaded}
use Rattle.machine.specs.State.{Slot, cell, landing, State, on, lives}
use Rattle.machine.specs.Merging.{end}
use Rattle.machine.specs.Walking.{ended, stopped, walk}
use Rattle.machine.specs.Readings.{Accepted, along, worth}
use Rattle.machine.proofs.Wide.{Receiver, Placing, Reading}
use Rattle.machine.proofs.Base.{chase_fix, chase_keeps, chase_lives, chase_lower, end_forward}
use Rattle.machine.proofs.Sweep.{use_lives}
use Rattle.machine.proofs.Finished.{complete_keeps}
use Rattle.machine.proofs.Capacity.{Whole}

abbrev pub Living : State → ℕ → Type 0
Living s e = (e < s.given) × (s.forward e ≡ e)

abbrev pub content : Option ℕ → ℕ
content o = on o 0 (λ w. w)

abbrev pub has_living : State → ℕ → ℕ → Bool
has_living s k x = lives s x && eqb (s.kind x) k

pub has_parts : (s : State) (k x : ℕ) → has_living s k x ≡ true → Living s x × (s.kind x ≡ k)
has_parts s k x h =
    let a = and_parts (lives s x) (eqb (s.kind x) k) h in
    let b = and_parts (ltb x s.given) (eqb (s.forward x) x) a.0 in
    ((ltb-true x s.given b.0, eqb-true (s.forward x) x b.1), eqb-true (s.kind x) k a.1)

pub parts_has : (s : State) (k x : ℕ) → Living s x → s.kind x ≡ k → has_living s k x ≡ true
parts_has s k x h e = and_from (lives s x) (eqb (s.kind x) k) (and_from (ltb x s.given) (eqb (s.forward x) x) (lt-ltb x s.given h.0) (eq-eqb (s.forward x) x h.1)) (eq-eqb (s.kind x) k e)

-- where a walk ends, the links lead
pub walk_along : (h : Slot → Option ℕ) (ls : List ℕ) (e a : ℕ) → walk h e ls ≡ ended a → along (λ l x. content (h (cell x l))) e ls ≡ a
unfolding walk
walk_along h [] e a q = cc
walk_along h (l ∷ ls) e a q = go (h (cell e l)) refl (λ w. walk_along h ls w a) q
  where
    go : (o : Option ℕ) → h (cell e l) ≡ o → ((w : ℕ) → walk h w ls ≡ ended a → along (λ l x. content (h (cell x l))) w ls ≡ a) → on o (stopped (cell e l) (length ls)) (λ w. walk h w ls) ≡ ended a → along (λ l x. content (h (cell x l))) (content (h (cell e l))) ls ≡ a
    go None p f z = absurd (cc)
    go (Some w) p f z = ap (λ o. along (λ l x. content (h (cell x l))) (content o) ls) p ∙ f w z

module _ (L : Loaded) (acc : Accepted L) (s : State) (b : Whole L s) where
  pub held_living : (t : Slot) (w : ℕ) → s.held t ≡ Some w → Living s w
  held_living t w e = let u = (b.good.sound.used t w e).0 in (u.below, use_lives L s b.good b.complete.quiet w u)

  abbrev pub own : Receiver L
  own = record {
    has = has_living s;
    lead = λ l x. content (s.held (cell x l));
    inside = λ l x hl h.
        let p = has_parts s (L.from l) x h in
        let w = b.complete.defined x l p.0.0 p.0.1 hl p.1 in
        subst (λ o. has_living s (L.to l) (content o) ≡ true) (sym w.1) (parts_has s (L.to l) w.0 (held_living (cell x l) w.0 w.1) (b.kinds.fit (cell x l) w.0 w.1).0);
    keeps = λ i x hi h.
        let p = has_parts s (L.first i) x h in
        let a = (complete_keeps L s b.complete).rules x i p.0.0 p.0.1 hi p.1 in
        walk_along s.held (L.left i) x a.0 a.1 ∙ sym (walk_along s.held (L.right i) x a.0 a.2);
  }

  abbrev pub own_placing : Placing L own
  own_placing = record {
    at = λ k r. content (s.held (landing k r));
    counted = λ k r hk hr.
        let w = b.complete.landed k r hk hr in
        subst (λ o. has_living s (L.kind_map k) (content o) ≡ true) (sym w.1) (parts_has s (L.kind_map k) w.0 (held_living (landing k r) w.0 w.1) (b.kinds.fit (landing k r) w.0 w.1).0);
    in_step = λ i r hi hr.
        let x = b.complete.landed (L.source_from i) r (acc.from_in i hi) hr in
        let y = b.complete.landed (L.source_to i) (L.lead i r) (acc.to_in i hi) (acc.lead_in i r hi hr) in
        ap (λ o. along own.lead (content o) (L.link_map i)) x.1 ∙ (walk_along s.held (L.link_map i) x.0 y.0 ((complete_keeps L s b.complete).steps i r hi hr x.0 y.0 x.1 y.1) ∙ sym (ap content y.1));
  }

  pub end_living : (e : ℕ) → e < s.given → Living s (end s e)
  end_living e h = let ok = b.good.sound in (omega (arith, chase_lower s.forward ok.lower e e, h), chase_lives s.forward ok.lower e e (omega arith))

  pub own_reading : Reading L own own_placing s (end s)
  own_reading = record {
    counted = λ e h. parts_has s (s.kind e) (end s e) (end_living e h) (chase_keeps s.forward (λ y. s.kind y ≡ s.kind e) (λ y q. b.kinds.kept y ∙ q) e e refl);
    agrees = agree;
    forwards = λ e. end_forward s.forward b.good.sound.lower e;
  }
    where
      stays : (w : ℕ) → Living s w → end s w ≡ w
      stays w h = chase_fix s.forward w w h.1

      agree : (t : Slot) (w : ℕ) → s.held t ≡ Some w → end s w ≡ worth own.lead own_placing.at (end s) t
      agree (cell e l) w h =
          let u = (b.good.sound.used (cell e l) w h).1.0 in
          stays w (held_living (cell e l) w h) ∙ sym (ap (λ y. content (s.held (cell y l))) (stays e (u.below, use_lives L s b.good b.complete.quiet e u)) ∙ ap content h)
      agree (landing k r) w h = stays w (held_living (landing k r) w h) ∙ sym (ap content h)
