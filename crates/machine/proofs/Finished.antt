-- A table where a step finds nothing to do is complete.
use Rattle.std.proofs.Common.{◌≡◌, ℕ, zero, suc, ◌<◌, Bool, true, false, cond, not, ◌&&◌, eqb, List, [], ◌∷◌, length, Some, None, Option, sym, refl, ap, ◌∙◌, subst, inl, inr, arith}
use Rattle.std.proofs.lemmas.Bool.{cases_eq, eq-eqb, eqb-true, and_parts}
use Rattle.machine.specs.Loaded.{Loaded}
use Rattle.machine.specs.State.{Slot, cell, landing, State, start, filled, waits}
use Rattle.machine.specs.Walking.{Walked, ended, stopped, walk, walk_in}
use Rattle.machine.specs.Checking.{Effect, closed, merges, sides, rule_effect, link_effect}
use Rattle.machine.specs.Calls.{Op, land, define, check_rule, check_link, settle}
use Rattle.machine.specs.Readings.{Accepted, Joins}
use Rattle.machine.specs.Sound.{Mem, InUse, Sound, Kinds, content_kind}
use Rattle.machine.specs.Shift.{or_else, lowest, acts, only_if, link_next, rule_next, land_next, define_next, next, calls}
use Rattle.machine.specs.Complete.{Complete, CompleteWhenDone, Keeps}
use Rattle.machine.proofs.Runs.{none_waits, calls_good, calls_kinds, start_good, start_kinds}

or_none : (a b : Option Op) → or_else a b ≡ None → (a ≡ None) × (b ≡ None)
or_none None b e = (refl, e)
or_none (Some o) b e = absurd (cc)

none_or : (a b : Option Op) → a ≡ None → b ≡ None → or_else a b ≡ None
none_or a b p q = cc

lowest_none : (n : ℕ) (f : ℕ → Option Op) → lowest n f ≡ None → (i : ℕ) → i < n → f i ≡ None
unfolding lowest
lowest_none zero f e i h = absurd (omega (arith, h))
lowest_none (suc n) f e i h =
    let p = or_none (lowest n f) (f n) e in
    elim (cases_eq i n) [ inl q ↦ ap f q ∙ p.1 | inr q ↦ lowest_none n f p.0 i (omega (arith, h, q)) ]

none_lowest : (n : ℕ) (f : ℕ → Option Op) → ((i : ℕ) → i < n → f i ≡ None) → lowest n f ≡ None
unfolding lowest
none_lowest zero f h = refl
none_lowest (suc n) f h = none_or (lowest n f) (f n) (none_lowest n f (λ i q. h i (omega (arith, q)))) (h n (omega arith))

only_none : (b : Bool) (o : Option Op) → only_if b o ≡ None → b ≡ true → o ≡ None
only_none true o e h = e
only_none false o e h = absurd (Rattle.std.proofs.lemmas.Bool.false≢true h)

none_only : (b : Bool) (o : Option Op) → (b ≡ true → o ≡ None) → only_if b o ≡ None
none_only true o h = h refl
none_only false o h = refl

full_slot : (x : Option ℕ) (o : Op) → only_if (not (filled x)) (Some o) ≡ None → (w : ℕ) × (x ≡ Some w)
full_slot None o e = absurd (cc)
full_slot (Some w) o e = (w, refl)

slot_full : (x : Option ℕ) (b : Bool) (w : ℕ) (o : Op) → x ≡ Some w → only_if (b && not (filled x)) (Some o) ≡ None
slot_full None b w o e = absurd (cc)
slot_full (Some y) true w o e = refl
slot_full (Some y) false w o e = refl

abbrev Ended : Walked → Type 0
Ended (ended a) = Unit {0}
Ended (stopped t n) = ⊥

quiet_closed : (p q : Walked) (o : Op) → Ended p → Ended q → acts (sides p q) o ≡ None → sides p q ≡ closed
quiet_closed (ended a) (ended b) o u v = go (eqb a b)
  where
    go : (t : Bool) → acts (cond t closed (merges a b)) o ≡ None → cond t closed (merges a b) ≡ closed
    go true e = refl
    go false e = absurd (cc)
quiet_closed (ended a) (stopped t n) o u v = absurd v
quiet_closed (stopped t n) q o u v = absurd u

closed_quiet : (x : Effect) (o : Op) → x ≡ closed → acts x o ≡ None
closed_quiet x o e = cc

module _ (L : Loaded) (s : State) (ok : Sound L s) (ks : Kinds L s) (quiet : s.waiting ≡ []) (all : (e l : ℕ) → e < s.given → s.forward e ≡ e → l < L.links → s.kind e ≡ L.from l → (w : ℕ) × (s.held (cell e l) ≡ Some w)) where
  used_lives : (x : ℕ) → InUse s x → s.forward x ≡ x
  used_lives x u = elim (cases_eq (s.forward x) x) [ inl e ↦ e | inr e ↦ (let m : Mem x [] = subst (Mem x) quiet (u.if_dead e) in elim m [ ]) ]

  walk_ends : (ls : List ℕ) (e k : ℕ) → InUse s e → s.kind e ≡ k → Joins L k ls → Ended (walk s.held e ls)
  unfolding walk
  walk_ends [] e k u ke j = tt
  walk_ends (l ∷ ls) e k u ke j =
      let a = all e l u.below (used_lives e u) j.0 (ke ∙ j.1) in
      subst (λ o. Ended (Rattle.machine.specs.State.on o (stopped (cell e l) (length ls)) (λ w. walk s.held w ls))) (sym a.1)
      (walk_ends ls a.0 (L.to l) (ok.used (cell e l) a.0 a.1).0 (ks.fit (cell e l) a.0 a.1).0 j.2)

  walk_in_ends : (ls : List ℕ) (t : Slot) → ((w : ℕ) × (s.held t ≡ Some w)) → Joins L (content_kind L t) ls → Ended (walk_in s.held t ls)
  walk_in_ends ls t a j =
      subst (λ o. Ended (Rattle.machine.specs.State.on o (stopped t (length ls)) (λ w. walk s.held w ls))) (sym a.1)
      (walk_ends ls a.0 (content_kind L t) (ok.used t a.0 a.1).0 (ks.fit t a.0 a.1).0 j)

module _ (L : Loaded) (acc : Accepted L) (s : State) (ok : Sound L s) (ks : Kinds L s) where
  pub done_complete : next L s ≡ None → Complete L s
  done_complete e = go (waits s.waiting) refl e
    where
      go : (b : Bool) → waits s.waiting ≡ b → cond b (Some settle) (or_else (link_next L s) (or_else (rule_next L s) (or_else (land_next L s) (define_next L s)))) ≡ None → Complete L s
      go true w h = absurd (cc)
      go false w h =
          let a = or_none (link_next L s) (or_else (rule_next L s) (or_else (land_next L s) (define_next L s))) h in
          let b = or_none (rule_next L s) (or_else (land_next L s) (define_next L s)) a.1 in
          let c = or_none (land_next L s) (define_next L s) b.1 in
          let quiet : s.waiting ≡ [] = none_waits s.waiting w in
          let landed : (k r : ℕ) → k < L.source_kinds → r < L.count k → (w : ℕ) × (s.held (landing k r) ≡ Some w) =
          λ k r hk hr. full_slot (s.held (landing k r)) (land k r) (lowest_none (L.count k) _ (lowest_none L.source_kinds _ c.0 k hk) r hr) in
          let defined : (e l : ℕ) → e < s.given → s.forward e ≡ e → l < L.links → s.kind e ≡ L.from l → (w : ℕ) × (s.held (cell e l) ≡ Some w) =
          λ e l he live hl ke. full_slot (s.held (cell e l)) (define e l)
          (subst (λ t. only_if (t && not (filled (s.held (cell e l)))) (Some (define e l)) ≡ None) (eq-eqb (s.kind e) (L.from l) ke)
          (lowest_none L.links _ (only_none (eqb (s.forward e) e) _ (lowest_none s.given _ c.1 e he) (eq-eqb (s.forward e) e live)) l hl)) in
          record {
            quiet = quiet;
            landed = landed;
            defined = defined;
            links_closed = λ i r hi hr.
                let t : Slot = landing (L.source_to i) (L.lead i r) in
                let f : Slot = landing (L.source_from i) r in
                quiet_closed (walk_in s.held t []) (walk_in s.held f (L.link_map i)) (check_link i r)
                (walk_in_ends L s ok ks quiet defined [] t (landed (L.source_to i) (L.lead i r) (acc.to_in i hi) (acc.lead_in i r hi hr)) tt)
                (walk_in_ends L s ok ks quiet defined (L.link_map i) f (landed (L.source_from i) r (acc.from_in i hi) hr) (acc.map_in i hi))
                (lowest_none (L.count (L.source_from i)) _ (lowest_none L.source_links _ a.0 i hi) r hr);
            rules_closed = λ e i he live hi ke.
                let u : InUse s e = record { below = he; if_dead = λ d. absurd (d live) } in
                quiet_closed (walk s.held e (L.left i)) (walk s.held e (L.right i)) (check_rule e i)
                (walk_ends L s ok ks quiet defined (L.left i) e (L.first i) u ke (acc.left_in i hi))
                (walk_ends L s ok ks quiet defined (L.right i) e (L.first i) u ke (acc.right_in i hi))
                (only_none (eqb (s.kind e) (L.first i)) _ (lowest_none L.rules _ (only_none (eqb (s.forward e) e) _ (lowest_none s.given _ b.0 e he) (eq-eqb (s.forward e) e live)) i hi) (eq-eqb (s.kind e) (L.first i) ke));
          }

  pub complete_done : Complete L s → next L s ≡ None
  complete_done d =
      subst (λ l. cond (waits l) (Some settle) (or_else (link_next L s) (or_else (rule_next L s) (or_else (land_next L s) (define_next L s)))) ≡ None) (sym d.quiet)
      (none_or (link_next L s) _ (none_lowest L.source_links _ (λ i hi. none_lowest (L.count (L.source_from i)) _ (λ r hr. closed_quiet (link_effect L s i r) (check_link i r) (d.links_closed i r hi hr))))
      (none_or (rule_next L s) _ (none_lowest s.given _ (λ e he. none_only (eqb (s.forward e) e) _ (λ live. none_lowest L.rules _ (λ i hi. none_only (eqb (s.kind e) (L.first i)) _ (λ ke. closed_quiet (rule_effect L s e i) (check_rule e i) (d.rules_closed e i he (eqb-true (s.forward e) e live) hi (eqb-true (s.kind e) (L.first i) ke)))))))
      (none_or (land_next L s) (define_next L s)
      (none_lowest L.source_kinds _ (λ k hk. none_lowest (L.count k) _ (λ r hr. let a = d.landed k r hk hr in slot_full (s.held (landing k r)) true a.0 (land k r) a.1)))
      (none_lowest s.given _ (λ e he. none_only (eqb (s.forward e) e) _ (λ live. none_lowest L.links _ (λ l hl. none_only (eqb (s.kind e) (L.from l) && not (filled (s.held (cell e l)))) _ (λ both.
      let p = and_parts (eqb (s.kind e) (L.from l)) (not (filled (s.held (cell e l)))) both in
      let a = d.defined e l he (eqb-true (s.forward e) e live) hl (eqb-true (s.kind e) (L.from l) p.0) in
      absurd (filled_not (s.held (cell e l)) a.0 a.1 p.1)))))))))
    where
      filled_not : (x : Option ℕ) (w : ℕ) → x ≡ Some w → not (filled x) ≡ true → ⊥
      filled_not None w e h = cc
      filled_not (Some y) w e h = Rattle.std.proofs.lemmas.Bool.false≢true h

pub complete_when_done : CompleteWhenDone
complete_when_done L acc cs =
    let g = calls_good L acc cs start (start_good L) in
    let k = calls_kinds L acc cs start (start_good L) (start_kinds L) in
    (done_complete L acc (calls L cs start) g.sound k, complete_done L acc (calls L cs start) g.sound k)

sides_closed : (p q : Walked) → sides p q ≡ closed → (a : ℕ) × (p ≡ ended a) × (q ≡ ended a)
sides_closed (ended a) (ended b) z = go (eqb a b) refl z
  where
    go : (t : Bool) → eqb a b ≡ t → cond t closed (merges a b) ≡ closed → (c : ℕ) × (ended a ≡ ended c) × (ended b ≡ ended c)
    go true q e = (a, refl, ap ended (sym (eqb-true a b q)))
    go false q e = absurd (cc)
sides_closed (ended a) (stopped t zero) e = absurd (cc)
sides_closed (ended a) (stopped t (suc n)) e = absurd (cc)
sides_closed (stopped t zero) (ended b) e = absurd (cc)
sides_closed (stopped t (suc n)) (ended b) e = absurd (cc)
sides_closed (stopped t n) (stopped r m) e = absurd (cc)

walk_in_some : (h : Slot → Option ℕ) (t : Slot) (ls : List ℕ) (x : ℕ) → h t ≡ Some x → walk_in h t ls ≡ walk h x ls
walk_in_some h t ls x e = ap (λ o. Rattle.machine.specs.State.on o (stopped t (length ls)) (λ w. walk h w ls)) e

walk_none : (h : Slot → Option ℕ) (x : ℕ) → walk h x [] ≡ ended x
unfolding walk
walk_none h x = refl

pub complete_keeps : (L : Loaded) (s : State) → Complete L s → Keeps L s
complete_keeps L s d = record {
  rules = λ e i he live hi ke. sides_closed (walk s.held e (L.left i)) (walk s.held e (L.right i)) (d.rules_closed e i he live hi ke);
  steps = λ i r hi hr x y hx hy.
      let t : Slot = landing (L.source_to i) (L.lead i r) in
      let f : Slot = landing (L.source_from i) r in
      let c = sides_closed (walk_in s.held t []) (walk_in s.held f (L.link_map i)) (d.links_closed i r hi hr) in
      let p = walk_in_some s.held t [] y hy ∙ walk_none s.held y in
      let q = walk_in_some s.held f (L.link_map i) x hx in
      sym q ∙ (c.2 ∙ (sym c.1 ∙ p));
}
