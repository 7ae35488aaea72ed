-- Every call keeps the kinds.
use Rattle.std.proofs.Common.{◌≡◌, ℕ, zero, suc, ◌<◌, Bool, true, false, cond, eqb, ltb, List, [], ◌∷◌, length, Some, None, sym, refl, ap, ◌∙◌, subst, inl, inr, arith}
use Rattle.std.proofs.lemmas.Bool.{cases_eq, cases_lt, eq-eqb, ne_eqb, lt-ltb, cond-true, cond-false}
use Rattle.machine.specs.Loaded.{Loaded}
use Rattle.machine.specs.State.{Slot, cell, landing, State, hold, born}
use Rattle.machine.specs.Merging.{end, die, merge}
use Rattle.machine.specs.Walking.{Walked, ended, stopped, walk, walk_in}
use Rattle.machine.specs.Checking.{closed, merges, sides, effect, rule_effect, link_effect}
use Rattle.machine.specs.Settling.{rehold, take_over, pull, drain, pop, settled_first, settled}
use Rattle.machine.specs.Sweeping.{rank, pick, swept}
use Rattle.machine.specs.Readings.{Accepted, Joins, end_kind}
use Rattle.machine.specs.Sound.{Owner, Sound, content_kind, Leaves, Kinds}
use Rattle.machine.proofs.Wide.{Good}
use Rattle.machine.proofs.Base.{chase_keeps}
use Rattle.machine.proofs.Merge.{turned_cases, meet_cases}
use Rattle.machine.proofs.Fill.{some_same, put_held}
use Rattle.machine.proofs.Check.{on_cases}
use Rattle.machine.proofs.Settle.{swap_held}
use Rattle.machine.proofs.Sweep.{cell_was, renamed_held, use_pick, use_rank}

leaves_same : (L : Loaded) (s z : State) (t : Slot) → s.kind ≡ z.kind → Leaves L s t → Leaves L z t
leaves_same L s z (cell e l) q h = sym (ap (λ k. k e) q) ∙ h
leaves_same L s z (landing k r) q h = tt

module _ (L : Loaded) (s : State) (ks : Kinds L s) where
  end_kind_kept : (x : ℕ) → s.kind (end s x) ≡ s.kind x
  end_kind_kept x = chase_keeps s.forward (λ y. s.kind y ≡ s.kind x) (λ y q. ks.kept y ∙ q) x x refl

  die_kinds : (h l : ℕ) → s.kind h ≡ s.kind l → Kinds L (die h l s)
  die_kinds h l same = record {
    kept = λ x. elim (turned_cases s.forward h l x) [ inl e ↦ ap s.kind e.1 ∙ (sym same ∙ ap s.kind (sym e.0)) | inr e ↦ ap s.kind e.1 ∙ ks.kept x ];
    fit = λ t w q. ((ks.fit t w q).0, leaves_same L s (die h l s) t refl (ks.fit t w q).1);
  }

  pub merge_kinds : (a b : ℕ) → s.kind a ≡ s.kind b → Kinds L (merge a b s)
  merge_kinds a b same =
      let k : s.kind (end s a) ≡ s.kind (end s b) = end_kind_kept a ∙ (same ∙ sym (end_kind_kept b)) in
      meet_cases (Kinds L) (end s a) (end s b) s (λ q. die_kinds (end s b) (end s a) (sym k)) (λ q. die_kinds (end s a) (end s b) k) (λ q. ks)

  pub empty_kinds : (t : Slot) → Kinds L (hold t None s)
  empty_kinds t = record {
    kept = ks.kept;
    fit = λ u w e. elim (put_held t None s.held u w e) [
      | inl q ↦ absurd (cc q.1)
      | inr q ↦ ((ks.fit u w q.1).0, leaves_same L s (hold t None s) u refl (ks.fit u w q.1).1)
    ];
  }

  pub fill_kinds : (t : Slot) (a : ℕ) → s.kind a ≡ content_kind L t → Leaves L s t → Kinds L (hold t (Some a) s)
  fill_kinds t a ka lt = record {
    kept = ks.kept;
    fit = λ u w e. elim (put_held t (Some a) s.held u w e) [
      | inl q ↦ (ap s.kind (sym (some_same a w (Some a) refl q.1)) ∙ (ka ∙ ap (content_kind L) (sym q.0)), leaves_same L s (hold t (Some a) s) u refl (subst (Leaves L s) (sym q.0) lt))
      | inr q ↦ ((ks.fit u w q.1).0, leaves_same L s (hold t (Some a) s) u refl (ks.fit u w q.1).1)
    ];
  }

  module _ (k : ℕ) (t : Slot) (ok : Sound L s) (ot : Owner L s t) (lt : Leaves L s t) (kt : k ≡ content_kind L t) where
    kind_old : (x : ℕ) → x < s.given → (born k t s).kind x ≡ s.kind x
    kind_old x h = cond-false (eqb x s.given) k (s.kind x) (ne_eqb x s.given (λ e. omega (arith, e, h)))

    leaves_old : (u : Slot) → Owner L s u → Leaves L s u → Leaves L (born k t s) u
    leaves_old (cell e l) o q = kind_old e o.0.below ∙ q
    leaves_old (landing j r) o q = tt

    pub born_kinds : Kinds L (born k t s)
    born_kinds = record {
      kept = λ x. elim (cases_eq (s.forward x) x) [
        | inl q ↦ ap (born k t s).kind q
        | inr q ↦ (
            let b : x < s.given = elim (cases_lt x s.given) [ inl y ↦ y | inr y ↦ absurd (q (ok.fresh x y)) ] in
            kind_old (s.forward x) (omega (arith, ok.lower x, b)) ∙ (ks.kept x ∙ sym (kind_old x b)))
      ];
      fit = λ u w e. elim (put_held t (Some s.given) s.held u w e) [
        | inl q ↦ (cond-true (eqb w s.given) k (s.kind w) (eq-eqb w s.given (some_same w s.given (Some s.given) q.1 refl)) ∙ (kt ∙ ap (content_kind L) (sym q.0)), leaves_old u (subst (Owner L s) (sym q.0) ot) (subst (Leaves L s) (sym q.0) lt))
        | inr q ↦ (kind_old w (ok.used u w q.1).0.below ∙ (ks.fit u w q.1).0, leaves_old u (ok.used u w q.1).1 (ks.fit u w q.1).1)
      ];
    }

  -- walks
  abbrev ComesTo : ℕ → Walked → Type 0
  ComesTo k (ended a) = s.kind a ≡ k
  ComesTo k (stopped t n) = Leaves L s t × (n ≡ 0 → content_kind L t ≡ k)

  no_more : (ls : List ℕ) (k : ℕ) → length ls ≡ 0 → k ≡ end_kind L k ls
  no_more [] k h = refl
  no_more (l ∷ ls) k h = absurd (omega (arith, h))

  pub walk_kinds : (ls : List ℕ) (e k : ℕ) → s.kind e ≡ k → Joins L k ls → ComesTo (end_kind L k ls) (walk s.held e ls)
  unfolding walk
  walk_kinds [] e k ke j = ke
  walk_kinds (l ∷ ls) e k ke j = on_cases (ComesTo (end_kind L (L.to l) ls)) (s.held (cell e l)) (stopped (cell e l) (length ls)) (λ w. walk s.held w ls)
      (λ q. (ke ∙ j.1, no_more ls (L.to l)))
      (λ w q. walk_kinds ls w (L.to l) (ks.fit (cell e l) w q).0 j.2)

  pub walk_in_kinds : (ls : List ℕ) (t : Slot) → Leaves L s t → Joins L (content_kind L t) ls → ComesTo (end_kind L (content_kind L t) ls) (walk_in s.held t ls)
  walk_in_kinds ls t lt j = on_cases (ComesTo (end_kind L (content_kind L t) ls)) (s.held t) (stopped t (length ls)) (λ w. walk s.held w ls)
      (λ q. (lt, no_more ls (content_kind L t)))
      (λ w q. walk_kinds ls w (content_kind L t) (ks.fit t w q).0 j)

  sides_kinds : (k : ℕ) (p q : Walked) → ComesTo k p → ComesTo k q → Kinds L (effect (sides p q) s)
  sides_kinds k (ended a) (ended b) u v = go (eqb a b)
    where
      go : (t : Bool) → Kinds L (effect (cond t closed (merges a b)) s)
      go true = ks
      go false = merge_kinds a b (u ∙ sym v)
  sides_kinds k (ended a) (stopped t zero) u v = fill_kinds t a (u ∙ sym (v.1 refl)) v.0
  sides_kinds k (ended a) (stopped t (suc n)) u v = ks
  sides_kinds k (stopped t zero) (ended b) u v = fill_kinds t b (v ∙ sym (u.1 refl)) u.0
  sides_kinds k (stopped t (suc n)) (ended b) u v = ks
  sides_kinds k (stopped t n) (stopped r m) u v = ks

  pub rule_kinds : Accepted L → (e i : ℕ) → i < L.rules → s.kind e ≡ L.first i → Kinds L (effect (rule_effect L s e i) s)
  rule_kinds acc e i hi ke = sides_kinds (end_kind L (L.first i) (L.right i)) (walk s.held e (L.left i)) (walk s.held e (L.right i))
      (subst (λ k. ComesTo k (walk s.held e (L.left i))) (acc.one_end i hi) (walk_kinds (L.left i) e (L.first i) ke (acc.left_in i hi)))
      (walk_kinds (L.right i) e (L.first i) ke (acc.right_in i hi))

  pub link_kinds : Accepted L → (i r : ℕ) → i < L.source_links → Kinds L (effect (link_effect L s i r) s)
  link_kinds acc i r hi =
      let t : Slot = landing (L.source_to i) (L.lead i r) in
      let f : Slot = landing (L.source_from i) r in
      sides_kinds (L.kind_map (L.source_to i)) (walk_in s.held t []) (walk_in s.held f (L.link_map i))
      (walk_in_kinds [] t tt tt)
      (subst (λ k. ComesTo k (walk_in s.held f (L.link_map i))) (acc.map_end i hi) (walk_in_kinds (L.link_map i) f tt (acc.map_in i hi)))

  pub rehold_kinds : (v : ℕ) → Kinds L (rehold v (end s v) s)
  rehold_kinds v = record {
    kept = ks.kept;
    fit = λ t w e. elim (swap_held v (end s v) (s.held t) w e) [
      | inl q ↦ (ap s.kind q.1 ∙ (end_kind_kept v ∙ (ks.fit t v q.0).0), leaves_same L s (rehold v (end s v) s) t refl (ks.fit t v q.0).1)
      | inr q ↦ ((ks.fit t w q.0).0, leaves_same L s (rehold v (end s v) s) t refl (ks.fit t w q.0).1)
    ];
  }

take_over_kinds : (L : Loaded) (u l w : ℕ) (z : State) → Kinds L z → z.kind u ≡ L.from l → z.kind w ≡ L.to l → Kinds L (take_over u l w z)
unfolding take_over
take_over_kinds L u l w z kz ku kw = on_cases (Kinds L) (z.held (cell u l)) (hold (cell u l) (Some w) z) (λ d. merge d w z)
    (λ q. fill_kinds L z kz (cell u l) w kw ku)
    (λ d q. merge_kinds L z kz d w ((kz.fit (cell u l) d q).0 ∙ sym kw))

pub pull_kinds : (L : Loaded) (s : State) → Kinds L s → (v n : ℕ) → Kinds L (pull v n s)
unfolding pull
pull_kinds L s ks v n = on_cases (Kinds L) (s.held (cell v n)) s (λ c. take_over (end s v) n (end s c) (hold (cell v n) None s)) (λ q. ks) (λ c q.
    take_over_kinds L (end s v) n (end s c) (hold (cell v n) None s) (empty_kinds L s ks (cell v n)) (end_kind_kept L s ks v ∙ (ks.fit (cell v n) c q).1) (end_kind_kept L s ks c ∙ (ks.fit (cell v n) c q).0))

pub drain_kinds : (L : Loaded) (v n : ℕ) (s : State) → Kinds L s → Kinds L (drain v n s)
unfolding drain
drain_kinds L v zero s ks = ks
drain_kinds L v (suc n) s ks = pull_kinds L (drain v n s) (drain_kinds L v n s ks) v n

pub settled_kinds : (L : Loaded) (s : State) → Kinds L s → Kinds L (settled L s)
settled_kinds L s ks = go s.waiting
  where
    go : (l : List ℕ) → Kinds L (settled_first L s l)
    go [] = ks
    go (v ∷ vs) =
        let z = drain v L.links (rehold v (end s v) s) in
        let k = drain_kinds L v L.links (rehold v (end s v) s) (rehold_kinds L s ks v) in
        record { kept = k.kept; fit = λ t w q. ((k.fit t w q).0, leaves_same L z (pop z) t refl (k.fit t w q).1) }

module _ (L : Loaded) (s : State) (g : Good L s) (none : s.waiting ≡ []) (ks : Kinds L s) where
  abbrev G : ℕ
  G = rank s.forward s.given

  abbrev p : ℕ → ℕ
  p = pick s.forward s.given

  kind_now : (n : ℕ) → n < G → (swept s).kind n ≡ s.kind (p n)
  kind_now n h = cond-true (ltb n G) (s.kind (p n)) 0 (lt-ltb n G h)

  swept_fit : (t : Slot) (y : ℕ) → (swept s).held t ≡ Some y → ((swept s).kind y ≡ content_kind L t) × Leaves L (swept s) t
  swept_fit (cell n l) y e =
      let a = cell_was L s g none n l y e in
      let w = a.1.0 in
      let u = g.sound.used (cell (p n) l) w a.1.1 in
      let q = ks.fit (cell (p n) l) w a.1.1 in
      (ap (swept s).kind a.1.2 ∙ (kind_now (rank s.forward w) (use_rank L s g none w u.0) ∙ (ap s.kind (use_pick L s g none w u.0) ∙ q.0)), kind_now n a.0 ∙ q.1)
  swept_fit (landing k r) y e =
      let a = renamed_held (rank s.forward) (s.held (landing k r)) y e in
      let w = a.0 in
      let u = g.sound.used (landing k r) w a.1 in
      (ap (swept s).kind a.2 ∙ (kind_now (rank s.forward w) (use_rank L s g none w u.0) ∙ (ap s.kind (use_pick L s g none w u.0) ∙ (ks.fit (landing k r) w a.1).0)), tt)

  pub swept_kinds : Kinds L (swept s)
  swept_kinds = record { kept = λ x. refl; fit = swept_fit }
