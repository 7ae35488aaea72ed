-- Nothing that was filled is ever lost.
use Rattle.std.proofs.Common.{◌≡◌, ℕ, zero, suc, Bool, true, false, cond, eqb, List, [], ◌∷◌, length, Some, None, Option, sym, refl, ap, ◌∙◌}
use Rattle.words.specs.declared.faults.Refusal.TheVariants as refusal
use Rattle.machine.specs.Loaded.{Loaded}
use Rattle.machine.specs.State.{Slot, cell, landing, State, start, born, waits}
use Rattle.machine.specs.Merging.{end}
use Rattle.machine.specs.Walking.{Walked, ended, stopped, walk, walk_in}
use Rattle.machine.specs.Checking.{closed, merges, sides, effect, rule_effect, link_effect}
use Rattle.machine.specs.Settling.{settled}
use Rattle.machine.specs.Sweeping.{rank, swept}
use Rattle.machine.specs.Calls.{land_fault, define_fault, rule_fault, link_fault, settle_fault, unless, Op, land, define, check_rule, check_link, settle, sweep, apply}
use Rattle.machine.specs.Readings.{Accepted}
use Rattle.machine.specs.Sound.{InUse}
use Rattle.machine.specs.Shift.{Todo, does, ends, carry_out, plan, next, step, Call, plain, stepping, call, calls}
use Rattle.machine.specs.Lost.{op_renames, todo_renames, call_renames, calls_rename, NotLost, NothingLost, NeverLost}
use Rattle.machine.proofs.Wide.{Good}
use Rattle.machine.proofs.Kept.{place, Kept, kept_none, kept_then, merge_kept, fill_kept, born_kept}
use Rattle.machine.proofs.Check.{on_cases}
use Rattle.machine.proofs.Settle.{settled_moved}
use Rattle.machine.proofs.Sweep.{use_end, swept_kept}
use Rattle.machine.proofs.Runs.{unless_cases, none_waits, land_tests, define_tests, call_good, calls_good, start_good}

-- a walk stops before an empty slot
abbrev Open : (Slot → Option ℕ) → Walked → Type 0
Open h (ended a) = Unit {0}
Open h (stopped t n) = h t ≡ None

walk_open : (h : Slot → Option ℕ) (e : ℕ) (ls : List ℕ) → Open h (walk h e ls)
unfolding walk
walk_open h e [] = tt
walk_open h e (l ∷ ls) = on_cases (Open h) (h (cell e l)) (stopped (cell e l) (length ls)) (λ w. walk h w ls) (λ q. q) (λ w q. walk_open h w ls)

walk_in_open : (h : Slot → Option ℕ) (t : Slot) (ls : List ℕ) → Open h (walk_in h t ls)
walk_in_open h t ls = on_cases (Open h) (h t) (stopped t (length ls)) (λ w. walk h w ls) (λ q. q) (λ w q. walk_open h w ls)

module _ (L : Loaded) (s : State) (g : Good L s) where
  sides_kept : (p q : Walked) → Open s.held p → Open s.held q → Kept s (effect (sides p q) s) (λ x. x)
  sides_kept (ended a) (ended b) u v = go (eqb a b)
    where
      go : (t : Bool) → Kept s (effect (cond t closed (merges a b)) s) (λ x. x)
      go true = kept_none s
      go false = merge_kept s g.sound.lower a b
  sides_kept (ended a) (stopped t zero) u v = fill_kept s t v a
  sides_kept (ended a) (stopped t (suc n)) u v = kept_none s
  sides_kept (stopped t zero) (ended b) u v = fill_kept s t u b
  sides_kept (stopped t (suc n)) (ended b) u v = kept_none s
  sides_kept (stopped t n) (stopped r m) u v = kept_none s

  sweep_kept : (b : Bool) → waits s.waiting ≡ b → Kept s (unless (cond b (Some refusal.Waiting) None) s (swept s)) (λ x. cond b x (rank s.forward (end s x)))
  sweep_kept true e = kept_none s
  sweep_kept false e = swept_kept L s g (none_waits s.waiting e)

  apply_kept : (o : Op) → Kept s (apply L o s) (op_renames o s)
  apply_kept (land k r) = unless_cases (λ z. Kept s z (λ x. x)) (land_fault L s k r) s (born (L.kind_map k) (landing k r) s) (kept_none s)
      (λ e. born_kept s (landing k r) (land_tests L s k r e).2 (L.kind_map k))
  apply_kept (define e l) = unless_cases (λ z. Kept s z (λ x. x)) (define_fault L s e l) s (born (L.to l) (cell e l) s) (kept_none s)
      (λ h. born_kept s (cell e l) (define_tests L s e l h).3 (L.to l))
  apply_kept (check_rule e i) = unless_cases (λ z. Kept s z (λ x. x)) (rule_fault L s e i) s (effect (rule_effect L s e i) s) (kept_none s)
      (λ h. sides_kept (walk s.held e (L.left i)) (walk s.held e (L.right i)) (walk_open s.held e (L.left i)) (walk_open s.held e (L.right i)))
  apply_kept (check_link i r) =
      let t : Slot = landing (L.source_to i) (L.lead i r) in
      let f : Slot = landing (L.source_from i) r in
      unless_cases (λ z. Kept s z (λ x. x)) (link_fault L s i r) s (effect (link_effect L s i r) s) (kept_none s)
      (λ h. sides_kept (walk_in s.held t []) (walk_in s.held f (L.link_map i)) (walk_in_open s.held t []) (walk_in_open s.held f (L.link_map i)))
  apply_kept settle = unless_cases (λ z. Kept s z (λ x. x)) (settle_fault s) s (settled L s) (kept_none s) (λ h. (settled_moved L s g.sound).1.kept)
  apply_kept sweep = sweep_kept (waits s.waiting) refl

  todo_kept : (budget done : ℕ) (t : Todo) → Kept s (carry_out L s budget done t).state (todo_renames t s)
  todo_kept budget done (does o) = apply_kept o
  todo_kept budget done (ends e) = kept_none s

  call_kept : (c : Call) → Kept s (call L c s) (call_renames L c s)
  unfolding step
  call_kept (plain o) = apply_kept o
  call_kept (stepping budget done) = todo_kept budget done (plan L s (next L s) budget)

calls_kept : (L : Loaded) → Accepted L → (cs : List Call) (s : State) → Good L s → Kept s (calls L cs s) (calls_rename L cs s)
unfolding calls calls_rename
calls_kept L acc [] s g = kept_none s
calls_kept L acc (c ∷ cs) s g = kept_then s (call L c s) (calls L cs (call L c s)) (call_renames L c s) (calls_rename L cs (call L c s)) (call_kept L s g c) (calls_kept L acc cs (call L c s) (call_good L acc c s g))

-- which slot is in a place
at_landing : (z : State) (u : Slot) (k r : ℕ) → place z (λ x. x) u ≡ landing k r → u ≡ landing k r
at_landing z (cell d l) k r q = cc
at_landing z (landing i j) k r q = q

at_cell : (z : State) (u : Slot) (e l : ℕ) → place z (λ x. x) u ≡ cell e l → (d : ℕ) × (u ≡ cell d l) × (end z d ≡ e)
at_cell z (cell d k) e l q = let p : k ≡ l = cc in (d, ap (cell d) p, (cc))
at_cell z (landing i j) e l q = absurd (cc)

not_lost : (L : Loaded) (s z : State) (f : ℕ → ℕ) → Good L z → Kept s z f → NotLost s z f
not_lost L s z f g k = record {
  numbered = k.numbered;
  together = k.together;
  landings = in_landing;
  cells = in_cell;
  quiet_landings = λ none i r w e. let m = in_landing i r w e in m.1 ∙ ap Some (living none m.0 (f w) (g.sound.used (landing i r) m.0 m.1).0 m.2);
  quiet_cells = λ none e l w h.
      let m = in_cell e l w h in
      ap (λ x. z.held (cell x l)) (sym (living none m.0 (f e) m.2 m.3)) ∙ (m.4 ∙ ap Some (living none m.1 (f w) (g.sound.used (cell m.0 l) m.1 m.4).0 m.5));
}
  where
    in_landing : (i r w : ℕ) → s.held (landing i r) ≡ Some w → (v : ℕ) × (z.held (landing i r) ≡ Some v) × (end z v ≡ end z (f w))
    in_landing i r w e = let m = k.found (landing i r) w e in (m.1, ap z.held (sym (at_landing z m.0 i r m.3)) ∙ m.2, m.4)

    in_cell : (e l w : ℕ) → s.held (cell e l) ≡ Some w → (d : ℕ) × (v : ℕ) × InUse z d × (end z d ≡ end z (f e)) × (z.held (cell d l) ≡ Some v) × (end z v ≡ end z (f w))
    in_cell e l w h =
        let m = k.found (cell e l) w h in
        let a = at_cell z m.0 (end z (f e)) l m.3 in
        let held : z.held (cell a.0 l) ≡ Some m.1 = ap z.held (sym a.1) ∙ m.2 in
        (a.0, m.1, (g.sound.used (cell a.0 l) m.1 held).1.0, a.2, held, m.4)

    living : z.waiting ≡ [] → (x y : ℕ) → InUse z x → end z x ≡ end z y → x ≡ end z y
    living none x y u q = sym (use_end L z g none x u) ∙ q

pub nothing_lost : NothingLost
nothing_lost L acc cs c =
    let s = calls L cs start in
    let g = calls_good L acc cs start (start_good L) in
    not_lost L s (call L c s) (call_renames L c s) (call_good L acc c s g) (call_kept L s g c)

pub never_lost : NeverLost
never_lost L acc cs ds =
    let s = calls L cs start in
    let g = calls_good L acc cs start (start_good L) in
    not_lost L s (calls L ds s) (calls_rename L ds s) (calls_good L acc ds s g) (calls_kept L acc ds s g)
