-- The waiting list has room.
use Rattle.std.proofs.Common.{ℕ, zero, suc, Bool, true, false, cond, eqb, List, [], ◌∷◌, inl, inr, arith}
use Rattle.std.proofs.lemmas.Bool.{cases_eq}
use Rattle.machine.specs.Loaded.{Loaded}
use Rattle.machine.specs.State.{Slot, cell, landing, State, start, born}
use Rattle.machine.specs.Walking.{Walked, ended, stopped, walk, walk_in}
use Rattle.machine.specs.Checking.{closed, merges, sides, effect, rule_effect, link_effect}
use Rattle.machine.specs.Settling.{settled}
use Rattle.machine.specs.Sweeping.{rank, swept}
use Rattle.machine.specs.Calls.{land_fault, define_fault, rule_fault, link_fault, settle_fault, sweep_fault, Op, land, define, check_rule, check_link, settle, sweep, apply}
use Rattle.machine.specs.Readings.{Accepted}
use Rattle.machine.specs.Sound.{Sound}
use Rattle.machine.specs.Shift.{Room, AllRoom, Todo, does, ends, carry_out, plan, next, step, Call, plain, stepping, call, calls}
use Rattle.machine.proofs.Wide.{Good}
use Rattle.machine.proofs.Check.{Valid, walk_valid, walk_in_valid, steps}
use Rattle.machine.proofs.Ranks.{rank_live, rank_dead, rank_small, merge_room}
use Rattle.machine.proofs.Settle.{settled_moved}
use Rattle.machine.proofs.Runs.{unless_cases, rule_tests, link_tests, call_good, start_good}

born_room : (k : ℕ) (t : Slot) (s : State) → Room s → Room (born k t s)
born_room k t s r = elim (cases_eq (s.forward s.given) s.given) [ inl e ↦ omega (arith, r, rank_live s.forward s.given e) | inr e ↦ omega (arith, r, rank_dead s.forward s.given e) ]

sides_room : (L : Loaded) (s : State) → Sound L s → Room s → (p q : Walked) → Valid L s p → Valid L s q → Room (effect (sides p q) s)
sides_room L s ok r (ended a) (ended b) u v = go (eqb a b)
  where
    go : (t : Bool) → Room (effect (cond t closed (merges a b)) s)
    go true = r
    go false = merge_room L s ok a b u.below v.below r
sides_room L s ok r (ended a) (stopped t zero) u v = r
sides_room L s ok r (ended a) (stopped t (suc n)) u v = r
sides_room L s ok r (stopped t zero) (ended b) u v = r
sides_room L s ok r (stopped t (suc n)) (ended b) u v = r
sides_room L s ok r (stopped t n) (stopped z m) u v = r

settled_room : (L : Loaded) (s : State) → Sound L s → Room s → Room (settled L s)
settled_room L s ok r = (settled_moved L s ok).1.room r

apply_room : (L : Loaded) → Accepted L → (o : Op) (s : State) → Good L s → Room s → Room (apply L o s)
apply_room L acc (land k r) s g q = unless_cases Room (land_fault L s k r) s (born (L.kind_map k) (landing k r) s) q (λ e. born_room (L.kind_map k) (landing k r) s q)
apply_room L acc (define e l) s g q = unless_cases Room (define_fault L s e l) s (born (L.to l) (cell e l) s) q (λ h. born_room (L.to l) (cell e l) s q)
apply_room L acc (check_rule e i) s g q = unless_cases Room (rule_fault L s e i) s (effect (rule_effect L s e i) s) q
    (λ h. let t = rule_tests L s e i h in sides_room L s g.sound q (walk s.held e (L.left i)) (walk s.held e (L.right i))
    (walk_valid L s g.sound (L.left i) e t.0 (steps L (L.first i) (L.left i) (acc.left_in i t.1)))
    (walk_valid L s g.sound (L.right i) e t.0 (steps L (L.first i) (L.right i) (acc.right_in i t.1))))
apply_room L acc (check_link i r) s g q = unless_cases Room (link_fault L s i r) s (effect (link_effect L s i r) s) q
    (λ h. let t = link_tests L s i r h in
    let a : Slot = landing (L.source_to i) (L.lead i r) in
    let b : Slot = landing (L.source_from i) r in
    sides_room L s g.sound q (walk_in s.held a []) (walk_in s.held b (L.link_map i))
    (walk_in_valid L s g.sound [] a (acc.to_in i t.0, acc.lead_in i r t.0 t.1) tt)
    (walk_in_valid L s g.sound (L.link_map i) b (acc.from_in i t.0, t.1) (steps L (L.kind_map (L.source_from i)) (L.link_map i) (acc.map_in i t.0))))
apply_room L acc settle s g q = unless_cases Room (settle_fault s) s (settled L s) q (λ h. settled_room L s g.sound q)
apply_room L acc sweep s g q = unless_cases Room (sweep_fault s) s (swept s) q (λ h. omega (arith, rank_small (λ x. x) (rank s.forward s.given)))

todo_room : (L : Loaded) → Accepted L → (s : State) (budget done : ℕ) → Good L s → Room s → (t : Todo) → Room (carry_out L s budget done t).state
todo_room L acc s budget done g q (does o) = apply_room L acc o s g q
todo_room L acc s budget done g q (ends e) = q

call_room : (L : Loaded) → Accepted L → (c : Call) (s : State) → Good L s → Room s → Room (call L c s)
unfolding step
call_room L acc (plain o) s g q = apply_room L acc o s g q
call_room L acc (stepping budget done) s g q = todo_room L acc s budget done g q (plan L s (next L s) budget)

calls_room : (L : Loaded) → Accepted L → (cs : List Call) (s : State) → Good L s → Room s → Room (calls L cs s)
unfolding calls
calls_room L acc [] s g q = q
calls_room L acc (c ∷ cs) s g q = calls_room L acc cs (call L c s) (call_good L acc c s g) (call_room L acc c s g q)

pub all_room : AllRoom
unfolding rank
all_room L acc cs = calls_room L acc cs start (start_good L) (omega arith)
