-- The numbers given keep within the capacity, and the finished counts with them.
use Rattle.std.proofs.Common.{◌≡◌, ℕ, ◌<◌, ◌≤◌, Bool, true, false, cond, ◌&&◌, eqb, ltb, List, [], ◌∷◌, length, Some, None, Option, sym, refl, subst, inl, inr, arith}
use Rattle.std.proofs.lemmas.Bool.{cases_eq, ltb-true}
use Rattle.words.specs.declared.faults.Refusal.{Refusal}
use Rattle.words.specs.declared.faults.Refusal.TheVariants as refusal
use Rattle.machine.specs.Loaded.{Loaded}
use Rattle.machine.specs.State.{Slot, cell, landing, State, start, born, lives, filled, waits}
use Rattle.machine.specs.Merging.{die, meet, end}
use Rattle.machine.specs.Checking.{Effect, closed, merges, fills, stuck, effect, rule_effect, link_effect}
use Rattle.machine.specs.Settling.{settled}
use Rattle.machine.specs.Sweeping.{swept}
use Rattle.machine.specs.Calls.{land_fault, define_fault, rule_fault, link_fault, settle_fault, sweep_fault, Op, land, define, check_rule, check_link, settle, sweep, apply}
use Rattle.machine.specs.Readings.{Accepted}
use Rattle.machine.specs.Sound.{Kinds}
use Rattle.machine.specs.Shift.{Todo, does, ends, carry_out, plan, next, step, Call, plain, stepping, call, calls, AllWithin}
use Rattle.machine.specs.Sequence.{sequence}
use Rattle.machine.specs.Finish.{tally, entry_in, count_of, FinishBounds}
use Rattle.machine.proofs.Wide.{Good}
use Rattle.machine.proofs.Closed.{Closed, Before, closed_all}
use Rattle.machine.proofs.Ranks.{rank_small}
use Rattle.machine.proofs.Settle.{settled_moved}
use Rattle.machine.proofs.Runs.{unless_cases, cond_some, cond_else, call_good, calls_good, calls_kinds, start_good, start_kinds}
use Rattle.machine.proofs.Numbering.{fine_short, grown_fine}
use Rattle.machine.proofs.Own.{Living}
use Rattle.machine.proofs.Twins.{fine_each}
use Rattle.machine.proofs.Entries.{tally_yes, tally_no, entry_each, entry_kind}

abbrev Within : Loaded → State → Type 0
Within L s = s.given ≤ L.capacity

meet_given : (x y : ℕ) (s : State) → (meet x y s).given ≡ s.given
unfolding meet
meet_given x y s = go (ltb x y) (ltb y x)
  where
    go : (a b : Bool) → (cond a (die y x s) (cond b (die x y s) s)).given ≡ s.given
    go true b = refl
    go false true = refl
    go false false = refl

effect_given : (x : Effect) (s : State) → (effect x s).given ≡ s.given
effect_given closed s = refl
effect_given (merges a b) s = meet_given (end s a) (end s b) s
effect_given (fills t a) s = refl
effect_given stuck s = refl

effect_within : (L : Loaded) (x : Effect) (s : State) → Within L s → Within L (effect x s)
effect_within L x s q = subst (λ n. n ≤ L.capacity) (sym (effect_given x s)) q

-- a free number was there
free : (b : Bool) (n m : ℕ) → cond {A = Option Refusal} b (Some refusal.Filled) (cond (ltb n m) None (Some refusal.Full)) ≡ None → n < m
free b n m e = ltb-true n m (cond_else (ltb n m) refusal.Full None (cond_some b refusal.Filled _ e).1).0

land_free : (L : Loaded) (s : State) (k r : ℕ) → land_fault L s k r ≡ None → s.given < L.capacity
land_free L s k r e = free (filled (s.held (landing k r))) s.given L.capacity (cond_else (ltb k L.source_kinds && ltb r (L.count k)) refusal.NotLiving _ (cond_some (waits s.waiting) refusal.Waiting _ e).1).1

define_free : (L : Loaded) (s : State) (d l : ℕ) → define_fault L s d l ≡ None → s.given < L.capacity
define_free L s d l e = free (filled (s.held (cell d l))) s.given L.capacity (cond_else (lives s d && (ltb l L.links && eqb (s.kind d) (L.from l))) refusal.NotLiving _ (cond_some (waits s.waiting) refusal.Waiting _ e).1).1

apply_within : (L : Loaded) (o : Op) (s : State) → Good L s → Within L s → Within L (apply L o s)
apply_within L (land k r) s g q = unless_cases (Within L) (land_fault L s k r) s (born (L.kind_map k) (landing k r) s) q (λ e. land_free L s k r e)
apply_within L (define e l) s g q = unless_cases (Within L) (define_fault L s e l) s (born (L.to l) (cell e l) s) q (λ h. define_free L s e l h)
apply_within L (check_rule e i) s g q = unless_cases (Within L) (rule_fault L s e i) s (effect (rule_effect L s e i) s) q (λ h. effect_within L (rule_effect L s e i) s q)
apply_within L (check_link i r) s g q = unless_cases (Within L) (link_fault L s i r) s (effect (link_effect L s i r) s) q (λ h. effect_within L (link_effect L s i r) s q)
apply_within L settle s g q = unless_cases (Within L) (settle_fault s) s (settled L s) q (λ h. subst (λ n. n ≤ L.capacity) (sym (settled_moved L s g.sound).1.given) q)
apply_within L sweep s g q = unless_cases (Within L) (sweep_fault s) s (swept s) q (λ h. let r = rank_small s.forward s.given in omega (arith, r, q))

todo_within : (L : Loaded) (s : State) (budget done : ℕ) → Good L s → Within L s → (t : Todo) → Within L (carry_out L s budget done t).state
todo_within L s budget done g q (does o) = apply_within L o s g q
todo_within L s budget done g q (ends e) = q

call_within : (L : Loaded) (c : Call) (s : State) → Good L s → Within L s → Within L (call L c s)
unfolding step
call_within L (plain o) s g q = apply_within L o s g q
call_within L (stepping budget done) s g q = todo_within L s budget done g q (plan L s (next L s) budget)

calls_within : (L : Loaded) → Accepted L → (cs : List Call) (s : State) → Good L s → Within L s → Within L (calls L cs s)
unfolding calls
calls_within L acc [] s g q = q
calls_within L acc (c ∷ cs) s g q = calls_within L acc cs (call L c s) (call_good L acc c s g) (call_within L c s g q)

pub all_within : AllWithin
all_within L acc cs = calls_within L acc cs start (start_good L) (omega arith)

pub tally_short : (kind : ℕ → ℕ) (k : ℕ) (xs : List ℕ) → tally kind k xs ≤ length xs
unfolding tally
tally_short kind k [] = omega arith
tally_short kind k (x ∷ xs) =
    let r = tally_short kind k xs in
    elim (cases_eq (kind x) k) [ inl e ↦ (let q = tally_yes kind k x xs e in omega (arith, r, q)) | inr e ↦ (let q = tally_no kind k x xs e in omega (arith, r, q)) ]

pub kind_known : (L : Loaded) → Accepted L → (s : State) → Good L s → Kinds L s → (e : ℕ) → e < s.given → s.kind e < L.target_kinds
kind_known L acc s g ks e h = closed_all known (g.reached e h)
  where
    fit : (t : Slot) (w : ℕ) → s.held t ≡ Some w → Before (λ e. s.kind e < L.target_kinds) t → s.kind w < L.target_kinds
    fit (cell d l) w c b = subst (λ k. k < L.target_kinds) (sym (ks.fit (cell d l) w c).0) (acc.to_known l (g.sound.used (cell d l) w c).1.1)
    fit (landing k r) w c b = subst (λ k. k < L.target_kinds) (sym (ks.fit (landing k r) w c).0) (acc.map_known k (g.sound.used (landing k r) w c).1.0)

    known : Closed (λ e. s.kind e < L.target_kinds) s
    known = record { fits = fit; goes = λ x q. subst (λ k. k < L.target_kinds) (sym (ks.kept x)) q; comes = λ x q. subst (λ k. k < L.target_kinds) (ks.kept x) q }

pub finish_bounds : FinishBounds
finish_bounds L acc cs quiet =
    let s = calls L cs start in
    let g = calls_good L acc cs start (start_good L) in
    let ks = calls_kinds L acc cs start (start_good L) (start_kinds L) in
    let fine = grown_fine L (calls L cs start) g quiet (calls L cs start).given in
    let short = fine_short (calls L cs start).given _ (sequence L (calls L cs start)) (λ y h. h.0) fine in
    record {
      few = λ k. (let a = tally_short (calls L cs start).kind k (sequence L (calls L cs start)) in let b = all_within L acc cs in omega (arith, a, b, short));
      other = λ k h. elim (cases_eq (count_of L (calls L cs start) k) 0) [
        | inl e ↦ e
        | inr e ↦ absurd (
            let pos : 0 < count_of L (calls L cs start) k = omega (arith, e) in
            let x = entry_in (calls L cs start).kind k (sequence L (calls L cs start)) 0 in
            let live = entry_each (Living (calls L cs start)) (calls L cs start).kind k (sequence L (calls L cs start)) 0 (fine_each (Living (calls L cs start)) (sequence L (calls L cs start)) fine) pos in
            let same = entry_kind (calls L cs start).kind k (sequence L (calls L cs start)) 0 pos in
            let known = kind_known L acc (calls L cs start) g ks (entry_in (calls L cs start).kind k (sequence L (calls L cs start)) 0) live.0 in
            omega (arith, same, known, h))
      ];
    }
