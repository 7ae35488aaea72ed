-- Every list of calls keeps a table good.
use Rattle.std.proofs.Common.{◌≡◌, ℕ, ◌<◌, Bool, true, false, cond, ◌&&◌, eqb, ltb, List, [], ◌∷◌, Some, None, Option, refl, arith}
use Rattle.std.proofs.lemmas.Bool.Decides.{nat_tests}
use Rattle.words.specs.declared.faults.Refusal.{Refusal}
use Rattle.words.specs.declared.faults.Refusal.TheVariants as refusal
use Rattle.machine.specs.Loaded.{Loaded}
use Rattle.machine.specs.State.{cell, landing, State, start, born, filled, waits, lives}
use Rattle.machine.specs.Checking.{effect, rule_effect, link_effect}
use Rattle.machine.specs.Settling.{settled}
use Rattle.machine.specs.Sweeping.{swept}
use Rattle.machine.specs.Calls.{land_fault, define_fault, rule_fault, link_fault, settle_fault, sweep_fault, unless, Op, land, define, check_rule, check_link, settle, sweep, apply}
use Rattle.machine.specs.Readings.{Accepted, OneReading}
use Rattle.machine.specs.Sound.{InUse, Kinds}
use Rattle.machine.specs.Shift.{Todo, does, ends, carry_out, plan, next, step, Call, plain, stepping, call, calls, AllSound, AllReached, AllKinds}
use Rattle.machine.proofs.Wide.{Good}
use Rattle.machine.proofs.Closed.{one_reading}
use Rattle.machine.proofs.Check.{rule_good, link_good, land_good, define_good}
use Rattle.machine.proofs.Settle.{settled_good}
use Rattle.machine.proofs.Sweep.{swept_good}
use Rattle.machine.proofs.Typed.{born_kinds, rule_kinds, link_kinds, settled_kinds, swept_kinds}

pub unless_cases : (P : State → Type 0) (o : Option Refusal) (s z : State) → P s → (o ≡ None → P z) → P (unless o s z)
unless_cases P None s z a b = b refl
unless_cases P (Some n) s z a b = a

empty_since : (o : Option ℕ) → filled o ≡ false → o ≡ None
empty_since None e = refl
empty_since (Some w) e = cc

pub none_waits : (l : List ℕ) → waits l ≡ false → l ≡ []
none_waits [] e = refl
none_waits (x ∷ xs) e = cc

-- a refusal that is not given says that each of its tests passed
pub cond_some : (b : Bool) (n : Refusal) (o : Option Refusal) → cond b (Some n) o ≡ None → (b ≡ false) × (o ≡ None)
cond_some true n o e = (cc, cc)
cond_some false n o e = (refl, e)

pub cond_else : (b : Bool) (n : Refusal) (o : Option Refusal) → cond b o (Some n) ≡ None → (b ≡ true) × (o ≡ None)
cond_else true n o e = (refl, e)
cond_else false n o e = (cc, cc)

module _ (L : Loaded) (s : State) where
  pub lives_use : (e : ℕ) → lives s e ≡ true → InUse s e
  lives_use e h = record { below = grind (arith, nat_tests); if_dead = λ d. absurd (d (grind (arith, nat_tests))) }

  pub land_tests : (k r : ℕ) → land_fault L s k r ≡ None → (k < L.source_kinds) × (r < L.count k) × (s.held (landing k r) ≡ None)
  land_tests k r e =
      let a = cond_some (waits s.waiting) refusal.Waiting _ e in
      let b = cond_else (ltb k L.source_kinds && ltb r (L.count k)) refusal.NotLiving _ a.1 in
      let c = cond_some (filled (s.held (landing k r))) refusal.Filled _ b.1 in
      let t = b.0 in
      ((grind (arith, nat_tests)), (grind (arith, nat_tests)), empty_since (s.held (landing k r)) c.0)

  pub define_tests : (e l : ℕ) → define_fault L s e l ≡ None → InUse s e × (l < L.links) × (s.kind e ≡ L.from l) × (s.held (cell e l) ≡ None)
  define_tests e l h =
      let a = cond_some (waits s.waiting) refusal.Waiting _ h in
      let b = cond_else (lives s e && (ltb l L.links && eqb (s.kind e) (L.from l))) refusal.NotLiving _ a.1 in
      let c = cond_some (filled (s.held (cell e l))) refusal.Filled _ b.1 in
      let p = Rattle.std.proofs.lemmas.Bool.and_parts (lives s e) (ltb l L.links && eqb (s.kind e) (L.from l)) b.0 in
      let q = p.1 in
      (lives_use e p.0, (grind (arith, nat_tests)), (grind (arith, nat_tests)), empty_since (s.held (cell e l)) c.0)

  pub rule_tests : (e i : ℕ) → rule_fault L s e i ≡ None → InUse s e × (i < L.rules) × (s.kind e ≡ L.first i)
  rule_tests e i h =
      let a = cond_some (waits s.waiting) refusal.Waiting _ h in
      let b = cond_else (lives s e && (ltb i L.rules && eqb (s.kind e) (L.first i))) refusal.NotLiving _ a.1 in
      let p = Rattle.std.proofs.lemmas.Bool.and_parts (lives s e) (ltb i L.rules && eqb (s.kind e) (L.first i)) b.0 in
      let q = p.1 in
      (lives_use e p.0, (grind (arith, nat_tests)), (grind (arith, nat_tests)))

  pub link_tests : (i r : ℕ) → link_fault L s i r ≡ None → (i < L.source_links) × (r < L.count (L.source_from i))
  link_tests i r h =
      let a = cond_some (waits s.waiting) refusal.Waiting _ h in
      let b = cond_else (ltb i L.source_links && ltb r (L.count (L.source_from i))) refusal.NotLiving _ a.1 in
      let q = b.0 in
      ((grind (arith, nat_tests)), (grind (arith, nat_tests)))

  sweep_tests : sweep_fault s ≡ None → s.waiting ≡ []
  sweep_tests h = none_waits s.waiting (cond_some (waits s.waiting) refusal.Waiting None h).0

pub apply_good : (L : Loaded) → Accepted L → (o : Op) (s : State) → Good L s → Good L (apply L o s)
apply_good L acc (land k r) s g = unless_cases (Good L) (land_fault L s k r) s (born (L.kind_map k) (landing k r) s) g
    (λ e. let t = land_tests L s k r e in land_good L s g k r t.0 t.1 t.2)
apply_good L acc (define e l) s g = unless_cases (Good L) (define_fault L s e l) s (born (L.to l) (cell e l) s) g
    (λ h. let t = define_tests L s e l h in define_good L s g e l t.0 t.1 t.2 t.3)
apply_good L acc (check_rule e i) s g = unless_cases (Good L) (rule_fault L s e i) s (effect (rule_effect L s e i) s) g
    (λ h. let t = rule_tests L s e i h in rule_good L s g acc e i t.0 t.1 t.2)
apply_good L acc (check_link i r) s g = unless_cases (Good L) (link_fault L s i r) s (effect (link_effect L s i r) s) g
    (λ h. let t = link_tests L s i r h in link_good L s g acc i r t.0 t.1)
apply_good L acc settle s g = unless_cases (Good L) (settle_fault s) s (settled L s) g (λ h. settled_good L s g)
apply_good L acc sweep s g = unless_cases (Good L) (sweep_fault s) s (swept s) g (λ h. swept_good L s g (sweep_tests L s h))

pub start_good : (L : Loaded) → Good L start
start_good L = record {
  sound = record { lower = λ x. omega arith; fresh = λ x h. refl; dead = λ x m. elim m [ ]; used = λ t w e. absurd (cc) };
  read = λ R P. ((λ x. 0), record { counted = λ e h. absurd (omega (arith, h)); agrees = λ t w e. absurd (cc); forwards = λ e. refl });
  reached = λ e h. absurd (omega (arith, h));
}

todo_good : (L : Loaded) → Accepted L → (s : State) (budget done : ℕ) → Good L s → (t : Todo) → Good L (carry_out L s budget done t).state
todo_good L acc s budget done g (does o) = apply_good L acc o s g
todo_good L acc s budget done g (ends e) = g

pub call_good : (L : Loaded) → Accepted L → (c : Call) (s : State) → Good L s → Good L (call L c s)
unfolding step
call_good L acc (plain o) s g = apply_good L acc o s g
call_good L acc (stepping budget done) s g = todo_good L acc s budget done g (plan L s (next L s) budget)

pub calls_good : (L : Loaded) → Accepted L → (cs : List Call) (s : State) → Good L s → Good L (calls L cs s)
unfolding calls
calls_good L acc [] s g = g
calls_good L acc (c ∷ cs) s g = calls_good L acc cs (call L c s) (call_good L acc c s g)

pub one_reading_of_calls : (L : Loaded) → Accepted L → (cs : List Call) → OneReading L (calls L cs start)
one_reading_of_calls L acc cs = one_reading L (calls L cs start) (calls_good L acc cs start (start_good L))

pub all_sound : AllSound
all_sound L acc cs = (calls_good L acc cs start (start_good L)).sound

pub all_reached : AllReached
all_reached L acc cs = (calls_good L acc cs start (start_good L)).reached

apply_kinds : (L : Loaded) → Accepted L → (o : Op) (s : State) → Good L s → Kinds L s → Kinds L (apply L o s)
apply_kinds L acc (land k r) s g ks = unless_cases (Kinds L) (land_fault L s k r) s (born (L.kind_map k) (landing k r) s) ks
    (λ e. let t = land_tests L s k r e in born_kinds L s ks (L.kind_map k) (landing k r) g.sound (t.0, t.1) tt refl)
apply_kinds L acc (define e l) s g ks = unless_cases (Kinds L) (define_fault L s e l) s (born (L.to l) (cell e l) s) ks
    (λ h. let t = define_tests L s e l h in born_kinds L s ks (L.to l) (cell e l) g.sound (t.0, t.1) t.2 refl)
apply_kinds L acc (check_rule e i) s g ks = unless_cases (Kinds L) (rule_fault L s e i) s (effect (rule_effect L s e i) s) ks
    (λ h. let t = rule_tests L s e i h in rule_kinds L s ks acc e i t.1 t.2)
apply_kinds L acc (check_link i r) s g ks = unless_cases (Kinds L) (link_fault L s i r) s (effect (link_effect L s i r) s) ks
    (λ h. let t = link_tests L s i r h in link_kinds L s ks acc i r t.0)
apply_kinds L acc settle s g ks = unless_cases (Kinds L) (settle_fault s) s (settled L s) ks (λ h. settled_kinds L s ks)
apply_kinds L acc sweep s g ks = unless_cases (Kinds L) (sweep_fault s) s (swept s) ks (λ h. swept_kinds L s g (sweep_tests L s h) ks)

todo_kinds : (L : Loaded) → Accepted L → (s : State) (budget done : ℕ) → Good L s → Kinds L s → (t : Todo) → Kinds L (carry_out L s budget done t).state
todo_kinds L acc s budget done g ks (does o) = apply_kinds L acc o s g ks
todo_kinds L acc s budget done g ks (ends e) = ks

call_kinds : (L : Loaded) → Accepted L → (c : Call) (s : State) → Good L s → Kinds L s → Kinds L (call L c s)
unfolding step
call_kinds L acc (plain o) s g ks = apply_kinds L acc o s g ks
call_kinds L acc (stepping budget done) s g ks = todo_kinds L acc s budget done g ks (plan L s (next L s) budget)

pub calls_kinds : (L : Loaded) → Accepted L → (cs : List Call) (s : State) → Good L s → Kinds L s → Kinds L (calls L cs s)
unfolding calls
calls_kinds L acc [] s g ks = ks
calls_kinds L acc (c ∷ cs) s g ks = calls_kinds L acc cs (call L c s) (call_good L acc c s g) (call_kinds L acc c s g ks)

pub start_kinds : (L : Loaded) → Kinds L start
start_kinds L = record { kept = λ x. refl; fit = λ t w e. absurd (cc) }

pub all_kinds : AllKinds
all_kinds L acc cs = calls_kinds L acc cs start (start_good L) (start_kinds L)
