-- Shifts: what a step does, and runs with steps among the calls.
use Rattle.std.specs.Prelude.{ℕ, zero, suc, pred, ◌+◌, ◌<◌, ◌≤◌, Bool, cond, not, ◌&&◌, List, [], ◌∷◌, length, Some, None, Option, ◌==◌, nat_lt}
use Rattle.machine.specs.Loaded.{Loaded}
use Rattle.machine.specs.State.{cell, landing, State, start, waits, filled}
use Rattle.machine.specs.Checking.{Effect, closed, merges, fills, stuck, rule_effect, link_effect}
use Rattle.machine.specs.Sweeping.{rank}
use Rattle.machine.specs.Calls.{Op, land, define, check_rule, check_link, settle, sweep, apply}
use Rattle.machine.specs.Readings.{Accepted}
use Rattle.machine.specs.Sound.{Sound, Reach, Kinds}

abbrev pub or_else : Option Op → Option Op → Option Op
or_else None b = b
or_else (Some a) b = Some a

-- the answer at the lowest number below n that has one
unfoldable pub lowest : ℕ → (ℕ → Option Op) → Option Op
lowest zero f = None
lowest (suc n) f = or_else (lowest n f) (f n)

abbrev pub acts : Effect → Op → Option Op
acts closed o = None
acts (merges a b) o = Some o
acts (fills t a) o = Some o
acts stuck o = None

abbrev pub only_if : Bool → Option Op → Option Op
only_if b o = cond b o None

abbrev pub link_next : Loaded → State → Option Op
link_next L s = lowest L.source_links (λ i. lowest (L.count (L.source_from i)) (λ r. acts (link_effect L s i r) (check_link i r)))

abbrev pub rule_next : Loaded → State → Option Op
rule_next L s = lowest s.given (λ e. only_if (s.forward e == e) (lowest L.rules (λ i. only_if (s.kind e == L.first i) (acts (rule_effect L s e i) (check_rule e i)))))

abbrev pub land_next : Loaded → State → Option Op
land_next L s = lowest L.source_kinds (λ k. lowest (L.count k) (λ r. only_if (not (filled (s.held (landing k r)))) (Some (land k r))))

abbrev pub define_next : Loaded → State → Option Op
define_next L s = lowest s.given (λ e. only_if (s.forward e == e) (lowest L.links (λ l. only_if (s.kind e == L.from l && not (filled (s.held (cell e l)))) (Some (define e l)))))

abbrev pub next : Loaded → State → Option Op
next L s = cond (waits s.waiting) (Some settle) (or_else (link_next L s) (or_else (rule_next L s) (or_else (land_next L s) (define_next L s))))

pub data End : Type 0 where
  complete : End
  spent : End
  full : End

pub data Todo : Type 0 where
  does : Op → Todo
  ends : End → Todo

-- land and define want a free number
abbrev pub with_room : Loaded → State → Op → Todo
with_room L s o = cond (nat_lt s.given L.capacity) (does o) (cond (nat_lt (rank s.forward s.given) s.given) (does sweep) (ends full))

abbrev pub to_do : Loaded → State → Op → Todo
to_do L s (land k r) = with_room L s (land k r)
to_do L s (define e l) = with_room L s (define e l)
to_do L s (check_rule e i) = does (check_rule e i)
to_do L s (check_link i r) = does (check_link i r)
to_do L s settle = does settle
to_do L s sweep = does sweep

abbrev pub within : ℕ → Todo → Todo
within zero t = ends spent
within (suc b) t = t

abbrev pub plan : Loaded → State → Option Op → ℕ → Todo
plan L s None budget = ends complete
plan L s (Some o) budget = within budget (to_do L s o)

pub record Stepped : Type 0 where
  pub state : State
  pub budget : ℕ
  pub done : ℕ
  pub ended : Option End

abbrev pub carry_out : Loaded → State → ℕ → ℕ → Todo → Stepped
carry_out L s budget done (does o) = record { state = apply L o s; budget = pred budget; done = suc done; ended = None }
carry_out L s budget done (ends e) = record { state = s; budget = budget; done = done; ended = Some e }

unfoldable pub step : Loaded → ℕ → ℕ → State → Stepped
step L budget done s = carry_out L s budget done (plan L s (next L s) budget)

-- a whole shift, with fuel
unfoldable pub shift : Loaded → ℕ → Stepped → Stepped
shift L zero p = p
shift L (suc n) p = elim p.ended [ None ↦ shift L n (step L p.budget p.done p.state) | Some e ↦ p ]

abbrev pub begun : ℕ → Stepped
begun budget = record { state = start; budget = budget; done = 0; ended = None }

pub data Call : Type 0 where
  plain : Op → Call
  stepping : ℕ → ℕ → Call

abbrev pub call : Loaded → Call → State → State
call L (plain o) s = apply L o s
call L (stepping budget done) s = (step L budget done s).state

unfoldable pub calls : Loaded → List Call → State → State
calls L [] s = s
calls L (c ∷ cs) s = calls L cs (call L c s)

-- after every list of calls the table is sound
abbrev pub AllSound : Type 0
AllSound = (L : Loaded) → Accepted L → (cs : List Call) → Sound L (calls L cs start)

-- after every list of calls every numbered entry is reached
abbrev pub AllReached : Type 0
AllReached = (L : Loaded) → Accepted L → (cs : List Call) (e : ℕ) → e < (calls L cs start).given → Reach (calls L cs start) e

-- after every list of calls the kinds fit
abbrev pub AllKinds : Type 0
AllKinds = (L : Loaded) → Accepted L → (cs : List Call) → Kinds L (calls L cs start)

-- The waiting and the living together are at most the numbers given, so the waiting list never needs more places than there are entries.
abbrev pub Room : State → Type 0
Room s = length s.waiting + rank s.forward s.given ≤ s.given

abbrev pub AllRoom : Type 0
AllRoom = (L : Loaded) → Accepted L → (cs : List Call) → Room (calls L cs start)

-- the numbers given never pass the capacity
abbrev pub AllWithin : Type 0
AllWithin = (L : Loaded) → Accepted L → (cs : List Call) → (calls L cs start).given ≤ L.capacity
