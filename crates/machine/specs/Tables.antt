-- A table from opening on: what each call answers and leaves.
use Rattle.std.specs.Prelude.{ℕ, ◌-◌, cond, ◌&&◌, List, length, Some, None, Ok, Err, Option, Result, ◌==◌, nat_lt}
use Rattle.words.specs.declared.faults.Refusal.{Refusal}
use Rattle.words.specs.declared.faults.Refusal.TheVariants as refusal
use Rattle.registers.specs.Meaning.{Meaning}
use Rattle.machine.specs.declared.answers.LoadFault.{LoadFault}
use Rattle.machine.specs.declared.answers.LoadFault.TheVariants as fault
use Rattle.machine.specs.declared.answers.Outcome.{Outcome}
use Rattle.machine.specs.declared.answers.Outcome.TheVariants.{Closed, Merged, Filled, Stopped}
use Rattle.machine.specs.Loaded.{Loaded}
use Rattle.machine.specs.Loading.{load}
use Rattle.machine.specs.State.{cell, landing, State, start, lives}
use Rattle.machine.specs.Checking.{Effect, closed, merges, fills, stuck, rule_effect, link_effect}
use Rattle.machine.specs.Sweeping.{rank}
use Rattle.machine.specs.Calls.{Op, land, define, check_rule, check_link, settle, sweep, land_fault, define_fault, rule_fault, link_fault, settle_fault, sweep_fault, apply}

-- A table has so many work words, and is not loaded or holds what load took and a state.
pub data Table : Type 0 where
  opened : ℕ → Table
  holding : ℕ → Loaded → State → Table

-- opening never refuses and leaves the table not loaded
abbrev pub opening : ℕ → Table
opening work = opened work

abbrev pub load_into : ℕ → Result Loaded LoadFault → Table × Result (Unit {0}) LoadFault
load_into work (Ok L) = (holding work L start, Ok tt)
load_into work (Err e) = (opened work, Err e)

-- a loaded table refuses another load
abbrev pub loading : List ℕ → Meaning → Table → Table × Result (Unit {0}) LoadFault
loading ws m (opened work) = load_into work (load work ws m)
loading ws m (holding work L s) = (holding work L s, Err fault.Loaded)

abbrev pub answered : {X : Type 0} → Option Refusal → X → Result X Refusal
answered None x = Ok x
answered (Some f) x = Err f

-- a call on a table that is not loaded is refused
abbrev pub calling : {X : Type 0} → Op → (Loaded → State → Result X Refusal) → Table → Table × Result X Refusal
calling o told (opened work) = (opened work, Err refusal.State)
calling o told (holding work L s) = (holding work L (apply L o s), told L s)

abbrev pub asking : {X : Type 0} → (Loaded → State → Result X Refusal) → Table → Result X Refusal
asking told (opened work) = Err refusal.State
asking told (holding work L s) = told L s

abbrev pub outcome : Effect → Outcome
outcome closed = Closed
outcome (merges a b) = Merged
outcome (fills t a) = Filled
outcome stuck = Stopped

-- land and define tell the new entry
abbrev pub landing_call : ℕ → ℕ → Table → Table × Result ℕ Refusal
landing_call k r = calling (land k r) (λ L s. answered (land_fault L s k r) s.given)

abbrev pub define_call : ℕ → ℕ → Table → Table × Result ℕ Refusal
define_call e l = calling (define e l) (λ L s. answered (define_fault L s e l) s.given)

-- a check tells its outcome
abbrev pub rule_call : ℕ → ℕ → Table → Table × Result Outcome Refusal
rule_call e i = calling (check_rule e i) (λ L s. answered (rule_fault L s e i) (outcome (rule_effect L s e i)))

abbrev pub link_call : ℕ → ℕ → Table → Table × Result Outcome Refusal
link_call i r = calling (check_link i r) (λ L s. answered (link_fault L s i r) (outcome (link_effect L s i r)))

-- settle tells how many still wait
abbrev pub settle_call : Table → Table × Result ℕ Refusal
settle_call = calling settle (λ L s. answered (settle_fault s) (length (apply L settle s).waiting))

-- sweep tells how many it dropped
abbrev pub sweep_call : Table → Table × Result ℕ Refusal
sweep_call = calling sweep (λ L s. answered (sweep_fault s) (s.given - rank s.forward s.given))

-- the questions
abbrev pub capacity_told : Table → Result ℕ Refusal
capacity_told = asking (λ L s. Ok L.capacity)

abbrev pub given_told : Table → Result ℕ Refusal
given_told = asking (λ L s. Ok s.given)

abbrev pub living_told : Table → Result ℕ Refusal
living_told = asking (λ L s. Ok (rank s.forward s.given))

abbrev pub waiting_told : Table → Result ℕ Refusal
waiting_told = asking (λ L s. Ok (length s.waiting))

-- one cell, at a living entry and a link that leaves its kind
abbrev pub cell_told : ℕ → ℕ → Table → Result (Option ℕ) Refusal
cell_told e l = asking (λ L s. cond (lives s e && (nat_lt l L.links && s.kind e == L.from l)) (Ok (s.held (cell e l))) (Err refusal.NotLiving))

-- one landing, at a counted source record
abbrev pub landing_told : ℕ → ℕ → Table → Result (Option ℕ) Refusal
landing_told k r = asking (λ L s. cond (nat_lt k L.source_kinds && nat_lt r (L.count k)) (Ok (s.held (landing k r))) (Err refusal.NotLiving))
