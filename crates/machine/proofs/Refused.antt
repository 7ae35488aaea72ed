-- A refused call changes nothing.
use Rattle.std.proofs.Common.{◌≡◌, ℕ, ◌-◌, Bool, true, false, cond, leb, List, ◌++◌, length, drop, Some, None, Ok, Err, Option, Result, refl, ap, ◌∙◌}
use Rattle.words.specs.declared.faults.Refusal.{Refusal}
use Rattle.words.specs.declared.faults.Refusal.TheVariants as refusal
use Rattle.registers.specs.Meaning.{Meaning}
use Rattle.machine.specs.declared.answers.LoadFault.{LoadFault}
use Rattle.machine.specs.Loaded.{Loaded}
use Rattle.machine.specs.Loading.{load}
use Rattle.machine.specs.State.{cell, landing, State, born}
use Rattle.machine.specs.Checking.{effect, rule_effect, link_effect}
use Rattle.machine.specs.Settling.{settled}
use Rattle.machine.specs.Sweeping.{rank, swept}
use Rattle.machine.specs.Calls.{Op, land, define, check_rule, check_link, settle, sweep, land_fault, define_fault, rule_fault, link_fault, settle_fault, sweep_fault, unless, apply}
use Rattle.machine.specs.Tables.{opened, holding, load_into, loading, answered, calling, outcome}
use Rattle.machine.specs.Finish.{finish_fault, finish_words, put_words}
use Rattle.machine.specs.Refused.{Unchanged, RefusalsChangeNothing}

-- an operation that is applied unless it is refused
calling_unchanged : {X : Type 0} (o : Op) (fault : Loaded → State → Option Refusal) (after : Loaded → State → State) (x : Loaded → State → X) → ((L : Loaded) (s : State) → apply L o s ≡ unless (fault L s) s (after L s)) → Unchanged (calling o (λ L s. answered (fault L s) (x L s)))
calling_unchanged o fault after x is (opened work) f e = refl
calling_unchanged o fault after x is (holding work L s) f e = ap (holding work L) (is L s ∙ go (fault L s) e)
  where
    go : (r : Option Refusal) → answered r (x L s) ≡ Err f → unless r s (after L s) ≡ s
    go None h = cc
    go (Some n) h = refl

load_unchanged : (ws : List ℕ) (m : Meaning) → Unchanged (loading ws m)
load_unchanged ws m (opened work) f e = go (load work ws m) e
  where
    go : (r : Result Loaded LoadFault) → (load_into work r).1 ≡ Err f → (load_into work r).0 ≡ opened work
    go (Ok L) h = cc
    go (Err x) h = refl
load_unchanged ws m (holding work L s) f e = refl

-- words that do not fit
fit_unchanged : (b : Bool) (n : ℕ) (ws out : List ℕ) (g f : Refusal) → (cond {A = Result ℕ Refusal × List ℕ} b (Ok n, ws) (Err g, out)).0 ≡ Err f → (cond {A = Result ℕ Refusal × List ℕ} b (Ok n, ws) (Err g, out)).1 ≡ out
fit_unchanged true n ws out g f e = cc
fit_unchanged false n ws out g f e = refl

put_unchanged : (r : Option Refusal) (ws out : List ℕ) (f : Refusal) → (put_words r ws out).0 ≡ Err f → (put_words r ws out).1 ≡ out
put_unchanged (Some n) ws out f e = refl
put_unchanged None ws out f e = fit_unchanged (leb (length ws) (length out)) (length ws) (ws ++ drop (length ws) out) out refusal.Memory f e

pub refusals_change_nothing : RefusalsChangeNothing
refusals_change_nothing = record {
  load = load_unchanged;
  land = λ k r. calling_unchanged (land k r) (λ L s. land_fault L s k r) (λ L s. born (L.kind_map k) (landing k r) s) (λ L s. s.given) (λ L s. refl);
  define = λ e l. calling_unchanged (define e l) (λ L s. define_fault L s e l) (λ L s. born (L.to l) (cell e l) s) (λ L s. s.given) (λ L s. refl);
  check_rule = λ e i. calling_unchanged (check_rule e i) (λ L s. rule_fault L s e i) (λ L s. effect (rule_effect L s e i) s) (λ L s. outcome (rule_effect L s e i)) (λ L s. refl);
  check_link = λ i r. calling_unchanged (check_link i r) (λ L s. link_fault L s i r) (λ L s. effect (link_effect L s i r) s) (λ L s. outcome (link_effect L s i r)) (λ L s. refl);
  settle = calling_unchanged settle (λ L s. settle_fault s) settled (λ L s. length (apply L settle s).waiting) (λ L s. refl);
  sweep = calling_unchanged sweep (λ L s. sweep_fault s) (λ L s. swept s) (λ L s. s.given - rank s.forward s.given) (λ L s. refl);
  finished = λ L s out. put_unchanged (finish_fault L s) (finish_words L s) out;
}
