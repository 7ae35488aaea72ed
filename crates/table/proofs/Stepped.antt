-- A step by what it plans to do.
use Rattle.std.proofs.Common.{◌≡◌, ℕ, ◌+◌, ◌-◌, Some, Ok, Err, Option, sym, refl, ap, ◌∙◌, add-one, sub-one}
use Rattle.bounded.specs.Listed.{listed}
use Rattle.machine.specs.declared.answers.Ending.{Ending}
use Rattle.machine.specs.Loaded.{Loaded}
use Rattle.machine.specs.State.{State}
use Rattle.machine.specs.Calls.{Op}
use Rattle.machine.specs.Progress.{Progress, going, over, stepped, step_call}
use Rattle.machine.specs.Shift.{Todo, does, ends, carry_out, plan, next, step}
use Rattle.machine.specs.Tables.{Table, opened, holding}
use Rattle.rows.specs.declared.problem.Load.{Load}
use Rattle.rows.specs.Standing.{Holds}
use Rattle.rows.specs.View.{raw, view}
use Rattle.searching.specs.declared.Task.{Task}
use Rattle.searching.specs.Tasks.{shown_task}
use Rattle.table.specs.Steps.{planned, plan_of, after}
use Rattle.table.specs.Tabled.{view_of}
use Rattle.table.specs.declared.table.Table as code
use Rattle.table.proofs.After.{taken, holds, view_is}

-- a step that does nothing ends the shift, and another goes on
module _ (work : ℕ) (L : Loaded) (s : State) (left done : ℕ) where
  ends_as : (x : Todo) (e : Ending) → Err e ≡ planned x → ◌≡◌ {A = Table × Progress} (holding work L s, over e done) (stepped work L (carry_out L s left done x))
  ends_as (does o) e h = cc
  ends_as (ends d) e h = cc

  goes_as : (x : Todo) (o : Op) → Ok o ≡ planned x → ◌≡◌ {A = Table × Progress} (after o (holding work L s), going (left - 1) (done + 1)) (stepped work L (carry_out L s left done x))
  goes_as (does p) o h = let q : o ≡ p = cc in rw (add-one, sub-one, q) refl
  goes_as (ends d) o h = cc

pub ended : (left done : ℕ) (t : Table) (e : Ending) → Err e ≡ plan_of left t → ◌≡◌ {A = Table × Progress} (t, over e done) (step_call left done t)
unfolding step
ended left done (opened work) e h = cc
ended left done (holding work L s) e h = ends_as work L s left done (plan L s (next L s) left) e h

pub gone : (left done : ℕ) (t : Table) (o : Op) → Ok o ≡ plan_of left t → (u : Table) → u ≡ after o t → ◌≡◌ {A = Table × Progress} (u, going (left - 1) (done + 1)) (step_call left done t)
unfolding step
gone left done (opened work) o h u e = cc
gone left done (holding work L s) o h u e = rw e (goes_as work L s left done (plan L s (next L s) left) o h)

-- the plan of a loaded table, by the task that is next
pub plan_by : (t : code.Table) (l : Load) (is : t.load ≡ Some l) (left : ℕ) (o : Option Task) → ((L : Loaded) → Holds L (raw t.rows) l.found (listed l.leads) → shown_task o ≡ next L (view t.rows)) →
    planned (plan (taken t l is) (view t.rows) (shown_task o) left) ≡ plan_of left (view_of t)
plan_by t l is left o what = ap (λ x. planned (plan (taken t l is) (view t.rows) x left)) (what _ (holds t l is)) ∙ sym (ap (plan_of left) (view_is t l is))
