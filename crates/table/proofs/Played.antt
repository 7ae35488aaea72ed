-- A shift goes on where a step left it, and ends where a step ends it.
use Rattle.std.proofs.Common.{◌≡◌, ℕ, zero, suc, ◌<◌, Some, None, Option, sym, refl, ap, ◌∙◌, arith}
use Rattle.machine.specs.declared.answers.Ending.{Ending}
use Rattle.machine.specs.Loaded.{Loaded}
use Rattle.machine.specs.State.{State}
use Rattle.machine.specs.Calls.{Op}
use Rattle.machine.specs.Shift.{End, Todo, does, ends, next, plan, Stepped, carry_out, step, shift}
use Rattle.machine.specs.Tables.{Table, opened, holding}
use Rattle.machine.specs.Progress.{Progress, going, over, progress, stepped, step_call}
use Rattle.table.specs.Played.{shift_call}

-- what goes on has the whole of its record
abbrev going_on : State → ℕ → ℕ → Stepped
going_on s left done = record { state = s; budget = left; done = done; ended = None }

-- a step that goes on takes one off the budget
module _ (L : Loaded) (s : State) where
  paid : (left done : ℕ) (t : Todo) → (carry_out L s (suc left) done t).ended ≡ None → (carry_out L s (suc left) done t).budget ≡ left
  paid left done (does o) e = refl
  paid left done (ends x) e = absurd (let z : ◌≡◌ {A = ℕ} 0 1 = cc in omega arith)

  broke : (done : ℕ) (o : Option Op) → (carry_out L s zero done (plan L s o zero)).ended ≡ None → ⊥
  broke done None e = let z : ◌≡◌ {A = ℕ} 0 1 = cc in omega arith
  broke done (Some o) e = let z : ◌≡◌ {A = ℕ} 0 1 = cc in omega arith

  pays : (left done : ℕ) → (step L left done s).ended ≡ None → left ≡ suc (step L left done s).budget
  unfolding step
  pays zero done e = absurd (broke done (next L s) e)
  pays (suc left) done e = ap suc (sym (paid left done (plan L s (next L s) (suc left)) e))

-- a shift from a step on
from : (L : Loaded) (left : ℕ) (p : Stepped) (o : Option End) → p.ended ≡ o → (o ≡ None → left ≡ suc p.budget) →
    shift L left p ≡ elim o [ None ↦ shift L (suc p.budget) (going_on p.state p.budget p.done) | Some e ↦ p ]
unfolding shift
from L left p None e pay = ap (λ n. shift L n p) (pay refl) ∙ (λ j. shift L (suc p.budget) (record { state = p.state; budget = p.budget; done = p.done; ended = e j }))
from L zero p (Some x) e pay = refl
from L (suc left) p (Some x) e pay = ap (λ (o : Option End). elim o [ None ↦ shift L left (step L p.budget p.done p.state) | Some y ↦ p ]) e

-- what a shift's progress says
abbrev left_of : Progress → ℕ
left_of (going left done) = left
left_of (over e done) = 0

abbrev done_of : Progress → ℕ
done_of (going left done) = done
done_of (over e done) = done

apart : {l d n : ℕ} {x : Ending} → going l d ≡ over x n → ⊥
apart e = let z : ◌≡◌ {A = ℕ} 0 1 = cc in omega arith

goes_by : (o : Option End) (left done l d : ℕ) → going l d ≡ progress o left done → (o ≡ None) × (l ≡ left) × (d ≡ done)
goes_by None left done l d e = (refl, ap left_of e, ap done_of e)
goes_by (Some x) left done l d e = absurd (apart e)

ends_by : (o : Option End) (left done d : ℕ) (x : Ending) → over x d ≡ progress o left done → (y : End) × (o ≡ Some y)
ends_by None left done d x e = absurd (apart (sym e))
ends_by (Some y) left done d x e = (y, refl)

-- the shift from a step that goes on is the shift from before it
pub goes : (left done : ℕ) (t u : Table) (l d : ℕ) → ◌≡◌ {A = Table × Progress} (u, going l d) (step_call left done t) → (shift_call left done t ≡ shift_call l d u) × (l < left)
unfolding shift
goes left done (opened work) u l d e = absurd (apart (ap (λ x. x.1) e))
goes left done (holding work L s) u l d e =
    let p = step L left done s in
    let g = goes_by p.ended p.budget p.done l d (ap (λ x. x.1) e) in
    let n = pays L s left done g.0 in (
      ap (stepped work L) (from L left p None g.0 (λ q. n)) ∙ (λ j. shift_call (sym g.1 j) (sym g.2 j) (sym (ap (λ x. x.0) e) j)),
      omega (arith, n, g.1),
    )

-- and a step that ends it is its end
pub ends_here : (left done : ℕ) (t u : Table) (x : Ending) (d : ℕ) → ◌≡◌ {A = Table × Progress} (u, over x d) (step_call left done t) → ◌≡◌ {A = Table × Progress} (u, over x d) (shift_call left done t)
unfolding shift
ends_here left done (opened work) u x d e = e
ends_here left done (holding work L s) u x d e =
    let p = step L left done s in
    let y = ends_by p.ended p.budget p.done d x (ap (λ z. z.1) e) in
    e ∙ sym (ap (stepped work L) (from L left p (Some y.0) y.1 (λ q. absurd (let z : ◌≡◌ {A = ℕ} 0 1 = cc in omega arith))))
