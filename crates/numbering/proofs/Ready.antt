-- A table that finish accepts is ready to be numbered.
use Rattle.std.proofs.Common.{◌≡◌, ℕ, ◌<◌, List, length, None, Ok, sym, ap, ◌∙◌, subst, arith}
use mathlib.Core.Logic.{∥∥₁_elim}
use native.Mathlib.Nat.{ℕ_set}
use native.Mathlib.Bridge.{le_prop}
use Rattle.registers.specs.Meaning.{Meaning}
use Rattle.machine.specs.Loaded.{Loaded}
use Rattle.machine.specs.Loading.{load}
use Rattle.machine.specs.State.{State, start}
use Rattle.machine.specs.Shift.{Call, calls}
use Rattle.machine.specs.Readings.{Accepted}
use Rattle.machine.specs.Complete.{Complete}
use Rattle.machine.specs.Sequence.{Numbers}
use Rattle.machine.specs.Finish.{Bounds, finish_fault}
use Rattle.machine.proofs.Loads.{accepted}
use Rattle.machine.proofs.Limits.{load_limits}
use Rattle.machine.proofs.Runs.{calls_good, calls_kinds, start_good, start_kinds}
use Rattle.machine.proofs.Numbering.{all_numbered, held_lives}
use Rattle.machine.proofs.Bounds.{finish_bounds, kind_known}
use Rattle.machine.proofs.Written.{finish_accepts}
use Rattle.rows.specs.Layout.{Raw, Tidy, Carries, shown}
use Rattle.rows.specs.Sweeps.{HeldLive}
use Rattle.rows.proofs.Shown.{waits_are}
use Rattle.numbering.specs.Marked.{Countable, Ready}

module _ (work : ℕ) (ws : List ℕ) (m : Meaning) (L : Loaded) (loads : load work ws m ≡ Ok L) (made : List Call) (r : Raw) (state : shown r ≡ calls L made start) (free : finish_fault L (shown r) ≡ None) where
  acc : Accepted L
  acc = accepted work ws m L loads

  done : Complete L (calls L made start)
  done = (finish_accepts L acc made).0 (subst (λ (s : State). finish_fault L s ≡ None) state free)

  pub ready : Carries L r.shape → Ready L r
  ready c =
      let d = subst (Complete L) (sym state) done in
      record {
        carries = c;
        few = (load_limits work ws m L loads).kinds;
        numbers = subst (Numbers L) (sym state) (all_numbered L acc made done.quiet);
        bounds = subst (Bounds L) (sym state) (finish_bounds L acc made done.quiet);
        landed = d.landed;
        defined = d.defined;
      }

  pub countable : Tidy r → Countable r
  countable t =
      let g = calls_good L acc made start (start_good L) in
      let ks = calls_kinds L acc made start (start_good L) (start_kinds L) in
      record {
        tidy = t;
        quiet = sym (waits_are r) ∙ ap (λ (s : State). length s.waiting) state ∙ ap length done.quiet;
        live = subst HeldLive (sym state) (λ t w e. (held_lives L (calls L made start) g done.quiet t w e).1);
        kinds = λ e h. (let q = ap (λ (s : State). s.kind e) state in
            omega (arith, q, kind_known L acc (calls L made start) g ks e (subst (λ (s : State). e < s.given) state h), (load_limits work ws m L loads).kinds));
      }

-- also where the load is known only to be there
pub countable_in : {X : Type 0} → ∥ X ∥₁ → (r : Raw) → Tidy r → (X → Countable r) → Countable r
countable_in x r t f = record {
  tidy = t;
  quiet = ∥∥₁_elim x (ℕ_set _ _) (λ y. (f y).quiet);
  live = λ u w e. ∥∥₁_elim x (ℕ_set _ _) (λ y. (f y).live u w e);
  kinds = λ e h. ∥∥₁_elim x le_prop (λ y. (f y).kinds e h);
}
