-- The answers of a loaded table: its questions, settling and sweeping.
use Rattle.std.proofs.Common.{◌≡◌, ℕ, ◌-◌, ◌<◌, ◌≤◌, Bool, true, false, cond, ◌&&◌, eqb, ltb, length, Some, None, Ok, Err, Result, sym, ap, ◌∙◌, subst, arith}
use Rattle.std.proofs.lemmas.Bool.{lt-ltb, le-ltb}
use Rattle.words.specs.declared.faults.Refusal.{Refusal}
use Rattle.words.specs.declared.faults.Refusal.TheVariants as refusal
use Rattle.machine.specs.Loaded.{Loaded}
use Rattle.machine.specs.State.{cell, landing, lives, waits}
use Rattle.machine.specs.Settling.{settled}
use Rattle.machine.specs.Sweeping.{rank, swept}
use Rattle.machine.specs.Calls.{settle, sweep, settle_fault, sweep_fault, unless, apply}
use Rattle.machine.specs.Tables.{Table, holding, answered, cell_told, landing_told, settle_call, sweep_call}
use Rattle.rows.specs.declared.problem.Load.{Load}
use Rattle.rows.specs.Layout.{Raw, Becomes, inside, shown}
use Rattle.rows.specs.View.{raw, view}
use Rattle.table.specs.Tabled.{view_of}
use Rattle.table.specs.declared.table.Table as code
use Rattle.rows.proofs.Shown.{waits_are}
use Rattle.rows.proofs.Faults.{waits_told, counted, leaving}
use Rattle.table.proofs.After.{taken, holds, view_is}

module _ (t : code.Table) (l : Load) (is : t.load ≡ Some l) where
  pub cell_asked : (e i from : ℕ) → (i < t.rows.links → (taken t l is).from i ≡ from) →
      (b : Bool) → b ≡ (lives (view t.rows) e && (ltb i t.rows.links && eqb ((view t.rows).kind e) from)) →
      cond b (Ok ((view t.rows).held (cell e i))) (Err refusal.NotLiving) ≡ cell_told e i (view_of t)
  cell_asked e i from f b told =
      ap (λ b. cond b (Ok ((view t.rows).held (cell e i))) (Err refusal.NotLiving)) (told ∙ leaving (taken t l is) (raw t.rows) (holds t l is).carries e i from f)
      ∙ sym (ap (cell_told e i) (view_is t l is))

  pub landing_asked : (k q : ℕ) (b : Bool) → b ≡ inside (raw t.rows).shape t.rows.given (landing k q) →
      cond b (Ok ((view t.rows).held (landing k q))) (Err refusal.NotLiving) ≡ landing_told k q (view_of t)
  landing_asked k q b told =
      ap (λ b. cond b (Ok ((view t.rows).held (landing k q))) (Err refusal.NotLiving)) (told ∙ counted (taken t l is) (raw t.rows) (holds t l is).carries k q)
      ∙ sym (ap (landing_told k q) (view_is t l is))

  -- settling where none waits
  pub idle : t.rows.waits ≡ 0 → ◌≡◌ {A = Table × Result ℕ Refusal} (view_of t, Err refusal.NoneWaits) (settle_call (view_of t))
  idle none =
      let L = taken t l is in
      let s = view t.rows in
      let e : waits s.waiting ≡ false = waits_told (raw t.rows) ∙ le-ltb 0 t.rows.waits (omega arith) in
      subst (λ (v : Table). ◌≡◌ {A = Table × Result ℕ Refusal} (v, Err refusal.NoneWaits) (settle_call v)) (sym (view_is t l is)) (λ j. (
        holding (length (raw t.rows).ws) L (unless (cond (sym e j) None (Some refusal.NoneWaits)) s (settled L s)),
        answered (cond (sym e j) None (Some refusal.NoneWaits)) (length (apply L settle s).waiting),
      ))

  -- sweeping where some wait
  pub busy : 0 < t.rows.waits → ◌≡◌ {A = Table × Result ℕ Refusal} (view_of t, Err refusal.Waiting) (sweep_call (view_of t))
  busy some =
      let L = taken t l is in
      let s = view t.rows in
      let e : waits s.waiting ≡ true = waits_told (raw t.rows) ∙ lt-ltb 0 t.rows.waits some in
      subst (λ (v : Table). ◌≡◌ {A = Table × Result ℕ Refusal} (v, Err refusal.Waiting) (sweep_call v)) (sym (view_is t l is)) (λ j. (
        holding (length (raw t.rows).ws) L (unless (cond (sym e j) (Some refusal.Waiting) None) s (swept s)),
        answered (cond (sym e j) (Some refusal.Waiting) None) (t.rows.given - rank s.forward t.rows.given),
      ))

-- settling where some wait
module _ (L : Loaded) (a b : Raw) (some : 0 < a.waits) (after : Becomes a (settled L) b) where
  wait : waits (shown a).waiting ≡ true
  wait = waits_told a ∙ lt-ltb 0 a.waits some

  pub settling : Becomes a (apply L settle) b
  settling = record {
    tidy = after.tidy;
    same = after.same;
    state = after.state ∙ sym (ap (λ w. unless (cond w None (Some refusal.NoneWaits)) (shown a) (settled L (shown a))) wait);
  }

  pub settling_told : Ok b.waits ≡ answered (settle_fault (shown a)) (length (apply L settle (shown a)).waiting)
  settling_told = ap Ok (sym (waits_are b) ∙ ap (λ s. length s.waiting) settling.state)
      ∙ sym (ap (λ w. answered (cond w None (Some refusal.NoneWaits)) (length (apply L settle (shown a)).waiting)) wait)

-- sweeping where none waits
module _ (L : Loaded) (a b : Raw) (none : a.waits ≤ 0) (after : Becomes a swept b) where
  calm : waits (shown a).waiting ≡ false
  calm = waits_told a ∙ le-ltb 0 a.waits none

  pub sweeping : Becomes a (apply L sweep) b
  sweeping = record {
    tidy = after.tidy;
    same = after.same;
    state = after.state ∙ sym (ap (λ w. unless (cond w (Some refusal.Waiting) None) (shown a) (swept (shown a))) calm);
  }

  pub sweeping_told : (n : ℕ) → n ≡ a.given - rank (shown a).forward a.given → Ok n ≡ answered (sweep_fault (shown a)) ((shown a).given - rank (shown a).forward (shown a).given)
  sweeping_told n e = ap Ok e ∙ sym (ap (λ w. answered (cond w (Some refusal.Waiting) None) (a.given - rank (shown a).forward a.given)) calm)
