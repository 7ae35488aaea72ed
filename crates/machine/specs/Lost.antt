-- Nothing that was filled is ever lost.
use Rattle.std.specs.Prelude.{◌≡◌, ℕ, ◌<◌, cond, List, [], ◌∷◌, Some}
use Rattle.machine.specs.Loaded.{Loaded}
use Rattle.machine.specs.State.{cell, landing, State, start, waits}
use Rattle.machine.specs.Merging.{end}
use Rattle.machine.specs.Sweeping.{rank}
use Rattle.machine.specs.Calls.{Op, land, define, check_rule, check_link, settle, sweep}
use Rattle.machine.specs.Readings.{Accepted}
use Rattle.machine.specs.Sound.{InUse}
use Rattle.machine.specs.Shift.{Todo, does, ends, plan, next, Call, plain, stepping, call, calls}

-- The number that an entry has after a call. Only a sweep gives new ones: an entry gets that of its living end, which is the number of the living below it.
abbrev pub op_renames : Op → State → ℕ → ℕ
op_renames (land k r) s e = e
op_renames (define d l) s e = e
op_renames (check_rule d i) s e = e
op_renames (check_link i r) s e = e
op_renames settle s e = e
op_renames sweep s e = cond (waits s.waiting) e (rank s.forward (end s e))

abbrev pub todo_renames : Todo → State → ℕ → ℕ
todo_renames (does o) s e = op_renames o s e
todo_renames (ends x) s e = e

abbrev pub call_renames : Loaded → Call → State → ℕ → ℕ
call_renames L (plain o) s e = op_renames o s e
call_renames L (stepping budget done) s e = todo_renames (plan L s (next L s) budget) s e

unfoldable pub calls_rename : Loaded → List Call → State → ℕ → ℕ
calls_rename L [] s e = e
calls_rename L (c ∷ cs) s e = calls_rename L cs (call L c s) (call_renames L c s e)

-- From s to z, where f renames the entries, nothing is lost.
pub record NotLost (s z : State) (f : ℕ → ℕ) : Type 0 where
  -- a numbered entry stays numbered, and entries with one living end keep one living end
  pub numbered : (e : ℕ) → e < s.given → f e < z.given
  pub together : (d e : ℕ) → end s d ≡ end s e → end z (f d) ≡ end z (f e)
  -- a filled landing stays filled, and its content keeps its living end
  pub landings : (k r w : ℕ) → s.held (landing k r) ≡ Some w → (v : ℕ) × (z.held (landing k r) ≡ Some v) × (end z v ≡ end z (f w))
  -- a filled cell stays filled or is handed over to an entry in use with the same living end, and its content keeps its living end
  pub cells : (e l w : ℕ) → s.held (cell e l) ≡ Some w → (d : ℕ) × (v : ℕ) × InUse z d × (end z d ≡ end z (f e)) × (z.held (cell d l) ≡ Some v) × (end z v ≡ end z (f w))
  -- where nothing waits after it, the living end itself has the cell, and the contents are the living ends
  pub quiet_landings : z.waiting ≡ [] → (k r w : ℕ) → s.held (landing k r) ≡ Some w → z.held (landing k r) ≡ Some (end z (f w))
  pub quiet_cells : z.waiting ≡ [] → (e l w : ℕ) → s.held (cell e l) ≡ Some w → z.held (cell (end z (f e)) l) ≡ Some (end z (f w))

-- by one call, after every list of calls
abbrev pub NothingLost : Type 0
NothingLost = (L : Loaded) → Accepted L → (cs : List Call) (c : Call) → NotLost (calls L cs start) (call L c (calls L cs start)) (call_renames L c (calls L cs start))

-- by any list of calls, after every list of calls
abbrev pub NeverLost : Type 0
NeverLost = (L : Loaded) → Accepted L → (cs ds : List Call) → NotLost (calls L cs start) (calls L ds (calls L cs start)) (calls_rename L ds (calls L cs start))
