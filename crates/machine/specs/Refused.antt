-- A refused call changes nothing.
use Rattle.std.specs.Prelude.{◌≡◌, ℕ, List, Err, Result}
use Rattle.words.specs.declared.faults.Refusal.{Refusal}
use Rattle.registers.specs.Meaning.{Meaning}
use Rattle.machine.specs.Loaded.{Loaded}
use Rattle.machine.specs.State.{State}
use Rattle.machine.specs.Tables.{Table, loading, landing_call, define_call, rule_call, link_call, settle_call, sweep_call}
use Rattle.machine.specs.Finish.{finish}

-- where the answer is a refusal, the table is as it was
abbrev pub Unchanged : {X F : Type 0} → (Table → Table × Result X F) → Type 0
Unchanged {X} {F} call = (t : Table) (f : F) → (call t).1 ≡ Err f → (call t).0 ≡ t

pub record RefusalsChangeNothing : Type 0 where
  pub load : (ws : List ℕ) (m : Meaning) → Unchanged (loading ws m)
  pub land : (k r : ℕ) → Unchanged (landing_call k r)
  pub define : (e l : ℕ) → Unchanged (define_call e l)
  pub check_rule : (e i : ℕ) → Unchanged (rule_call e i)
  pub check_link : (i r : ℕ) → Unchanged (link_call i r)
  pub settle : Unchanged settle_call
  pub sweep : Unchanged sweep_call
  -- finish changes no table; refused, it leaves the output as it was
  pub finished : (L : Loaded) (s : State) (out : List ℕ) (f : Refusal) → (finish L s out).0 ≡ Err f → (finish L s out).1 ≡ out
