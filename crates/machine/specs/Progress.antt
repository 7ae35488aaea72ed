-- A step of a shift and finish, as a caller sees them.
use Rattle.std.specs.Prelude.{ℕ, List, Some, None, Err, Option, Result}
use Rattle.words.specs.declared.faults.Refusal.{Refusal}
use Rattle.words.specs.declared.faults.Refusal.TheVariants as refusal
use Rattle.machine.specs.declared.answers.Ending.{Ending}
use Rattle.machine.specs.declared.answers.Ending.TheVariants as ending
use Rattle.machine.specs.Loaded.{Loaded}
use Rattle.machine.specs.Tables.{Table, opened, holding}
use Rattle.machine.specs.Shift.{End, complete, spent, full, Stepped, step}
use Rattle.machine.specs.Finish.{finish}

-- a shift goes on with a budget left and steps done, or has ended after so many steps
pub data Progress : Type 0 where
  going : ℕ → ℕ → Progress
  over : Ending → ℕ → Progress

abbrev pub ending_of : End → Ending
ending_of complete = ending.Complete
ending_of spent = ending.Spent
ending_of full = ending.Full

abbrev pub progress : Option End → ℕ → ℕ → Progress
progress None left done = going left done
progress (Some e) left done = over (ending_of e) done

abbrev pub stepped : ℕ → Loaded → Stepped → Table × Progress
stepped work L p = (holding work L p.state, progress p.ended p.budget p.done)

-- one step of a shift with that budget left and those steps done
abbrev pub step_call : ℕ → ℕ → Table → Table × Progress
step_call left done (opened work) = (opened work, over ending.NotLoaded done)
step_call left done (holding work L s) = stepped work L (step L left done s)

-- finish: the answer, and the output after it; the table stays as it is
abbrev pub finish_call : List ℕ → Table → Result ℕ Refusal × List ℕ
finish_call out (opened work) = (Err refusal.State, out)
finish_call out (holding work L s) = finish L s out
