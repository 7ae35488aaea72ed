-- The steps of the code, as those of the machine.
use Rattle.std.specs.Prelude.{ℕ, Ok, Err, Result}
use Rattle.machine.specs.declared.answers.Ending.{Ending}
use Rattle.machine.specs.declared.answers.Ending.TheVariants as ending
use Rattle.machine.specs.Calls.{Op, apply}
use Rattle.machine.specs.Progress.{Progress, going, over, ending_of}
use Rattle.machine.specs.Shift.{Todo, does, ends, next, plan}
use Rattle.machine.specs.Tables.{Table, opened, holding}
use Rattle.searching.specs.declared.Task.{Task}
use Rattle.searching.specs.Tasks.{op_of}
use Rattle.table.specs.declared.table.shift.Step.{Step}
use Rattle.table.specs.declared.table.shift.Step.TheVariants.{Going, Ended}

abbrev pub shown_step : Step → Progress
shown_step (Going s) = going s.left s.done
shown_step (Ended e n) = over e n

-- a call, or how the shift ends
abbrev pub planned : Todo → Result Op Ending
planned (does o) = Ok o
planned (ends e) = Err (ending_of e)

-- what a step does with that budget left, or how it ends the shift
abbrev pub plan_of : ℕ → Table → Result Op Ending
plan_of left (opened work) = Err ending.NotLoaded
plan_of left (holding work L s) = planned (plan L s (next L s) left)

abbrev pub shown_plan : Result Task Ending → Result Op Ending
shown_plan (Ok t) = Ok (op_of t)
shown_plan (Err e) = Err e

-- the table after a call
abbrev pub after : Op → Table → Table
after o (opened work) = opened work
after o (holding work L s) = holding work L (apply L o s)
