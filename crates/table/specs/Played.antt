-- A shift that is played to its end.
use Rattle.std.specs.Prelude.{ℕ, suc, None}
use Rattle.machine.specs.declared.answers.Ending.TheVariants as ending
use Rattle.machine.specs.Tables.{Table, opened, holding}
use Rattle.machine.specs.Shift.{shift}
use Rattle.machine.specs.Progress.{Progress, over, stepped}

-- steps until one ends: each that goes on takes one off the budget, so there are at most one more than the budget
abbrev pub shift_call : ℕ → ℕ → Table → Table × Progress
shift_call left done (opened work) = (opened work, over ending.NotLoaded done)
shift_call left done (holding work L s) = stepped work L (shift L (suc left) (record { state = s; budget = left; done = done; ended = None }))
