-- Why no new entry can fill a slot.
use Rattle.std.specs.Prelude.{ℕ, cond, Some, None, Ok, Err, Option, Result, nat_lt}
use Rattle.words.specs.declared.faults.Refusal.{Refusal}
use Rattle.words.specs.declared.faults.Refusal.TheVariants as refusal
use Rattle.machine.specs.State.{State, filled, waits}
use Rattle.rows.specs.View.{slot}
use Rattle.rows.specs.declared.Slot.{Slot}

-- in their order: some wait, there is no such slot, it is filled, no number is free
abbrev pub free_in : State → ℕ → Option Slot → Result Slot Refusal
free_in s capacity None = Err refusal.NotLiving
free_in s capacity (Some t) = cond (filled (s.held (slot t))) (Err refusal.Filled) (cond (nat_lt s.given capacity) (Ok t) (Err refusal.Full))

abbrev pub free : State → Option Slot → ℕ → Result Slot Refusal
free s t capacity = cond (waits s.waiting) (Err refusal.Waiting) (free_in s capacity t)
