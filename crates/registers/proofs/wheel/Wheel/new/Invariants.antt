use Rattle.std.proofs.Common.{◌≡◌, take}
use Rattle.bounded.specs.Listed.{listed}
use Rattle.registers.proofs.wheel.Wheel.new.Given as goal

abbrev pub invariant-loop-step : goal.invariant-loop-step
invariant-loop-step l = listed l.list ≡ take l.step-index l.first
