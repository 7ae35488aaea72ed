-- What a wheel shows.
use Rattle.bounded.specs.Listed.{listed}
use Rattle.registers.specs.declared.wheel.Wheel.{Wheel}
use Rattle.registers.specs.Meaning.{Meaning}
use Rattle.registers.specs.Wheels.{wheel}

abbrev pub meaning_of : Wheel → Meaning
meaning_of w = wheel w.size (listed w.steps)
