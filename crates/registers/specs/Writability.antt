-- That a register may be written has at most one proof.
use Rattle.std.proofs.Props.{props}
use Rattle.registers.specs.Meaning.{Meaning}
use Rattle.registers.specs.Parts.{Writable}

pub writable_prop : (m : Meaning) → IsProp (Writable m)
writable_prop m = Prim.hlevel props
