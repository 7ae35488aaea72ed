-- The faults of a write.
use Rattle.words.specs.declared.faults.Fault.{Fault}
use Rattle.words.specs.declared.faults.Refusal.TheVariants as refusal
use Rattle.words.specs.Faults.{fault_of}
use Rattle.registers.specs.declared.writing.WriteFault.{WriteFault}
use Rattle.registers.specs.declared.writing.WriteFault.TheVariants.{Large, Leads, Memory}

abbrev pub write_fault : WriteFault → Fault
write_fault Large = fault_of refusal.Large 0
write_fault (Leads l) = fault_of refusal.Leads l
write_fault Memory = fault_of refusal.Memory 0
