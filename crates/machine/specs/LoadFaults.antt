-- The faults of a load.
use Rattle.words.specs.declared.faults.Fault.{Fault}
use Rattle.words.specs.declared.faults.Refusal.TheVariants as refusal
use Rattle.words.specs.Faults.{fault_of, schema_fault}
use Rattle.machine.specs.declared.answers.LoadFault.{LoadFault}
use Rattle.machine.specs.declared.answers.LoadFault.TheVariants.{Loaded, Problem, Shape, Large, Leads, Memory}

abbrev pub load_fault : LoadFault → Fault
load_fault Loaded = fault_of refusal.State 0
load_fault (Problem f) = schema_fault f
load_fault Shape = fault_of refusal.Shape 0
load_fault Large = fault_of refusal.Large 0
load_fault (Leads l) = fault_of refusal.Leads l
load_fault Memory = fault_of refusal.Memory 0
