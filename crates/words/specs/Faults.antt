-- Refusals: the number and the layer of each, and the fault that each reader's answer is.
use Rattle.std.specs.Prelude.{ℕ, ◌+◌, ◌*◌, min, List, ◌++◌, codes, decimal}
use Rattle.words.specs.declared.faults.Refusal.{Refusal}
use Rattle.words.specs.declared.faults.Refusal.TheVariants.{State, Missing, Wrong, Limit, Unknown, Unjoined, Shape, Large, Leads, Waiting, NotLiving, Filled, Full, NoneWaits, Incomplete, Memory}
use Rattle.words.specs.declared.faults.Fault.{Fault}
use Rattle.words.specs.declared.faults.WordFault.{WordFault}
use Rattle.words.specs.declared.faults.WordFault.TheVariants as word
use Rattle.words.specs.declared.faults.SchemaFault.{SchemaFault}
use Rattle.words.specs.declared.faults.SchemaFault.TheVariants as schema
use Rattle.words.specs.declared.tags.Tag.TheVariants as tag
use Rattle.words.specs.Tags.{tagged}

-- the number of a refusal
abbrev pub number : Refusal → ℕ
number State = 1
number Missing = 2
number Wrong = 3
number Limit = 4
number Unknown = 5
number Unjoined = 6
number Shape = 7
number Large = 8
number Leads = 9
number Waiting = 10
number NotLiving = 11
number Filled = 12
number Full = 13
number NoneWaits = 14
number Incomplete = 15
number Memory = 16

-- the layer of a refusal: 1 words, 2 schema, 3 registers, 4 table
abbrev pub layer : Refusal → ℕ
layer State = 4
layer Missing = 1
layer Wrong = 1
layer Limit = 1
layer Unknown = 2
layer Unjoined = 2
layer Shape = 3
layer Large = 3
layer Leads = 3
layer Waiting = 4
layer NotLiving = 4
layer Filled = 4
layer Full = 4
layer NoneWaits = 4
layer Incomplete = 4
layer Memory = 4

-- what a person is told of a refusal
abbrev pub reason : Refusal → List ℕ
reason State = codes "the table is loaded already, or not loaded"
reason Missing = codes "a word is missing"
reason Wrong = codes "a wrong tag, side, bit or end count, or a word after the end"
reason Limit = codes "a limit is passed"
reason Unknown = codes "an unknown or misordered number"
reason Unjoined = codes "a path does not join, or ends at a wrong kind"
reason Shape = codes "the register has another shape than the source schema"
reason Large = codes "the register has too many records"
reason Leads = codes "a link leads a record to nothing, or to an uncounted one"
reason Waiting = codes "an entry waits"
reason NotLiving = codes "an entry or a number that is not known"
reason Filled = codes "the place is filled already"
reason Full = codes "the table is full: work words for more entries are wanted"
reason NoneWaits = codes "nothing waits"
reason Incomplete = codes "the table is not complete: the budget is spent"
reason Memory = codes "there are too few words"

abbrev pub fault_of : Refusal → ℕ → Fault
fault_of r p = record { refusal = r; place = p }

-- a fault as a word; a place above the field is shown as the largest that fits
abbrev pub fault_word : Fault → ℕ
fault_word f = tagged tag.Fault (layer f.refusal * 16777216 + number f.refusal * 65536 + min f.place 65535)

-- what a person is told of a fault
abbrev pub fault_text : Fault → List ℕ
fault_text f =
    reason f.refusal ++ (codes " (number " ++ (decimal (number f.refusal) ++ (codes ", layer " ++ (decimal (layer f.refusal) ++ (codes ", place " ++ (decimal f.place ++ codes ")"))))))

abbrev pub word_fault : WordFault → Fault
word_fault (word.Missing p) = fault_of Missing p
word_fault (word.Wrong p) = fault_of Wrong p
word_fault (word.Limit p) = fault_of Limit p

abbrev pub schema_fault : SchemaFault → Fault
schema_fault (schema.Words f) = word_fault f
schema_fault (schema.Unknown p) = fault_of Unknown p
schema_fault (schema.Unjoined p) = fault_of Unjoined p
