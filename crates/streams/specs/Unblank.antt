-- From the bytes of a register file with blanks to those of the register without them.
use Rattle.std.specs.Prelude.{◌≡◌, ℕ, cond, List, [], length, Ok, Err, Result, ◌≢◌, nat_le, nat_lt, slice_index}
use Rattle.words.specs.declared.faults.Fault.{Fault}
use Rattle.words.specs.declared.faults.Refusal.TheVariants as refusal
use Rattle.words.specs.declared.tags.Tag.TheVariants as tags
use Rattle.words.specs.Tags.{number}
use Rattle.words.specs.Faults.{fault_of, schema_fault}
use Rattle.words.specs.Words.{tag, then}
use Rattle.register_files.specs.Register.{File, read}
use Rattle.registers.specs.declared.writing.WriteFault.{WriteFault}
use Rattle.registers.specs.declared.writing.WriteFault.TheVariants.{Memory}
use Rattle.registers.specs.WriteFaults.{write_fault}
use Rattle.registers.specs.Meaning.{answers}
use Rattle.registers.specs.Blanks.{blank}
use Rattle.registers.specs.Writing.{words_of}
use Rattle.streams.specs.Sending.{whole, faulted}

-- words for which there is room
abbrev pub within : ℕ → Result (List ℕ) WriteFault → Result (List ℕ) WriteFault
within room (Ok ws) = cond (nat_le (length ws) room) (Ok ws) (Err Memory)
within room (Err e) = Err e

-- the words of a file's register without its blanks, of which 8,192 have room
abbrev pub unblanked : File → Result (List ℕ) Fault
unblanked f = faulted write_fault (within 8192 (words_of (blank (answers f))))

-- the answer to bytes: more than 32,768 are refused at the first word behind them
unfoldable pub answer : List ℕ → Result (List ℕ) Fault
answer bs = cond (nat_lt 32768 (length bs)) (Err (fault_of refusal.Limit 8192)) (then (faulted schema_fault (read (whole bs))) unblanked)

-- the words are a register file without landings that means what the input means without its blanks
abbrev pub Rewritten : List ℕ → List ℕ → Type 0
Rewritten input ws = (f : File) × (g : File) × (read (whole input) ≡ Ok f) × (read ws ≡ Ok g) × (g.landings ≡ []) × (answers g ≡ blank (answers f))

-- unless the output begins with a fault word, it is such a register file
abbrev pub Unblanks : List ℕ → List ℕ → Type 0
Unblanks input output = (tag (slice_index (whole output) 0) ≢ number tags.Fault) → Rewritten input (whole output)
