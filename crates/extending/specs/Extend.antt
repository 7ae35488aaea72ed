-- From the bytes of a problem and of a register with blanks to those of the register that the problem carries it to.
use Rattle.std.specs.Prelude.{◌≡◌, ℕ, suc, ◌+◌, ◌<◌, ◌≤◌, cond, List, [], ◌∷◌, length, take, drop, replicate, Ok, Err, Result, ◌==◌, ◌≢◌, nat_lt, slice_index}
use Rattle.words.specs.declared.faults.Fault.{Fault}
use Rattle.words.specs.declared.faults.Refusal.{Refusal}
use Rattle.words.specs.declared.faults.Refusal.TheVariants as refusal
use Rattle.words.specs.declared.tags.Tag.TheVariants as tags
use Rattle.words.specs.Tags.{number}
use Rattle.words.specs.Faults.{fault_of, schema_fault}
use Rattle.words.specs.Words.{tag, then}
use Rattle.register_files.specs.Register.{File, read}
use Rattle.registers.specs.Meaning.{Meaning, answers}
use Rattle.registers.specs.Blanks.{blank}
use Rattle.machine.specs.declared.answers.LoadFault.{LoadFault}
use Rattle.machine.specs.declared.answers.Ending.{Ending}
use Rattle.machine.specs.declared.answers.Ending.TheVariants as ending
use Rattle.machine.specs.LoadFaults.{load_fault}
use Rattle.machine.specs.Loaded.{Loaded}
use Rattle.machine.specs.Loading.{load}
use Rattle.machine.specs.State.{State, start}
use Rattle.machine.specs.Tables.{Table, opening, loading}
use Rattle.machine.specs.Shift.{Call, calls}
use Rattle.machine.specs.Progress.{Progress, going, over, finish_call}
use Rattle.machine.specs.Finish.{finish_words}
use Rattle.machine.specs.Promise.{Finishes}
use Rattle.machine.specs.Universal.{Extends}
use Rattle.machine.specs.ReadBack.{ReadsBack}
use Rattle.table.specs.Played.{shift_call}
use Rattle.streams.specs.Sending.{whole, faulted}

-- the words of the problem: up to the first with the end tag, that one included, or all
unfoldable pub problem_size : List ℕ → ℕ
problem_size [] = 0
problem_size (w ∷ ws) = cond (tag w == number tags.End) 1 (suc (problem_size ws))

-- the first n words end with the first word that has the end tag, or they are all words and none before the last has it
pub record PartedAt (ws : List ℕ) (n : ℕ) : Type 0 where
  pub within : n ≤ length ws
  pub none_before : (k : ℕ) → k + 1 < n → tag (slice_index ws k) ≢ number tags.End
  pub ends : n < length ws → (k : ℕ) × (k + 1 ≡ n) × (tag (slice_index ws k) ≡ number tags.End)

abbrev pub problem_part : List ℕ → List ℕ
problem_part ws = take (problem_size ws) ws

-- the register's words are those behind it
abbrev pub register_part : List ℕ → List ℕ
register_part ws = drop (problem_size ws) ws

-- the words of a finish into 8,192 words, or its refusal
abbrev pub told_words : Result ℕ Refusal × List ℕ → Result (List ℕ) Fault
told_words (Ok n, out) = Ok (take n out)
told_words (Err f, out) = Err (fault_of f 0)

abbrev pub finished : Table → Result (List ℕ) Fault
finished t = told_words (finish_call (replicate 8192 0) t)

-- what the end of a shift comes to: a complete table is finished
abbrev pub ended : Table → Ending → Result (List ℕ) Fault
ended t ending.Complete = finished t
ended t ending.Full = Err (fault_of refusal.Full 0)
ended t ending.Spent = Err (fault_of refusal.Incomplete 0)
ended t ending.NotLoaded = Err (fault_of refusal.State 0)

-- a shift that was played to its end never goes on
abbrev pub played : Table × Progress → Result (List ℕ) Fault
played (t, over e done) = ended t e
played (t, going left done) = Err (fault_of refusal.Incomplete 0)

abbrev pub loaded : Table × Result (Unit {0}) LoadFault → Result (List ℕ) Fault
loaded (t, Ok u) = played (shift_call 100000 0 t)
loaded (t, Err e) = Err (load_fault e)

-- 12,288 work words, and a shift with budget 100,000
abbrev pub carried : List ℕ → Meaning → Result (List ℕ) Fault
carried ws m = loaded (loading ws m (opening 12288))

-- the register is read first, and loaded without its blanks
abbrev pub extended : List ℕ → Result (List ℕ) Fault
extended ws = then (faulted schema_fault (read (register_part ws))) (λ f. carried (problem_part ws) (blank (answers f)))

-- the answer to bytes: more than 32,768 are refused at the first word behind them
unfoldable pub answer : List ℕ → Result (List ℕ) Fault
answer bs = cond (nat_lt 32768 (length bs)) (Err (fault_of refusal.Limit 8192)) (extended (whole bs))

-- The words are a register that the rules force: what was read loads, and from the register of the words, with its landings, there is exactly one
-- map to every other that keeps the rules and the links of what was loaded. They are read back as it, and every other table of the same problem
-- and source that finish accepts gives the same words.
pub record CarriesOver (input ws : List ℕ) : Type 0 where
  pub file : File
  pub reads : read (register_part (whole input)) ≡ Ok file
  pub took : Loaded
  pub loads : load 12288 (problem_part (whole input)) (blank (answers file)) ≡ Ok took
  pub state : State
  pub writes : ws ≡ finish_words took state
  pub extends : Extends took state
  pub back : ReadsBack took state
  pub one : (work : ℕ) (K : Loaded) → load work (problem_part (whole input)) (blank (answers file)) ≡ Ok K → (ds : List Call) (vs : List ℕ) → Finishes K (calls K ds start) vs → vs ≡ ws

-- unless the output begins with a fault word, it is such a register
abbrev pub CarriedOver : List ℕ → List ℕ → Type 0
CarriedOver input output = (tag (slice_index (whole output) 0) ≢ number tags.Fault) → ∥ CarriesOver input (whole output) ∥₁
