-- Reading back what finish wrote: the register reader accepts it, and it means what the table shows.
use Rattle.std.specs.Prelude.{◌≡◌, ℕ, ◌<◌, cond, List, Some, None, Ok, nat_lt, slice_index, slice_index_or}
use Rattle.register_files.specs.Register.{read}
use Rattle.registers.specs.Meaning.{Meaning, no_row, answers}
use Rattle.machine.specs.Loaded.{Loaded}
use Rattle.machine.specs.Loading.{load}
use Rattle.machine.specs.State.{cell, landing, State, start}
use Rattle.machine.specs.Sweeping.{renamed}
use Rattle.machine.specs.Shift.{Call, calls}
use Rattle.machine.specs.Finish.{number, entry, count_of, finished_file, finish_words, finish_fault}

-- The register that a table shows: the living entries of each kind by their numbers, and a link leads from an entry to what its cell holds.
abbrev pub shown : Loaded → State → Meaning
shown L s = record {
  kinds = L.target_kinds;
  links = L.links;
  ends = λ l. cond (nat_lt l L.links) (Some (L.from l, L.to l)) None;
  count = count_of L s;
  follow = λ l n. cond (nat_lt l L.links) (cond (nat_lt n (count_of L s (L.from l))) (renamed (number L s) (s.held (cell (entry L s (L.from l) n) l))) None) None;
}

pub record ReadsBack (L : Loaded) (s : State) : Type 0 where
  pub accepted : read (finish_words L s) ≡ Ok (finished_file L s)
  pub means : answers (finished_file L s) ≡ shown L s
  -- the landings name the entries that the source records landed on
  pub lands : (k r : ℕ) → k < L.source_kinds → r < L.count k → Some (slice_index (slice_index_or (finished_file L s).landings k no_row).leads r) ≡ renamed (number L s) (s.held (landing k r))

-- After every accepted load and every list of calls, what finish writes is read back as the register that the table shows.
abbrev pub FinishReadsBack : Type 0
FinishReadsBack = (work : ℕ) (ws : List ℕ) (m : Meaning) (L : Loaded) → load work ws m ≡ Ok L → (cs : List Call) →
    finish_fault L (calls L cs start) ≡ None → ReadsBack L (calls L cs start)
