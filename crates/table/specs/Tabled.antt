-- The table of the code, as a table of the machine.
use Rattle.std.specs.Prelude.{◌≡◌, ℕ, List, [], length, Some, None, Ok, Err, Option, Result}
use Rattle.std.specs.Borrow.{Bor}
use Rattle.bounded.specs.Listed.{listed}
use Rattle.words.specs.declared.faults.Refusal.{Refusal}
use Rattle.words.specs.declared.faults.Refusal.TheVariants as refusal
use Rattle.machine.specs.Loaded.{Loaded}
use Rattle.machine.specs.Tables as machine
use Rattle.rows.specs.declared.problem.Load.{Load}
use Rattle.rows.specs.Layout.{Raw, shown}
use Rattle.registers.specs.Meaning.{Meaning}
use Rattle.loading.specs.LoadedWords.{copy, taken_shown}
use Rattle.rows.specs.View.{raw}
use Rattle.rows.specs.declared.Rows.{Rows}
use Rattle.table.specs.declared.table.Table.{Table}
use Rattle.table.specs.Reached.{problem_words}

-- where the leads begin; nowhere where nothing was loaded
abbrev pub leads_of : Option Load → List ℕ
leads_of None = []
leads_of (Some l) = (listed l.leads)

abbrev pub seen : Option Load → Raw → machine.Table
seen None r = machine.opened (length r.ws)
seen (Some l) r = machine.holding (length r.ws) (taken_shown (listed l.leads) r) (shown r)

abbrev pub view_of : Table → machine.Table
view_of t = seen t.load (raw t.rows)

-- what load took
abbrev pub took : Table → Loaded
took t = taken_shown (leads_of t.load) (raw t.rows)

-- the words of the problem and the meaning of the source that a table holds
abbrev pub origin : List ℕ → Raw → List ℕ × Meaning
origin leads r = (problem_words r, copy leads r)

abbrev pub origin_of : Table → List ℕ × Meaning
origin_of t = origin (leads_of t.load) (raw t.rows)

-- the rows of a loaded table
abbrev pub IsLoaded : Table → Result (Bor Rows) Refusal → Type 0
IsLoaded t (Ok rows) = (l : Load) × (t.load ≡ Some l) × (rows.now ≡ t.rows)
IsLoaded t (Err f) = (t.load ≡ None) × (f ≡ refusal.State)
