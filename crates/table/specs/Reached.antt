-- A loaded table: what its words say, and how it came to its state.
use Rattle.std.specs.Prelude.{◌≡◌, ℕ, List, length, take, Ok}
use Rattle.bounded.specs.Listed.{listed}
use Rattle.problems.specs.Problem.{read}
use Rattle.problems.specs.Shown.{told, outline_of}
use Rattle.machine.specs.Loading.{load}
use Rattle.machine.specs.Shift.{Call, calls}
use Rattle.machine.specs.State.{start}
use Rattle.rows.specs.declared.problem.Load.{Load}
use Rattle.rows.specs.Layout.{Raw, Carries, shown}
use Rattle.loading.specs.LoadedWords.{copy, Placed, taken_shown}

-- the words of the problem
abbrev pub problem_words : Raw → List ℕ
problem_words r = take r.shape.lands r.ws

-- the machine loads the table's own copies, and calls lead from its start to the state
pub record Reached (l : Load) (r : Raw) : Type 0 where
  pub loads : load (length r.ws) (problem_words r) (copy (listed l.leads) r) ≡ Ok (taken_shown (listed l.leads) r)
  pub outline : told (Ok l.found) ≡ outline_of (read (problem_words r))
  pub placed : Placed (listed l.leads) r
  pub carries : Carries (taken_shown (listed l.leads) r) r.shape
  pub made : List Call
  pub state : shown r ≡ calls (taken_shown (listed l.leads) r) made start
