-- What a load takes, as it is read off the words of a table.
use Rattle.std.specs.Prelude.{◌≡◌, ℕ, zero, suc, ◌+◌, ◌/◌, ◌%◌, ◌<◌, ◌≤◌, cond, ◌&&◌, List, [], ◌++◌, length, take, Some, None, Ok, Err, Option, Result, nat_lt, slice_index}
use Rattle.words.specs.declared.faults.SchemaFault.{SchemaFault}
use Rattle.problems.specs.declared.Schema.{Schema}
use Rattle.problems.specs.Problem.{Problem, read}
use Rattle.registers.specs.Meaning.{Meaning}
use Rattle.registers.specs.Writing.{upto, lead}
use Rattle.machine.specs.Loaded.{Loaded}
use Rattle.machine.specs.Loading.{source_link, taken}
use Rattle.rows.specs.Layout.{Raw, Copied, count}

-- the problem in accepted words, and one of nothing in others
abbrev pub no_problem : Problem
no_problem = record { source_kinds = 0; source_links = []; target_kinds = 0; target_links = []; rules = []; kind_map = []; link_map = [] }

abbrev pub or_no_problem : Result Problem SchemaFault → Problem
or_no_problem (Ok p) = p
or_no_problem (Err e) = no_problem

unfoldable pub problem_in : List ℕ → Problem
problem_in ws = or_no_problem (read ws)

-- the source schema of accepted words: its kinds and links, and the fields of a link's word are its ends
pub record Sourced (ws : List ℕ) (s : Schema) : Type 0 where
  pub kinds : s.kinds ≡ (problem_in ws).source_kinds
  pub links : s.links ≡ length (problem_in ws).source_links
  pub few_kinds : s.kinds ≤ 32
  pub few_links : s.links ≤ 64
  pub short : length ws ≤ 268435456
  pub inside : (i : ℕ) → i < s.links → s.place + i < length ws
  pub from : (i : ℕ) → i < s.links → slice_index ws (s.place + i) % 268435456 / 256 ≡ (source_link (problem_in ws) i).from
  pub to : (i : ℕ) → i < s.links → slice_index ws (s.place + i) % 268435456 % 256 ≡ (source_link (problem_in ws) i).to

-- how many records a source link leaves
abbrev pub leaving : Problem → (ℕ → ℕ) → ℕ → ℕ
leaving p counts i = counts (source_link p i).from

-- where the first n source links lead, one behind another
unfoldable pub lead_words : Problem → Meaning → ℕ → List ℕ
lead_words p m zero = []
lead_words p m (suc n) = lead_words p m n ++ upto (lead m n) (leaving p m.count n)

-- the problem in the words of a table
abbrev pub problem_of : Raw → Problem
problem_of r = problem_in (take r.shape.lands r.ws)

-- a table's copy of its source: ends by the problem, counts, and leads that stand at the places of their links
unfoldable pub ends_copied : Problem → ℕ → Option (ℕ × ℕ)
ends_copied p i = cond (nat_lt i (length p.source_links)) (Some ((source_link p i).from, (source_link p i).to)) None

unfoldable pub count_copied : Raw → ℕ → ℕ
count_copied r k = cond (nat_lt k r.shape.kinds) (count r.shape k) 0

unfoldable pub lead_copied : Problem → List ℕ → Raw → ℕ → ℕ → Option ℕ
lead_copied p leads r i q =
    cond (nat_lt i (length p.source_links) && nat_lt q (leaving p (count_copied r) i)) (Some (slice_index r.ws (slice_index leads i + q))) None

abbrev pub copy_by : Problem → List ℕ → Raw → Meaning
copy_by p leads r = record {
  kinds = p.source_kinds;
  links = length p.source_links;
  ends = ends_copied p;
  count = count_copied r;
  follow = lead_copied p leads r;
}

abbrev pub copy : List ℕ → Raw → Meaning
copy leads r = copy_by (problem_of r) leads r

-- the leads stand among the words that no call changes
abbrev pub PlacedBy : Problem → List ℕ → Raw → Type 0
PlacedBy p leads r = (i q : ℕ) → i < length p.source_links → q < leaving p (count_copied r) i → Copied r.shape (slice_index leads i + q)

abbrev pub Placed : List ℕ → Raw → Type 0
Placed leads r = PlacedBy (problem_of r) leads r

-- what load took, as the words of a table show it
abbrev pub taken_shown : List ℕ → Raw → Loaded
taken_shown leads r = taken (problem_of r) (copy leads r) r.shape.capacity
