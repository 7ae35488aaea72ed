-- The problem in a table's own words.
use Rattle.std.specs.Prelude.{◌≡◌, ℕ, ◌+◌, ◌<◌, cond, ◌&&◌, List, [], length, take, Some, None, Ok, Err, Option, Result, nat_lt, slice_index}
use Rattle.std.specs.Borrow.{Bor}
use Rattle.words.specs.declared.faults.Refusal.{Refusal}
use Rattle.words.specs.Tokens.{Shown, schema, link, rule, step, kind_map, link_map, end, register, count, register_link, one_record, landings, fault}
use Rattle.problems.specs.declared.Found.{Found}
use Rattle.problems.specs.Problem.{Problem, read}
use Rattle.problems.specs.Shown as outline
use Rattle.registers.specs.Meaning.{Meaning}
use Rattle.machine.specs.Loaded.{Loaded}
use Rattle.machine.specs.Loading.{taken}
use Rattle.machine.specs.Readings.{Accepted}
use Rattle.machine.specs.State.{State, landing}
use Rattle.machine.specs.Walking.{walk_in}
use Rattle.machine.specs.Checking as check
use Rattle.rows.specs.declared.paths.Lead.{Lead}
use Rattle.rows.specs.declared.checking.Effect.{Effect}
use Rattle.rows.specs.Layout.{Raw, Carries}
use Rattle.rows.specs.Walks.{links, shown_effect}

-- before the landings stands the problem that L was taken from, and what was found is its outline
pub record Stands (L : Loaded) (r : Raw) (f : Found) : Type 0 where
  pub problem : Problem
  pub source : Meaning
  pub reads : read (take r.shape.lands r.ws) ≡ Ok problem
  pub told : outline.told (Ok f) ≡ outline.outline_of (Ok problem)
  pub takes : L ≡ taken problem source r.shape.capacity
  pub links : L.links ≡ r.shape.links

abbrev pub Standing : Raw → Found → Type 0
Standing r f = (L : Loaded) × Stands L r f

-- the parts of a token: a rule's first kind and two paths, or a link map's link and path
abbrev pub Parts : Type 0
Parts = ℕ × List ℕ × List ℕ

abbrev pub parts : Shown → Option Parts
parts (rule first left right place) = Some (first, left, right)
parts (link_map l path place) = Some (l, path, [])
parts (schema side kinds) = None
parts (link from to) = None
parts (step g) = None
parts (kind_map source target) = None
parts (end n) = None
parts (register n) = None
parts (count n) = None
parts (register_link from to) = None
parts (one_record q) = None
parts (landings records source target) = None
parts (fault layer n place) = None

abbrev pub parts_in : Option Shown → Option Parts
parts_in None = None
parts_in (Some t) = parts t

abbrev pub shown_parts : Option (ℕ × Bor (List ℕ) × Bor (List ℕ)) → Option Parts
shown_parts None = None
shown_parts (Some x) = Some (x.0, x.1.now, x.2.now)

-- with the links of their paths
abbrev pub linked : Option Parts → Option Parts
linked None = None
linked (Some x) = Some (x.0, links x.1, links x.2)

abbrev pub path_in : Option Parts → List ℕ
path_in None = []
path_in (Some x) = x.1

-- the rule i, as the machine has it
abbrev pub rule_of : Loaded → ℕ → Option Parts
rule_of L i = cond (nat_lt i L.rules) (Some (L.first i, L.left i, L.right i)) None

abbrev pub shown_found : Result Effect Refusal → Result check.Effect Refusal
shown_found (Ok x) = Ok (shown_effect x)
shown_found (Err f) = Err f

-- what the check of a source link finds at a record that it leads as x says, along the link's path
abbrev pub led_effect : State → Lead → List ℕ → check.Effect
led_effect s x path = check.sides (walk_in s.held (landing x.to x.led) []) (walk_in s.held (landing x.from x.q) path)

-- what load took has the link i lead as x says
pub record Leads (L : Loaded) (r : Raw) (f : Found) (i : ℕ) (x : Lead) : Type 0 where
  pub stands : Stands L r f
  pub carries : Carries L r.shape
  pub accepted : Accepted L
  pub from : i < L.source_links → L.source_from i ≡ x.from
  pub to : i < L.source_links → L.source_to i ≡ x.to
  pub led : i < L.source_links → x.q < L.count x.from → L.lead i x.q ≡ x.led

abbrev pub Leading : Raw → Found → ℕ → Lead → Type 0
Leading r f i x = (L : Loaded) × Leads L r f i x

-- where the source link i leads the record q, if there is such a link and record
abbrev pub lead_of : Loaded → ℕ → ℕ → Option Lead
lead_of L i q =
    cond (nat_lt i L.source_links && nat_lt q (L.count (L.source_from i))) (Some (record { from = L.source_from i; q = q; to = L.source_to i; led = L.lead i q })) None

-- the words hold the problem and the source that L was taken from; the leads of source link i begin at the place that `leads` has for it
pub record Holds (L : Loaded) (r : Raw) (f : Found) (leads : List ℕ) : Type 0 where
  pub stands : Stands L r f
  pub carries : Carries L r.shape
  pub accepted : Accepted L
  pub led : (i q : ℕ) → i < L.source_links → q < L.count (L.source_from i) → (slice_index leads i + q < length r.ws) × (L.lead i q ≡ slice_index r.ws (slice_index leads i + q))

abbrev pub Holding : Raw → Found → List ℕ → Type 0
Holding r f leads = (L : Loaded) × Holds L r f leads
