-- Loading: from work words, problem words and a source's meaning to what a table works on, or the one refusal.
use Rattle.std.specs.Prelude.{ℕ, zero, suc, ◌+◌, ◌-◌, ◌/◌, min, Bool, true, cond, not, ◌&&◌, ◌||◌, List, [], length, get_or, Some, None, Ok, Err, Option, Result, ◌==◌, nat_lt, slice_index, slice_index_or}
use Rattle.words.specs.declared.faults.SchemaFault.{SchemaFault}
use Rattle.problems.specs.Problem.{Link, Problem, no_link, read}
use Rattle.problems.specs.Tokens.{no_rule}
use Rattle.registers.specs.Meaning.{Meaning}
use Rattle.registers.specs.Writing.{some_below, lowest, strays, lead}
use Rattle.machine.specs.declared.answers.LoadFault.{LoadFault}
use Rattle.machine.specs.declared.answers.LoadFault.TheVariants as fault
use Rattle.machine.specs.Loaded.{Loaded}

-- f 0 + f 1 + …, n of them
unfoldable pub sum : (ℕ → ℕ) → ℕ → ℕ
sum f zero = 0
sum f (suc n) = sum f n + f n

-- a source link of the schema
abbrev pub source_link : Problem → ℕ → Link
source_link p i = slice_index_or p.source_links i no_link

-- the source's link has other ends than the schema's, or none
abbrev pub other_ends : Link → Option (ℕ × ℕ) → Bool
other_ends a None = true
other_ends a (Some e) = not (e.0 == a.from && e.1 == a.to)

-- the source has other kinds, links or ends than the source schema
abbrev pub other_shape : Problem → Meaning → Bool
other_shape p m =
    not (m.kinds == p.source_kinds)
    || (not (m.links == length p.source_links)
    || some_below (λ i. other_ends (source_link p i) (m.ends i)) (length p.source_links))

-- the source records in all
abbrev pub source_records : Problem → Meaning → ℕ
source_records p m = sum m.count p.source_kinds

-- where the source's links lead, a word for each record that a link leaves
abbrev pub source_leads : Problem → Meaning → ℕ
source_leads p m = sum (λ i. m.count (source_link p i).from) (length p.source_links)

-- a counted record leads to nothing or to an uncounted one
abbrev pub link_strays : Problem → Meaning → ℕ → Bool
link_strays p m i = strays m i (source_link p i).from (source_link p i).to

-- the words that a load needs: the problem, a landing for each source record, and where the source's links lead
abbrev pub needed : List ℕ → Problem → Meaning → ℕ
needed ws p m = length ws + source_records p m + source_leads p m

-- the entries that the other work words hold, a cell for each target link and three words more each
abbrev pub capacity_of : ℕ → List ℕ → Problem → Meaning → ℕ
capacity_of work ws p m = min 65535 ((work - needed ws p m) / (length p.target_links + 3))

-- what a table works on
abbrev pub taken : Problem → Meaning → ℕ → Loaded
taken p m capacity = record {
  target_kinds = p.target_kinds;
  links = length p.target_links;
  from = λ l. (get_or p.target_links l no_link).from;
  to = λ l. (get_or p.target_links l no_link).to;
  rules = length p.rules;
  first = λ i. (get_or p.rules i no_rule).first;
  left = λ i. (get_or p.rules i no_rule).left;
  right = λ i. (get_or p.rules i no_rule).right;
  source_kinds = p.source_kinds;
  source_links = length p.source_links;
  source_from = λ i. (source_link p i).from;
  source_to = λ i. (source_link p i).to;
  kind_map = λ k. slice_index p.kind_map k;
  link_map = λ i. slice_index_or p.link_map i [];
  count = m.count;
  lead = lead m;
  capacity = capacity;
}

abbrev pub with_problem : Result Problem SchemaFault → (Problem → Result Loaded LoadFault) → Result Loaded LoadFault
with_problem (Ok p) f = f p
with_problem (Err e) f = Err (fault.Problem e)

abbrev pub unless_strays : Option ℕ → Result Loaded LoadFault → Result Loaded LoadFault
unless_strays (Some i) r = Err (fault.Leads i)
unless_strays None r = r

-- the tests behind the problem's own, in their order
abbrev pub load_problem : ℕ → List ℕ → Meaning → Problem → Result Loaded LoadFault
load_problem work ws m p =
    cond (other_shape p m) (Err fault.Shape)
    (cond (nat_lt 4095 (source_records p m)) (Err fault.Large)
    (unless_strays (lowest (link_strays p m) (length p.source_links))
    (cond (nat_lt work (needed ws p m)) (Err fault.Memory) (Ok (taken p m (capacity_of work ws p m))))))

abbrev pub load : ℕ → List ℕ → Meaning → Result Loaded LoadFault
load work ws m = with_problem (read ws) (load_problem work ws m)
