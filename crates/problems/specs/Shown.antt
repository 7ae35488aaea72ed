-- The code's outline of rules and maps, as lists.
use Rattle.std.specs.Prelude.{ℕ, ◌+◌, List, length, Ok, Err, Result}
use Rattle.bounded.specs.declared.Bounded.{Bounded}
use Rattle.bounded.specs.Listed.{listed}
use Rattle.words.specs.declared.faults.SchemaFault.{SchemaFault}
use Rattle.problems.specs.declared.Schema.{Schema}
use Rattle.problems.specs.declared.Found.{Found}
use Rattle.words.specs.Items.{places, sizes, one_word}
use Rattle.problems.specs.Problem.{Problem, rule_size, path_size}

abbrev pub shown : {N : ℕ} → Result (Bounded ℕ N × ℕ) SchemaFault → Result (List ℕ × ℕ) SchemaFault
shown (Ok l) = Ok (listed l.0, l.1)
shown (Err e) = Err e

-- what the code keeps of a problem: the schemas, the place of each rule, of the kind maps, and of each link map
pub record Seen : Type 0 where
  pub source : Schema
  pub target : Schema
  pub rules : List ℕ
  pub maps : ℕ
  pub link_maps : List ℕ

abbrev pub told : Result Found SchemaFault → Result Seen SchemaFault
told (Ok f) = Ok (record { source = f.source; target = f.target; rules = listed f.rules; maps = f.maps; link_maps = listed f.link_maps })
told (Err e) = Err e

abbrev pub outline_from : Schema → Schema → ℕ → Result Problem SchemaFault → Result Seen SchemaFault
outline_from s t at (Ok p) = Ok (record {
  source = s;
  target = t;
  rules = places rule_size at p.rules;
  maps = at + sizes rule_size p.rules;
  link_maps = places path_size (at + sizes rule_size p.rules + sizes one_word p.kind_map) p.link_map;
})
outline_from s t at (Err e) = Err e

abbrev pub source_of : Problem → Schema
source_of p = record { kinds = p.source_kinds; links = length p.source_links; place = 1 }

abbrev pub target_of : Problem → Schema
target_of p = record { kinds = p.target_kinds; links = length p.target_links; place = 1 + length p.source_links + 1 }

abbrev pub outline_of : Result Problem SchemaFault → Result Seen SchemaFault
outline_of (Ok p) = outline_from (source_of p) (target_of p) (1 + length p.source_links + 1 + length p.target_links) (Ok p)
outline_of (Err e) = Err e
