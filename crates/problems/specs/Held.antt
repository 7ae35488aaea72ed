-- The links and the kind maps that the code holds as values.
use Rattle.std.specs.Prelude.{ℕ, List, Result}
use Rattle.words.specs.declared.faults.SchemaFault.{SchemaFault}
use Rattle.problems.specs.declared.schemas.Links.{Links}
use Rattle.problems.specs.declared.maps.Sides.{Sides}
use Rattle.problems.specs.declared.maps.Maps.{Maps}
use Rattle.problems.specs.Problem.{Link, Rule, rule, rules, kind_mapped, kind_maps, link_mapped, link_maps}
use Rattle.problems.specs.Seen.{links_got, kinds_got}

abbrev pub links_in : Links → List Link
links_in k = links_got k.schema.kinds k.words.now k.schema.place

-- a schema's kinds and its links
abbrev pub whole : Links → ℕ × List Link
whole k = (k.schema.kinds, links_in k)

-- a rule of a schema, and its rules
abbrev pub rule_in : Links → ℕ → ℕ → Result Rule SchemaFault
rule_in k = rule k.schema.kinds (links_in k) k.words.now

abbrev pub rules_in : Links → ℕ → Result (List Rule) SchemaFault
rules_in k = rules k.schema.kinds (links_in k) k.words.now

-- the words of both schemas, a kind map, and the kind maps
abbrev pub words_in : Sides → List ℕ
words_in s = s.source.words.now

abbrev pub kind_mapped_in : Sides → ℕ → ℕ → Result ℕ SchemaFault
kind_mapped_in s = kind_mapped s.source.schema.kinds s.target.schema.kinds (words_in s)

abbrev pub kind_maps_in : Sides → ℕ → Result (List ℕ) SchemaFault
kind_maps_in s = kind_maps s.source.schema.kinds s.target.schema.kinds (words_in s)

-- the target kinds of the source kinds, a link map, and the link maps
abbrev pub kinds_in : Maps → List ℕ
kinds_in m = kinds_got m.sides.source.schema.kinds m.sides.target.schema.kinds (words_in m.sides) m.place

abbrev pub link_mapped_in : Maps → ℕ → ℕ → Result (List ℕ) SchemaFault
link_mapped_in m = link_mapped (links_in m.sides.source) (kinds_in m) (links_in m.sides.target) (words_in m.sides)

abbrev pub link_maps_in : Maps → ℕ → Result (List (List ℕ)) SchemaFault
link_maps_in m = link_maps (links_in m.sides.source) (kinds_in m) (links_in m.sides.target) (words_in m.sides)
