-- What the machine is to do at one pair of numbers, if anything.
use Rattle.std.specs.Prelude.{ℕ, not, ◌&&◌, Some, Option, ◌==◌}
use Rattle.machine.specs.Loaded.{Loaded}
use Rattle.machine.specs.State.{State, cell, landing, filled}
use Rattle.machine.specs.Checking.{rule_effect, link_effect}
use Rattle.machine.specs.Calls.{Op, land, define, check_rule, check_link}
use Rattle.machine.specs.Shift.{only_if, acts}

-- a source link at a record
abbrev pub link_at : Loaded → State → ℕ → ℕ → Option Op
link_at L s i q = acts (link_effect L s i q) (check_link i q)

-- a rule at a living entry
abbrev pub rule_at : Loaded → State → ℕ → ℕ → Option Op
rule_at L s e i = only_if (s.kind e == L.first i) (acts (rule_effect L s e i) (check_rule e i))

-- a record of a source kind
abbrev pub landing_at : Loaded → State → ℕ → ℕ → Option Op
landing_at L s k q = only_if (not (filled (s.held (landing k q)))) (Some (land k q))

-- a link at a living entry
abbrev pub cell_at : Loaded → State → ℕ → ℕ → Option Op
cell_at L s e l = only_if (s.kind e == L.from l && not (filled (s.held (cell e l)))) (Some (define e l))
