-- The tasks of the code, as calls of the machine.
use Rattle.std.specs.Prelude.{Some, None, Option}
use Rattle.machine.specs.Calls.{Op, land, define, check_rule, check_link, settle, sweep}
use Rattle.searching.specs.declared.Task.{Task}
use Rattle.searching.specs.declared.Task.TheVariants.{Settle, Link, Rule, Land, Define, Sweep}

abbrev pub op_of : Task → Op
op_of Settle = settle
op_of (Link i q) = check_link i q
op_of (Rule e i) = check_rule e i
op_of (Land k q) = land k q
op_of (Define e l) = define e l
op_of Sweep = sweep

abbrev pub shown_task : Option Task → Option Op
shown_task None = None
shown_task (Some t) = Some (op_of t)
