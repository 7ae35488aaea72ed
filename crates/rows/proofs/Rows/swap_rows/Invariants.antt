use Rattle.std.proofs.Common.{◌≡◌}
use Rattle.rows.specs.Writes.{changed_rows, swapped, over}
use Rattle.rows.specs.View.{raw}
use Rattle.rows.proofs.Rows.swap_rows.Given as goal

abbrev pub invariant-loop-e : goal.invariant-loop-e
invariant-loop-e l = raw l.self ≡ over (raw l.initial.self) (changed_rows (swapped l.old l.new) l.initial.self.words.now l.initial.self.base l.initial.self.links l.e)
