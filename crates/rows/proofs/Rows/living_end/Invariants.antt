use Rattle.std.proofs.Common.{◌≡◌, ◌<◌}
use Rattle.machine.specs.Merging.{end}
use Rattle.rows.specs.View.{view}
use Rattle.rows.proofs.Rows.living_end.Given as goal

abbrev pub invariant-loop-f : goal.invariant-loop-f
invariant-loop-f l = (l.x < l.self.given) × (l.f ≡ (view l.self).forward l.x) × (end (view l.self) l.x ≡ end (view l.self) l.e)

abbrev pub decreases-loop-f : goal.decreases-loop-f
decreases-loop-f l = l.x
