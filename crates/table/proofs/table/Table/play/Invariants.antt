use Rattle.std.proofs.Common.{◌≡◌}
use Rattle.table.specs.Played.{shift_call}
use Rattle.table.specs.Tabled.{view_of, origin_of}
use Rattle.table.proofs.table.Table.play.Given as goal

abbrev pub invariant-loop-next : goal.invariant-loop-next
invariant-loop-next l = (shift_call l.initial.going.left l.initial.going.done (view_of l.initial.self) ≡ shift_call l.going.left l.going.done (view_of l.self))
    × (origin_of l.self ≡ origin_of l.initial.self)

abbrev pub decreases-loop-next : goal.decreases-loop-next
decreases-loop-next l = l.going.left
