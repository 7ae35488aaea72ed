use Rattle.machine.specs.Settling.{drain}
use Rattle.rows.specs.Layout.{Becomes}
use Rattle.rows.specs.View.{raw}
use Rattle.rows.proofs.Rows.drain.Given as goal

abbrev pub invariant-loop-l : goal.invariant-loop-l
invariant-loop-l l = Becomes (raw l.initial.self) (drain l.v l.l) (raw l.self)
