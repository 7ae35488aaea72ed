use Rattle.std.proofs.Common.{refl, arith}
use Rattle.registers.specs.Writing.{some_below}
use Rattle.registers.proofs.WrittenLists.{none_more, some_found}
use Rattle.registers.proofs.writing.checks.strays.Goals as goal

pub loop-r-init : goal.loop-r-init
unfolding some_below
loop-r-init g c = refl

pub loop-r-preserved : goal.loop-r-preserved
loop-r-preserved g c = none_more _ _ c.loop-r.invariant (cc)

pub returns-then-astray : goal.returns-then-astray
returns-then-astray g c = some_found _ c.loop-r.r _ (omega arith) (cc)
