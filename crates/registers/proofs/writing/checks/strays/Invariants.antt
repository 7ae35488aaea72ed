use Rattle.std.proofs.Common.{◌≡◌, false}
use Rattle.registers.specs.Writing.{some_below, astray}
use Rattle.registers.proofs.writing.checks.strays.Given as goal

abbrev pub invariant-loop-r : goal.invariant-loop-r
invariant-loop-r g l = some_below (λ r. astray ((g.R.Register.meaning l.register).count l.to) ((g.R.Register.meaning l.register).follow l.link r)) l.r ≡ false
