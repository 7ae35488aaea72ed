use Rattle.std.proofs.Common.{◌≡◌, take}
use Rattle.registers.specs.Writing.{upto, lead}
use Rattle.loading.proofs.copies.put_link.Given as goal

abbrev pub invariant-loop-r : goal.invariant-loop-r
invariant-loop-r g l = take l.r l.out ≡ upto (lead (g.R.Register.meaning l.source) l.link) l.r
