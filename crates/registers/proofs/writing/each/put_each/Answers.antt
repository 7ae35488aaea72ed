use Rattle.std.proofs.Common.{arith}
use Rattle.registers.specs.Writing.{upto}
use Rattle.registers.proofs.WrittenSplices.{splice_none}
use Rattle.registers.proofs.WrittenParts.{tagged_more}
use Rattle.registers.proofs.writing.each.put_each.Goals as goal

pub put-requires : goal.put-requires
put-requires g c = record { room = omega arith; small = c.requires.small c.loop-i.i _ c.loop-i-test.true c.fields.ensures }

pub loop-i-init : goal.loop-i-init
unfolding upto
loop-i-init g c f t = splice_none c.args.at c.args.out.now

pub loop-i-preserved : goal.loop-i-preserved
loop-i-preserved g c f t = tagged_more c.args.tag f c.args.at c.loop-i.i _ _ _ _ (omega arith) (t c.loop-i.i _ c.loop-i-test.true c.fields.ensures) (c.loop-i.invariant f t) c.put.ensures
