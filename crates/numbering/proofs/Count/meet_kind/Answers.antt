use Rattle.std.proofs.Common.{arith}
use Rattle.machine.specs.Sequence.{of_kind}
use Rattle.rows.specs.Layout.{count, shown}
use Rattle.numbering.specs.Count.{seen}
use Rattle.numbering.proofs.Growing.{meets_then, meets_to, kind_none, kind_more}
use Rattle.numbering.proofs.Count.meet_kind.Goals as goal

pub loop-q-init : goal.loop-q-init
loop-q-init c = kind_none (seen c.args.self.now) c.args.k

pub loop-q-preserved : goal.loop-q-preserved
loop-q-preserved c = meets_then _ _ _ c.loop-q.invariant c.meet.ensures (kind_more c.args.k c.loop-q.q)

pub returns : goal.returns
returns c = meets_to (λ a q xs. of_kind (shown a) c.args.k q xs) c.loop-q.q (λ h. count h c.args.k) (omega (arith, c.kind-n.ensures.records)) c.loop-q.invariant
