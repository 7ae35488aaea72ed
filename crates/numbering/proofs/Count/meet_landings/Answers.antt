use Rattle.std.proofs.Common.{ap, arith}
use Rattle.rows.specs.Layout.{Shape}
use Rattle.numbering.specs.Marked.{of_kinds}
use Rattle.numbering.specs.Count.{seen}
use Rattle.numbering.proofs.Growing.{meets_then, meets_to, meets_shape, kinds_none, kinds_more}
use Rattle.numbering.proofs.Count.meet_landings.Goals as goal

pub loop-k-init : goal.loop-k-init
loop-k-init c = kinds_none (seen c.args.self.now)

pub meet_kind-requires : goal.meet_kind-requires
meet_kind-requires c = let e = ap (λ (s : Shape). s.kinds) (meets_shape c.loop-k.invariant c.args.self.now.counting) in omega (arith, e, c.len-n.ensures)

pub loop-k-preserved : goal.loop-k-preserved
loop-k-preserved c = meets_then _ _ _ c.loop-k.invariant c.meet_kind.ensures (kinds_more c.loop-k.k)

pub returns : goal.returns
returns c = meets_to of_kinds c.loop-k.k (λ h. h.kinds) (omega (arith, c.len-n.ensures)) c.loop-k.invariant
