use Rattle.std.proofs.Common.{arith}
use Rattle.finishing.specs.Written.{link_part}
use Rattle.finishing.proofs.Appended.{appended_none, appended_start, appended_length, appended_put, appended_room}
use Rattle.finishing.proofs.Listing.put_links.Goals as goal

pub loop-l-init : goal.loop-l-init
loop-l-init c = (λ L s w. omega (arith, appended_none (link_part L s)), λ L s w. appended_start (link_part L s) c.args.at c.args.out.now)

pub put_link-next-requires-clause-always : goal.put_link-next-requires-clause-always
put_link-next-requires-clause-always c L s w =
    let n = appended_room (link_part L s) c.loop-l.l c.args.self.now.rows.now.links (omega arith) in
    let r = c.requires L s w in
    let i = c.loop-l.invariant.0 L s w in
    omega arith

pub loop-l-preserved : goal.loop-l-preserved
loop-l-preserved c = (
  λ L s w.
      let n = appended_length (link_part L s) c.loop-l.l in
      let i = c.loop-l.invariant.0 L s w in
      let e = c.put_link-next.ensures.next L s w in
      omega arith,
  λ L s w.
      let r = c.requires L s w in
      appended_put (link_part L s) c.args.at c.loop-l.next c.loop-l.l _ _ _ (omega arith) (c.loop-l.invariant.0 L s w) (c.loop-l.invariant.1 L s w) (c.put_link-next.ensures.words L s w),
)
