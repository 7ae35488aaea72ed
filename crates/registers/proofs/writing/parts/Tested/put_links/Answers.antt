use Rattle.std.proofs.Common.{length, ap, arith}
use Rattle.registers.proofs.WrittenParts.{links_none, links_start, links_length, links_more, links_room}
use Rattle.registers.proofs.writing.parts.Tested.put_links.Goals as goal

pub loop-link-init : goal.loop-link-init
loop-link-init g c =
    let m = g.R.Register.meaning c.args.self.now.register.now in
    (omega (arith, ap length (links_none m)), links_start m c.args.at c.args.out.now)

pub put_link-next-requires : goal.put_link-next-requires
put_link-next-requires g c =
    let m = g.R.Register.meaning c.args.self.now.register.now in
    let n = links_room m c.loop-link.link m.links (omega arith) in
    record { known = omega arith; room = omega arith }

pub loop-link-preserved : goal.loop-link-preserved
loop-link-preserved g c =
    let m = g.R.Register.meaning c.args.self.now.register.now in
    let n = links_length m c.loop-link.link in
    (omega arith, links_more m c.args.at c.loop-link.next c.loop-link.link _ _ _ (omega arith) c.loop-link.invariant.0 c.loop-link.invariant.1 c.put_link-next.ensures.words)
