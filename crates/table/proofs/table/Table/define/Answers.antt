use Rattle.machine.specs.Calls.{define}
use Rattle.table.proofs.After.{holds, ends, still, called}
use Rattle.table.proofs.table.Table.define.Goals as goal

pub invariant_of-self-2 : goal.invariant_of-self-2
invariant_of-self-2 c =
    let t = c.args.self.now in
    let is = c.in-Some.is in
    let e = ends t _ is _ _ c.link_ends-from.ensures in
    still t _ is (define c.args.e c.args.l) _ (c.define.ensures.after _ (holds t _ is).carries (λ k. (e k).0) (λ k. (e k).1))

pub returns : goal.returns
returns c =
    let t = c.args.self.now in
    let is = c.in-Some.is in
    let e = ends t _ is _ _ c.link_ends-from.ensures in
    called t _ is (define c.args.e c.args.l) _ (c.define.ensures.after _ (holds t _ is).carries (λ k. (e k).0) (λ k. (e k).1)) _ _ (c.define.ensures.is _ (holds t _ is).carries (λ k. (e k).0))
