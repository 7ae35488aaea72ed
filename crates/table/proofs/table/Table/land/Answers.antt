use Rattle.machine.specs.Calls.{land}
use Rattle.table.proofs.After.{holds, mapped, still, called}
use Rattle.table.proofs.table.Table.land.Goals as goal

pub invariant_of-self-2 : goal.invariant_of-self-2
invariant_of-self-2 c =
    let t = c.args.self.now in
    let is = c.in-Some.is in
    still t _ is (land c.args.k c.args.q) _ (c.land.ensures.after _ (holds t _ is).carries (mapped t _ is _ _ c.mapped-kind.ensures))

pub returns : goal.returns
returns c =
    let t = c.args.self.now in
    let is = c.in-Some.is in
    called t _ is (land c.args.k c.args.q) _ (c.land.ensures.after _ (holds t _ is).carries (mapped t _ is _ _ c.mapped-kind.ensures)) _ _ (c.land.ensures.is _ (holds t _ is).carries)
