use Rattle.std.proofs.Common.{Ok, ap, ◌∙◌}
use Rattle.table.proofs.After.{ends}
use Rattle.table.proofs.Asked.{cell_asked}
use Rattle.table.proofs.table.Table.cell.Goals as goal

pub returns-then-leaves : goal.returns-then-leaves
returns-then-leaves c =
    let t = c.args.self.now in
    let is = c.in-Some.is in
    let e = ends t _ is _ _ c.link_ends-from.ensures in
    ap Ok c.cell.ensures ∙ cell_asked t _ is c.args.e c.args.l _ (λ k. (e k).0) _ c.if-leaves.ensures

pub returns-else-leaves : goal.returns-else-leaves
returns-else-leaves c =
    let t = c.args.self.now in
    let is = c.in-Some.is in
    let e = ends t _ is _ _ c.link_ends-from.ensures in
    cell_asked t _ is c.args.e c.args.l _ (λ k. (e k).0) _ c.if-leaves.ensures
