use Rattle.std.proofs.Common.{rules}
use Rattle.table.proofs.After.{taken, holds}
use Rattle.table.proofs.Stepped.{plan_by}
use Rattle.table.proofs.table.Table.plan.Goals as goal

pub next-requires : goal.next-requires
next-requires c = let t = c.args.self.now in (taken t _ c.in-Some.is, holds t _ c.in-Some.is)

pub returns-in_err-task : goal.returns-in_err-task
returns-in_err-task c = let p = plan_by c.args.self.now _ c.in-Some.is c.args.left _ c.next.ensures in search rules

pub returns-then-left-eq0 : goal.returns-then-left-eq0
returns-then-left-eq0 c = let p = plan_by c.args.self.now _ c.in-Some.is c.args.left _ c.next.ensures in search rules

pub returns-in-Land : goal.returns-in-Land
returns-in-Land c =
    let p = plan_by c.args.self.now _ c.in-Some.is c.args.left _ c.next.ensures in
    let w = c.with_room.ensures _ (holds c.args.self.now _ c.in-Some.is).carries in
    search rules

pub returns-in-Settle : goal.returns-in-Settle
returns-in-Settle c = let p = plan_by c.args.self.now _ c.in-Some.is c.args.left _ c.next.ensures in search rules
