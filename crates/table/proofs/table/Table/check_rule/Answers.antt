use Rattle.machine.specs.Calls.{check_rule}
use Rattle.table.proofs.After.{taken, holds, still, called}
use Rattle.table.proofs.table.Table.check_rule.Goals as goal

pub check_rule-requires-clause-standing : goal.check_rule-requires-clause-standing
check_rule-requires-clause-standing c = let t = c.args.self.now in (taken t _ c.in-Some.is, (holds t _ c.in-Some.is).stands)

pub invariant_of-self-2 : goal.invariant_of-self-2
invariant_of-self-2 c =
    let t = c.args.self.now in
    let is = c.in-Some.is in
    still t _ is (check_rule c.args.e c.args.i) _ (c.check_rule.ensures.after _ (holds t _ is).stands)

pub returns : goal.returns
returns c =
    let t = c.args.self.now in
    let is = c.in-Some.is in
    called t _ is (check_rule c.args.e c.args.i) _ (c.check_rule.ensures.after _ (holds t _ is).stands) _ _ (c.check_rule.ensures.is _ (holds t _ is).stands)
