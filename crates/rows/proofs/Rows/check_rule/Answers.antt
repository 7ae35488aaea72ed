use Rattle.std.proofs.Common.{refl}
use Rattle.machine.specs.Calls.{check_rule, apply, rule_fault}
use Rattle.rows.specs.View.{raw, view}
use Rattle.rows.proofs.Faults.{refused_kept}
use Rattle.rows.proofs.Checks.{rule_acts}
use Rattle.rows.proofs.Rows.check_rule.Goals as goal

pub act-requires-clause-named : goal.act-requires-clause-named
act-requires-clause-named c =
    let L = c.requires.standing.0 in
    let st = c.requires.standing.1 in
    rule_acts L (raw c.args.self.now) c.requires.tidy c.args.e c.args.i c.args.found.now st _ (c.in_ok-what.ensures L st)

pub returns-in_err-what-clause-after : goal.returns-in_err-what-clause-after
returns-in_err-what-clause-after c L st =
    let t = c.args.self.now in
    refused_kept (raw t) c.requires.tidy (rule_fault L (view t) c.args.e c.args.i) _ _ (c.in_err-what.ensures L st) (apply L (check_rule c.args.e c.args.i)) _ refl
