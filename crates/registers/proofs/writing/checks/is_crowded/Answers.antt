use Rattle.std.proofs.Common.{ltb, rules, tests}
use Rattle.registers.proofs.Asked.{any_asked}
use Rattle.registers.proofs.writing.checks.is_crowded.Goals as goal

pub returns : goal.returns
returns g c =
    let m = g.R.Register.meaning c.args.register.now in
    any_asked (λ k. ltb 65535 (m.count k)) m.kinds _ _ _ (cc) c.any.ensures.ran (λ x b t k. search (rules, tests))
