use Rattle.std.proofs.Common.{rules, tests}
use Rattle.registers.specs.Writing.{broken}
use Rattle.registers.proofs.Asked.{find_asked}
use Rattle.registers.proofs.writing.checks.lowest_broken.Goals as goal

pub returns : goal.returns
returns g c =
    let m = g.R.Register.meaning c.args.register.now in
    find_asked (broken m) m.links _ _ _ (cc) c.find.ensures.ran (λ x b t k. search (rules, tests))
