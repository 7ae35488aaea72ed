use Rattle.std.proofs.Common.{length, rules, tests}
use Rattle.registers.proofs.Asked.{find_asked}
use Rattle.machine.specs.Loading.{link_strays}
use Rattle.loading.specs.LoadedWords.{problem_in}
use Rattle.loading.proofs.offer.Offer.lowest_stray.Goals as goal

pub returns : goal.returns
returns g c =
    let p = problem_in c.args.self.now.problem.now in
    let e = find_asked (link_strays p (g.R.Register.meaning c.args.self.now.source.now)) (length p.source_links) _ _ _ (cc) c.find.ensures.ran (λ x b t k. search (rules, tests)) in
    search (rules, tests)
