use Rattle.std.proofs.Common.{length, rules, tests}
use Rattle.registers.proofs.Asked.{any_asked}
use Rattle.machine.specs.Loading.{source_link, other_ends}
use Rattle.loading.specs.LoadedWords.{problem_in}
use Rattle.loading.proofs.offer.Offer.some_other_ends.Goals as goal

pub returns : goal.returns
returns g c =
    let p = problem_in c.args.self.now.problem.now in
    let m = g.R.Register.meaning c.args.self.now.source.now in
    any_asked (λ i. other_ends (source_link p i) (m.ends i)) (length p.source_links) _ _ _ (cc) c.any.ensures.ran (λ x b t k. search (rules, tests))
