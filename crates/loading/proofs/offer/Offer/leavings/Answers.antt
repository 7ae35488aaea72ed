use Rattle.std.proofs.Common.{rules, arith}
use Rattle.loading.specs.LoadedWords.{problem_in, leaving}
use Rattle.loading.proofs.LoadArrays.{made}
use Rattle.loading.proofs.offer.Offer.leavings.Goals as goal

pub returns : goal.returns
returns g c =
    let m = g.R.Register.meaning c.args.self.now.source.now in
    made _ (leaving (problem_in c.args.self.now.problem.now) m.count) c.args.self.now.schema.links _ (λ i x q h. search rules) _ _ (omega arith) c.from_fn.ensures.items
