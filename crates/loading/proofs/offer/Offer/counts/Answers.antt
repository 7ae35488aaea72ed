use Rattle.std.proofs.Common.{rules, arith}
use Rattle.loading.proofs.LoadArrays.{made}
use Rattle.loading.proofs.offer.Offer.counts.Goals as goal

pub returns : goal.returns
returns g c =
    let m = g.R.Register.meaning c.args.self.now.source.now in
    made _ (m.count) c.args.self.now.schema.kinds _ (λ i x q h. search rules) _ _ (omega arith) c.from_fn.ensures.items
