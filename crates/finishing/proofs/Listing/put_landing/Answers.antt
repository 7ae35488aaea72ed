use Rattle.std.proofs.Common.{ℕ, ◌+◌, ◌*◌, ◌<◌, arith, rules}
use Rattle.machine.specs.State.{landing}
use Rattle.rows.specs.View.{raw}
use Rattle.finishing.specs.Records.{number_in, Numbered, landed_words}
use Rattle.finishing.proofs.FileParts.{landing_put}
use Rattle.finishing.proofs.Known.{landed_known, landing_fits}
use Rattle.finishing.proofs.Listing.put_landing.Goals.{After-mapped-to}
use Rattle.finishing.proofs.Listing.put_landing.Goals as goal

fits : (c : After-mapped-to) → c.kind-n.result.records * 65536 + c.args.k * 256 + c.mapped-to.result < 268435456
fits c = rw c.kind-n.ensures.records (landing_fits c.args.self.now.writing c.args.self.now.rows.now.fits c.requires.k_lt_kinds c.mapped-to.result c.mapped-to.ensures)

numbered : (c : After-mapped-to) → (q : ℕ) → q < c.kind-n.result.records → Numbered (raw c.args.self.now.rows.now) (landing c.args.k q)
numbered c q h = landed_known c.args.self.now.writing c.args.k q c.requires.k_lt_kinds (omega (arith, h, c.kind-n.ensures.records))

pub overflow_mul-n : goal.overflow_mul-n
overflow_mul-n c = omega (arith, fits (goal.at.overflow_mul-n c).After-mapped-to)

pub overflow_add-n : goal.overflow_add-n
overflow_add-n c = omega (arith, fits (goal.at.overflow_add-n c).After-mapped-to)

pub overflow_add-n-2 : goal.overflow_add-n-2
overflow_add-n-2 c = omega (arith, fits (goal.at.overflow_add-n-2 c).After-mapped-to)

pub put-requires : goal.put-requires
put-requires c = record { room = omega arith; small = fits (goal.at.put-requires c).After-mapped-to }

pub put_each-requires-clause-asked : goal.put_each-requires-clause-asked
put_each-requires-clause-asked c q h = let n = numbered (goal.at.put_each-requires-clause-asked c).After-mapped-to q h in search rules

pub put_each-requires-clause-small : goal.put_each-requires-clause-small
put_each-requires-clause-small c q v h p = let n = numbered (goal.at.put_each-requires-clause-small c).After-mapped-to q h in search rules

pub returns-clause-words : goal.returns-clause-words
unfolding landed_words
returns-clause-words c L s w =
    let r = raw c.args.self.now.rows.now in
    let records = c.put_each.ensures (λ q. number_in r (landing c.args.k q)) (λ q v h p. let n = numbered (goal.at.returns-clause-words c).After-mapped-to q h in search rules) in
    landing_put r c.args.k c.args.at _ _ (L.kind_map c.args.k) _ _ _ (omega arith) c.kind-n.ensures.records (c.mapped-to.ensures L w.stands (omega (arith, w.carries.kinds, c.requires.k_lt_kinds))) c.put.ensures records
