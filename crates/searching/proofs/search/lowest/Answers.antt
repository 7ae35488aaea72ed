use Rattle.std.proofs.lemmas.Iterator.{serves_from_Range}
use Rattle.searching.proofs.Lowest.{lowest_found}
use Rattle.searching.proofs.search.lowest.Goals as goal

pub find_map-requires-clause-callable : goal.find_map-requires-clause-callable
find_map-requires-clause-callable g c = serves_from_Range (λ x q k. g.met.F.Fn.1.step_stays _ _ _ _ k) (λ x lo hi. c.requires x hi)

pub returns : goal.returns
returns g c f is =
    let r = c.find_map.ensures.runs in
    lowest_found g.F.Fn c.args.at (g.met.F.Fn.1.step_stays c.args.at) c.args.n f (λ i r lt k. is i r lt ((g.met.F.FnMut.1.post_iff _ _ _).1 (_, k))) r.0 r.1 _ r.2
