use Rattle.std.proofs.Common.{length, ◌∙◌, rules, tests, arith}
use Rattle.std.specs.List.{range_with_len}
use Rattle.std.proofs.lemmas.Iterator.{YieldsList-from_map}
use Rattle.std.proofs.lemmas.Iterator.Adapters.{at_most_from_yields_List, fits_from_length}
use Rattle.std.proofs.lemmas.Iterator.Consumers.{sum_by_from_yields_List}
use Rattle.std.proofs.lemmas.List.FromFn.{length-range_with_len}
use Rattle.registers.specs.Parts.{row_words}
use Rattle.registers.proofs.Asked.{yields_below}
use Rattle.registers.proofs.WrittenParts.{links_sum}
use Rattle.registers.proofs.writing.checks.links_size.Goals as goal

pub sum-requires-clause-fits : goal.sum-requires-clause-fits
sum-requires-clause-fits g c =
    let m = g.R.Register.meaning c.args.register.now in
    fits_from_length _ _ 64 _ (at_most_from_yields_List (yields_below m.links (cc)) (omega (arith, length-range_with_len 0 m.links))) c.map.ensures.closure (omega arith)
    (λ x r q k. search (rules, tests))

pub returns : goal.returns
returns g c =
    let m = g.R.Register.meaning c.args.register.now in
    record {
      words = sum_by_from_yields_List (λ l. length (row_words m l)) (range_with_len 0 m.links) _ c.sum.result c.sum.ensures.ran
          (YieldsList-from_map _ (λ l. length (row_words m l)) (yields_below m.links (cc)) c.map.ensures.closure (λ x r q k. search (rules, tests))) ∙ links_sum m m.links;
      fits =
          let p = c.sum.ensures.runs tt in
          let l = fits_from_length _ _ 64 274877906945 (at_most_from_yields_List (yields_below m.links (cc)) (omega (arith, length-range_with_len 0 m.links))) c.map.ensures.closure (omega arith)
          (λ x r q k. search (rules, tests)) p.0 p.0.seen p.1 in
          omega (arith, p.3);
    }
