use Rattle.std.proofs.Common.{◌≡◌, ◌+◌, ◌≤◌, length, get_or, arith}
use Rattle.rows.specs.View.{raw}
use Rattle.finishing.specs.Listing.{Each}
use Rattle.finishing.proofs.FileParts.{link_put}
use Rattle.finishing.proofs.Known.{link_led, size_is, link_room, leads_fill}
use Rattle.finishing.proofs.Listing.put_link.Goals.{After-ends-from}
use Rattle.finishing.proofs.Listing.put_link.Goals as goal

leaves : (c : After-ends-from) → Each c.args.self.now (λ L s. L.from c.args.l ≡ c.ends-from.result.0)
leaves c L s w = (c.ends-from.ensures.known L s w).0

room : (c : After-ends-from) → c.args.at + 1 + get_or c.args.self.now.numbering.now.counts c.ends-from.result.0 0 ≤ length c.args.out.now
room c = link_room c.args.self.now.writing c.requires.l_lt_links _ (leaves c) c.args.at _ c.requires.always

pub put-requires : goal.put-requires
put-requires c = record { room = omega (arith, room (goal.at.put-requires c).After-ends-from); small = omega (arith, c.ends-from.ensures.small.0, c.ends-from.ensures.small.1) }

pub overflow_add-at : goal.overflow_add-at
overflow_add-at c = omega (arith, room (goal.at.overflow_add-at c).After-ends-from)

pub put_leads-requires : goal.put_leads-requires
put_leads-requires c =
    let start = (goal.at.put_leads-requires c).After-ends-from in
    let w = c.args.self.now.writing in
    let n = room start in
    let m = leads_fill w c.requires.l_lt_links _ (leaves start) in
    record { led = link_led w c.requires.l_lt_links _ (leaves start); met_in_bounds = omega arith }

pub overflow_add-result : goal.overflow_add-result
overflow_add-result c = omega (arith, room (goal.at.overflow_add-result c).After-ends-from)

pub overflow_add-result-2 : goal.overflow_add-result-2
overflow_add-result-2 c = omega (arith, room (goal.at.overflow_add-result-2 c).After-ends-from)

pub returns : goal.returns
returns c =
    let start = (goal.at.returns c).After-ends-from in record {
      next = λ L s w. let n = size_is c.args.self.now.writing c.requires.l_lt_links _ (leaves start) L s w in omega arith;
      words = λ L s w.
          let e = c.ends-from.ensures.known L s w in
          let r = c.requires.always L s w in
          link_put L s (raw c.args.self.now.rows.now) c.args.self.now.found.now c.args.self.now.numbering.now.met c.args.self.now.numbering.now.counts w c.args.l c.requires.l_lt_links c.args.at _ _ _ _ _ (omega arith) e.0 e.1 c.put.ensures c.put_leads.ensures;
    }
