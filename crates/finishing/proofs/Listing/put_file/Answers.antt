use Rattle.std.proofs.Common.{◌≡◌, ◌+◌, ◌<◌, length, get_or, arith, rules}
use Rattle.rows.specs.View.{raw}
use Rattle.finishing.specs.Written.{count_words}
use Rattle.finishing.proofs.FileParts.{file_length, file_put}
use Rattle.finishing.proofs.Known.{counts_known, kinds_known, head_room, end_room}
use Rattle.finishing.proofs.Listing.put_file.Goals.{After-put_links-next}
use Rattle.finishing.proofs.Listing.put_file.Goals as goal

-- the end stands within the output, and its number of words fits a field
end_fits : (c : After-put_links-next) → (c.put_links-next.result + (raw c.args.self.now.rows.now).shape.kinds + c.args.self.now.rows.now.records < length c.args.out.now)
    × (c.put_links-next.result + (raw c.args.self.now.rows.now).shape.kinds + c.args.self.now.rows.now.records < 268435456)
end_fits c = end_room c.args.self.now.writing _ _ c.put_links-next.ensures.next c.requires

pub put-requires : goal.put-requires
put-requires c = let w = c.args.self.now.writing in record { room = omega (arith, head_room w _ c.requires); small = omega (arith, kinds_known w) }

pub put_each-requires : goal.put_each-requires
put_each-requires c =
    let w = c.args.self.now.writing in
    let m = kinds_known w in
    record {
      room = omega (arith, head_room w _ c.requires);
      asked = λ k h. search rules;
      small = λ k v h p. (let e : v ≡ get_or c.args.self.now.numbering.now.counts k 0 = search rules in omega (arith, counts_known w k h));
    }

pub put_links-next-requires : goal.put_links-next-requires
put_links-next-requires c L s w =
    let n = file_length L s (raw c.args.self.now.rows.now) c.args.self.now.found.now c.args.self.now.numbering.now.met c.args.self.now.numbering.now.counts w in
    let r = c.requires L s w in
    omega arith

pub put_landings-end-requires : goal.put_landings-end-requires
put_landings-end-requires c = omega (arith, (end_fits (goal.at.put_landings-end-requires c).After-put_links-next).0)

pub overflow_cast-end : goal.overflow_cast-end
overflow_cast-end c = omega (arith, (end_fits (goal.at.overflow_cast-end c).After-put_links-next).1, c.put_landings-end.ensures.next)

pub put-requires-2 : goal.put-requires-2
put-requires-2 c =
    let n = end_fits (goal.at.put-requires-2 c).After-put_links-next in
    let e = c.put_landings-end.ensures.next in
    record { room = omega (arith, n.0); small = omega (arith, n.1) }

pub overflow_add-result : goal.overflow_add-result
overflow_add-result c = omega (arith, (end_fits (goal.at.overflow_add-result c).After-put_links-next).1, c.put_landings-end.ensures.next)

pub returns : goal.returns
unfolding count_words
returns c =
    let b = raw c.args.self.now.rows.now in
    let f = c.args.self.now.found.now in
    let n = c.args.self.now.numbering.now in
    let counts = c.put_each.ensures (λ k. get_or n.counts k 0) (λ k v h p. search rules) in
    record {
      size = λ L s w. let l = file_length L s b f n.met n.counts w in let e = c.put_links-next.ensures.next L s w in omega (arith, c.put_landings-end.ensures.next);
      words = λ L s w. file_put L s b f n.met n.counts w _ _ _ _ _ _ _ _
          c.put.ensures counts (c.put_links-next.ensures.words L s w) (c.put_links-next.ensures.next L s w)
          (c.put_landings-end.ensures.words L s w) c.put_landings-end.ensures.next c.put-2.ensures;
    }
