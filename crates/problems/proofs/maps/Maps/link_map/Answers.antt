use Rattle.std.proofs.Common.{◌+◌, ◌%◌, get_or, sym, ap, ◌∙◌, arith}
use Rattle.problems.specs.Problem.{path}
use Rattle.problems.specs.Seen.{reached}
use Rattle.problems.specs.Held.{words_in, links_in, kinds_in}
use Rattle.problems.proofs.Paths.{linked_length}
use Rattle.problems.proofs.Mapping.{map_code}
use Rattle.problems.proofs.maps.Maps.link_map.Goals as goal

pub returns : goal.returns
returns c =
    let m = c.args.self.now in
    let s = m.sides.source in
    let t = m.sides.target in
    let km = kinds_in m in
    map_code (links_in s) km (links_in t) (words_in m.sides) _ c.args.at c.in_ok-v.v
    c.target_of-begin.result c.target_of-end.result c.in_ok-last.last s.schema.links
    (sym c.word.ensures ∙ c.in_ok-v.was) (omega arith) (omega arith) (linked_length s.schema.kinds s.words.now s.schema.place s.schema.links s.read)
    (c.target_of-begin.ensures ∙ ap (λ k. get_or km k 0) c.ends-from.ensures.from) (c.target_of-end.ensures ∙ ap (λ k. get_or km k 0) c.ends-from.ensures.to)
    (ap (λ ws. reached (path (links_in t) ws (c.in_ok-v.v % 256) c.target_of-begin.result (c.args.at + 1))) (sym m.sides.same) ∙ sym c.in_ok-last.ensures) c.if-last-end.false
