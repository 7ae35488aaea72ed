use Rattle.std.proofs.Common.{refl, ap, ◌∙◌, rules}
use Rattle.problems.proofs.Paths.{link_inside, link_from, link_at}
use Rattle.problems.proofs.schemas.Links.ends.Goals as goal

pub overflow_add-self : goal.overflow_add-self
overflow_add-self c =
    let s = c.args.self.now in
    let w = link_inside s.schema.kinds s.words.now s.schema.place s.schema.links c.args.link s.read c.requires in
    search rules

pub returns : goal.returns
returns c =
    let s = c.args.self.now in
    let l = link_at s.schema.kinds s.words.now s.schema.place s.schema.links c.args.link s.read c.requires in
    let x = link_from s.schema.kinds s.words.now s.schema.place s.schema.links c.args.link _ s.read c.requires refl in
    let from = ap (λ p. p.0) c.ends_at.ensures ∙ x.0 in
    let to = ap (λ p. p.1) c.ends_at.ensures ∙ x.1 in
    record { from = from; to = to; from_known = rw from l.from_known; to_known = rw to l.to_known }
