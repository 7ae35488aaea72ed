use Rattle.std.proofs.Common.{rules}
use Rattle.problems.specs.Held.{words_in}
use Rattle.problems.proofs.Mapping.{map_inside, map_is}
use Rattle.problems.proofs.maps.Maps.target_of.Goals as goal

pub overflow_add-self : goal.overflow_add-self
overflow_add-self c =
    let m = c.args.self.now in
    let w = map_inside m.sides.source.schema.kinds m.sides.target.schema.kinds (words_in m.sides) m.place c.args.kind m.read c.requires in
    search rules

pub returns : goal.returns
returns c =
    let m = c.args.self.now in
    map_is m.sides.source.schema.kinds m.sides.target.schema.kinds (words_in m.sides) m.place c.args.kind c.fields_at.result m.read c.requires c.fields_at.ensures
