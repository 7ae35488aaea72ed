use Rattle.std.proofs.Common.{◌≡◌, ◌-◌, ltb, length}
use Rattle.bounded.specs.Listed.{listed}
use Rattle.words.specs.Items.{items, outlined, prepended}
use Rattle.problems.specs.Problem.{path_size}
use Rattle.problems.specs.Held.{link_mapped_in, link_maps_in}
use Rattle.problems.proofs.maps.Maps.link_maps.Given as goal

abbrev pub invariant-loop-link : goal.invariant-loop-link
invariant-loop-link l =
    (length (listed l.places) ≡ l.link)
    × (prepended (listed l.places) (outlined path_size l.at (items path_size (λ left p. ltb 0 left) (link_mapped_in l.self) (l.self.sides.source.schema.links - length (listed l.places)) l.at))
    ≡ outlined path_size l.start (link_maps_in l.self l.start))
