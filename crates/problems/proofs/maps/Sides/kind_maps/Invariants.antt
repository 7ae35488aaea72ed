use Rattle.std.proofs.Common.{◌≡◌, ◌+◌, ◌-◌, Fits, w64, ltb}
use Rattle.words.specs.Items.{items, ended, one_word}
use Rattle.problems.specs.Held.{kind_mapped_in, kind_maps_in}
use Rattle.problems.proofs.maps.Sides.kind_maps.Given as goal

abbrev pub invariant-loop-kind : goal.invariant-loop-kind
invariant-loop-kind l =
    let at = l.start + l.kind in
    record {
      fits : Fits w64 at;
      told : ended one_word at (items one_word (λ left p. ltb 0 left) (kind_mapped_in l.self) (l.n - l.kind) at) ≡ ended one_word l.start (kind_maps_in l.self l.start);
    }
