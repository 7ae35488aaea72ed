use Rattle.std.proofs.Common.{◌≡◌, ◌-◌, ◌≤◌, length}
use Rattle.words.specs.Words.{starts}
use Rattle.words.specs.Items.{items, sized, one_word}
use Rattle.problems.specs.Problem.{link, links}
use Rattle.words.proofs.Items.{plus}
use Rattle.problems.proofs.schemas.count_links.Given as goal
use Rattle.words.specs.declared.tags.Tag.TheVariants as tag

abbrev pub invariant-loop-at : goal.invariant-loop-at
invariant-loop-at l =
    let count = l.at - l.start in
    (l.start ≤ l.at) × (count ≤ 64)
    × (plus count (sized (items one_word (λ room p. starts tag.Link l.words p) (link l.kinds l.words) (64 - count) l.at)) ≡ sized (links l.kinds l.words l.start))

abbrev pub decreases-loop-at : goal.decreases-loop-at
decreases-loop-at l = length l.words - l.at
