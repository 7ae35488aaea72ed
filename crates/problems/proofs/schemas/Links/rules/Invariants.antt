use Rattle.std.proofs.Common.{◌≡◌, ◌-◌, length}
use Rattle.bounded.specs.Listed.{listed}
use Rattle.words.specs.Words.{starts}
use Rattle.words.specs.Items.{items, outlined, prepended}
use Rattle.problems.specs.Problem.{rule_size}
use Rattle.problems.specs.Held.{rule_in, rules_in}
use Rattle.problems.proofs.schemas.Links.rules.Given as goal
use Rattle.words.specs.declared.tags.Tag.TheVariants as tag

abbrev pub invariant-loop-places : goal.invariant-loop-places
invariant-loop-places l =
    prepended (listed l.places) (outlined rule_size l.at (items rule_size (λ room p. starts tag.Rule l.self.words.now p) (rule_in l.self) (128 - length (listed l.places)) l.at))
    ≡ outlined rule_size l.start (rules_in l.self l.start)

abbrev pub decreases-loop-places : goal.decreases-loop-places
decreases-loop-places l = length l.self.words.now - l.at
