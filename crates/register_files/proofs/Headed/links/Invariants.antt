use Rattle.std.proofs.Common.{◌≡◌, ◌+◌, ◌-◌, length}
use Rattle.bounded.specs.Listed.{listed}
use Rattle.words.specs.declared.tags.Tag.TheVariants as tag
use Rattle.words.specs.Words.{starts}
use Rattle.words.specs.Items.{items, outlined, prepended}
use Rattle.register_files.specs.Register.{link, span, links_of}
use Rattle.register_files.specs.Outline.{counts_got}
use Rattle.register_files.proofs.Headed.links.Given as goal

abbrev pub invariant-loop-places : goal.invariant-loop-places
invariant-loop-places l =
    let ws = l.self.words.now in
    prepended (listed l.places) (outlined span l.at (items span (λ room p. starts tag.RegisterLink ws p) (link (counts_got ws) ws) (64 - length (listed l.places)) l.at))
    ≡ outlined span (1 + l.self.kinds) (links_of (counts_got ws) ws)

abbrev pub decreases-loop-places : goal.decreases-loop-places
decreases-loop-places l = length l.self.words.now - l.at
