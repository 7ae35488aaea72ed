use Rattle.std.proofs.Common.{◌≡◌, ◌-◌, ◌≤◌, length}
use Rattle.words.specs.declared.tags.Tag.TheVariants as tag
use Rattle.words.specs.Words.{starts}
use Rattle.words.specs.Items.{items, ended}
use Rattle.register_files.specs.Register.{landing, span, landings_of}
use Rattle.register_files.specs.Outline.{counts_got}
use Rattle.register_files.proofs.Headed.landings.Given as goal

abbrev pub invariant-loop-at : goal.invariant-loop-at
invariant-loop-at l =
    let ws = l.self.words.now in
    record {
      few : l.source ≤ 32;
      told : ended span l.at (items span (λ room p. starts tag.Landings ws p) (landing (counts_got ws) ws) (32 - l.source) l.at) ≡ ended span l.start (landings_of (counts_got ws) ws l.start);
    }

abbrev pub decreases-loop-at : goal.decreases-loop-at
decreases-loop-at l = length l.self.words.now - l.at
