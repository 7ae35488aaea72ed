use Rattle.std.proofs.Common.{sym, refl}
use Rattle.bounded.specs.Listed.{listed}
use Rattle.register_files.proofs.Files.{all_read}
use Rattle.register_files.proofs.outlined.Goals as goal

pub returns : goal.returns
returns c =
    all_read c.args.words.now c.in_ok-kinds.kinds c.in_ok-links.next c.in_ok-last.last c.in_ok-end.field-0 _ (listed c.in_ok-links.links)
    (sym c.in_ok-kinds.ensures) (sym c.in_ok-links.ensures) (sym c.in_ok-last.ensures) (sym c.in_ok-end.ensures) refl
