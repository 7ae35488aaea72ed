use Rattle.std.proofs.Common.{sym, ◌∙◌, arith}
use Rattle.register_files.proofs.Parts.{kinds_code}
use Rattle.register_files.proofs.kinds.Goals as goal

pub returns : goal.returns
returns c =
    kinds_code _ _ _ (sym c.word.ensures ∙ c.in_ok-n.was) (omega arith) (sym c.counts.ensures ∙ c.in_ok-counts.was)
