use Rattle.std.proofs.Common.{◌∙◌}
use Rattle.registers.specs.Writing.{upto}
use Rattle.registers.proofs.WrittenLists.{upto_length}
use Rattle.loading.proofs.LoadLists.{zeros, put_part}
use Rattle.loading.proofs.copies.clear.Goals as goal

pub returns : goal.returns
returns c = put_part _ _ _ _ (upto (λ i. 0)) c.requires (upto_length _ _) (c.fill.ensures.after (λ y e. e) ∙ zeros _)
