use Rattle.std.proofs.Common.{arith}
use Rattle.registers.specs.Splices.{spliced}
use Rattle.std.proofs.lemmas.Grind.{common_steps}
use Rattle.loading.proofs.copies.put_words.Goals as goal

pub returns : goal.returns
unfolding spliced
returns c = grind (arith, common_steps)
