use Rattle.std.proofs.Common.{◌∙◌, ap}
use Rattle.problems.specs.Tokens.{token_in}
use Rattle.problems.proofs.Tokening.{rule_kept}
use Rattle.problems.proofs.rule_at.Goals as goal

pub returns-clause-known : goal.returns-clause-known
returns-clause-known c = λ t. c.token_in.ensures ∙ ap (λ ps. token_in c.args.words.now ps c.args.i) c.as_slice.ensures ∙ rule_kept c.args.words.now c.args.found.now t c.args.i
