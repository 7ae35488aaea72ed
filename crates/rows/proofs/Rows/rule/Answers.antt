use Rattle.std.proofs.Common.{ap, ◌∙◌}
use Rattle.problems.specs.Tokens.{shown_token}
use Rattle.rows.specs.View.{raw}
use Rattle.rows.specs.Standing.{linked}
use Rattle.rows.proofs.Standing.{rule_stands}
use Rattle.rows.proofs.Rows.rule.Goals as goal

pub returns : goal.returns
returns c L st =
    ap linked c.parts_in.ensures ∙ rule_stands L (raw c.args.self.now) c.args.found.now st c.args.i (shown_token c.rule_at.result) c.rule_at.ensures.known
