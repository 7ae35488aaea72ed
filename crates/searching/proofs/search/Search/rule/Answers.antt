use Rattle.std.proofs.Common.{rules, ◌∙◌}
use Rattle.searching.proofs.Rules.{rules_told}
use Rattle.searching.proofs.search.Search.rule.Goals as goal

pub returns : goal.returns
returns c L h e = let n = c.len.ensures.is ∙ rules_told _ _ _ h.stands in search rules
