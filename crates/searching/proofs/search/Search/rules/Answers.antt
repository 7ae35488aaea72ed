use Rattle.std.proofs.Common.{◌≡◌, arith}
use Rattle.searching.proofs.Lowest.{no_rule}
use Rattle.searching.proofs.Rules.{rules_told}
use Rattle.searching.proofs.search.Search.rules.Goals as goal

pub returns-then-len-eq0 : goal.returns-then-len-eq0
returns-then-len-eq0 c L h =
    let told = rules_told _ _ _ h.stands in
    let n : L.rules ≡ 0 = omega (arith, c.len.ensures.is, told, c.if-len-eq0.true) in
    no_rule _ n _ _ _
