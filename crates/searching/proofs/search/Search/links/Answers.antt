use Rattle.std.proofs.Common.{◌≤◌, rules}
use Rattle.std.proofs.Math.Bridge.{le_prop}
use Rattle.std.proofs.Math.Logic.{∥∥₁_elim}
use Rattle.rows.proofs.Outline.{source_few, source_links_are}
use Rattle.searching.proofs.search.Search.links.Goals as goal

pub overflow_cast-self : goal.overflow_cast-self
overflow_cast-self c = let few : c.args.self.now.load.now.found.source.links ≤ 64 = ∥∥₁_elim c.args.self.now.holding le_prop (λ x. source_few _ _ _ x.1.stands) in search rules

pub returns : goal.returns
returns c L h = let n = source_links_are _ _ _ h.stands in search rules
