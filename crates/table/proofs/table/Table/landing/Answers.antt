use Rattle.std.proofs.Common.{Ok, ap, ◌∙◌}
use Rattle.table.proofs.Asked.{landing_asked}
use Rattle.table.proofs.table.Table.landing.Goals as goal

pub returns-then-has : goal.returns-then-has
returns-then-has c = ap Ok c.landing.ensures ∙ landing_asked c.args.self.now _ c.in_ok-loaded.ensures.1 c.args.k c.args.q _ c.if-has.ensures

pub returns-else-has : goal.returns-else-has
returns-else-has c = landing_asked c.args.self.now _ c.in_ok-loaded.ensures.1 c.args.k c.args.q _ c.if-has.ensures
