use Rattle.std.proofs.Common.{◌∙◌}
use Rattle.registers.proofs.Answering.{count_is, count_none}
use Rattle.registers.proofs.held.calls.HeldRegister.count.Goals as goal

pub returns-then-kind-self : goal.returns-then-kind-self
returns-then-kind-self c = let h = c.args.self.now in c.fields_at.ensures ∙ count_is h.words.now h.outline.kinds _ h.kinded h.placed c.args.kind c.if-kind-self.true

pub returns-else-kind-self : goal.returns-else-kind-self
returns-else-kind-self c = let h = c.args.self.now in count_none h.words.now h.outline.kinds _ h.kinded h.placed c.args.kind c.if-kind-self.false
