use Rattle.std.proofs.Common.{◌∙◌}
use Rattle.registers.proofs.Answering.{links_are}
use Rattle.registers.proofs.held.calls.HeldRegister.links.Goals as goal

pub returns : goal.returns
returns c = let h = c.args.self.now in c.len.ensures.is ∙ links_are h.words.now h.outline.kinds _ h.kinded h.placed
