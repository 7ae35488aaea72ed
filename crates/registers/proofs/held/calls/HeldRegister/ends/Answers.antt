use Rattle.std.proofs.Common.{◌/◌, ◌%◌, Some, sym, ap, ◌∙◌}
use Rattle.registers.proofs.Answering.{link_past, ends_got}
use Rattle.registers.proofs.held.calls.HeldRegister.ends.Goals as goal

pub returns-in_err-place : goal.returns-in_err-place
returns-in_err-place c =
    let h = c.args.self.now in
    c.from_residual.ensures ∙ sym (h.lawful.unknown_link c.args.link (link_past h.words.now h.outline.kinds _ h.kinded h.placed c.args.link (sym c.get.ensures ∙ c.in_err-place.was)))

pub returns : goal.returns
returns c =
    let h = c.args.self.now in
    ap (λ v. Some (v / 256, v % 256)) c.fields_at-fields.ensures
    ∙ ends_got h.words.now h.outline.kinds _ h.kinded h.placed c.args.link c.in_ok-place.place (sym c.get.ensures ∙ c.in_ok-place.was)
