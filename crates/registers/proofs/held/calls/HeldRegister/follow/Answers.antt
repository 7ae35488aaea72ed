use Rattle.std.proofs.Common.{Some, sym, ap, ◌∙◌, rules}
use Rattle.registers.proofs.Answering.{link_past, follow_inside, follow_gives, follow_stops}
use Rattle.registers.proofs.held.calls.HeldRegister.follow.Goals as goal

pub returns-in_err-place : goal.returns-in_err-place
returns-in_err-place c =
    let h = c.args.self.now in
    c.from_residual.ensures ∙ sym (h.lawful.leads_unknown c.args.link c.args.record (link_past h.words.now h.outline.kinds _ h.kinded h.placed c.args.link (sym c.get.ensures ∙ c.in_err-place.was)))

pub returns-then-record-count : goal.returns-then-record-count
returns-then-record-count c =
    let h = c.args.self.now in
    follow_stops h.words.now h.outline.kinds _ h.kinded h.placed c.args.link c.args.record c.count.result _ c.in_ok-from.ensures c.count.ensures c.if-record-count.true

pub overflow_add-place : goal.overflow_add-place
overflow_add-place c =
    let h = c.args.self.now in
    let w = follow_inside h.words.now h.outline.kinds _ h.kinded h.placed c.args.link c.args.record c.count.result c.in_ok-place.place (c.in_ok-from.from, c.in_ok-from.field-0-1)
    (sym c.get.ensures ∙ c.in_ok-place.was) c.in_ok-from.ensures c.count.ensures c.if-record-count.false in
    search rules

pub overflow_add-place-2 : goal.overflow_add-place-2
overflow_add-place-2 c =
    let h = c.args.self.now in
    let w = follow_inside h.words.now h.outline.kinds _ h.kinded h.placed c.args.link c.args.record c.count.result c.in_ok-place.place (c.in_ok-from.from, c.in_ok-from.field-0-1)
    (sym c.get.ensures ∙ c.in_ok-place.was) c.in_ok-from.ensures c.count.ensures c.if-record-count.false in
    search rules

pub returns : goal.returns
returns c =
    let h = c.args.self.now in
    ap Some c.fields_at.ensures
    ∙ follow_gives h.words.now h.outline.kinds _ h.kinded h.placed c.args.link c.args.record c.count.result c.in_ok-place.place _
    (sym c.get.ensures ∙ c.in_ok-place.was) c.in_ok-from.ensures c.count.ensures c.if-record-count.false
