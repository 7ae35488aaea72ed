use Rattle.std.proofs.Common.{◌<◌, length, sym, ap, ◌∙◌, arith}
use Rattle.bounded.specs.Listed.{listed}
use Rattle.std.proofs.lemmas.Result.{err_from_is_err_and}
use Rattle.words.specs.Items.{prepended}
use Rattle.register_files.specs.Outline.{counts_got}
use Rattle.register_files.specs.Register.{span}
use Rattle.register_files.proofs.Parts.{link_room}
use Rattle.words.proofs.Items.{behind_ok, items_push, items_stop, items_done}
use Rattle.register_files.proofs.Files.{links_start}
use Rattle.register_files.proofs.Headed.links.Goals as goal

pub loop-places-init : goal.loop-places-init
loop-places-init c = let h = c.args.self.now in links_start h.words.now h.kinds _ h.counted c.new-places.ensures

pub returns-in_err-next : goal.returns-in_err-next
returns-in_err-next c =
    let p = err_from_is_err_and c.from_residual.result c.from_residual.ensures.1 in
    let e = rw c.len.ensures.is at (sym c.link.ensures ∙ c.in_err-next.was) in
    rw (p.1, p.2) (ap (prepended (listed c.loop-places.places)) (sym (items_stop _ _ _ _ _ _ (sym c.loop-places-test.ensures) e)) ∙ c.loop-places.invariant)

pub loop-places-preserved : goal.loop-places-preserved
loop-places-preserved c =
    let ws = c.args.self.now.words.now in
    let e = rw c.len.ensures.is at (sym c.link.ensures ∙ c.in_ok-next.was) in
    let x = behind_ok span _ _ _ e in
    let w : length (listed c.loop-places.places) < 64 = omega (arith, link_room (counts_got ws) ws _ c.loop-places.at x.0 x.1) in
    rw c.push.ensures (items_push _ _ _ _ _ _ _ (sym c.loop-places-test.ensures) w e ∙ c.loop-places.invariant)

pub returns : goal.returns
returns c = sym (items_done _ _ _ _ _ _ (sym c.loop-places-test.ensures)) ∙ c.loop-places.invariant
