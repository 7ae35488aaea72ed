use Rattle.std.proofs.Common.{◌<◌, length, sym, ap, ◌∙◌, arith, length-append}
use Rattle.std.proofs.lemmas.Result.{err_from_is_err_and}
use Rattle.bounded.specs.Listed.{listed}
use Rattle.words.specs.Items.{prepended}
use Rattle.words.proofs.Items.{items_push, items_stop, items_done, more_left, none_left}
use Rattle.problems.proofs.maps.Maps.link_maps.Goals as goal

pub returns-in_err-next : goal.returns-in_err-next
returns-in_err-next c =
    let p = err_from_is_err_and c.from_residual.result c.from_residual.ensures.1 in
    let e = rw (← c.loop-link.invariant.0) at (sym c.link_map.ensures ∙ c.in_err-next.was) in
    rw (p.1, p.2) (ap (prepended (listed c.loop-link.places)) (sym (items_stop _ _ _ _ _ _ (more_left _ _ (omega arith)) e)) ∙ c.loop-link.invariant.1)

pub loop-link-preserved : goal.loop-link-preserved
loop-link-preserved c =
    let e = rw (← c.loop-link.invariant.0) at (sym c.link_map.ensures ∙ c.in_ok-next.was) in
    let h : length (listed c.loop-link.places) < c.args.self.now.sides.source.schema.links = omega arith in
    rw c.push.ensures (length-append (listed c.loop-link.places) _ ∙ omega arith, items_push _ _ _ _ _ _ _ (more_left _ _ h) h e ∙ c.loop-link.invariant.1)

pub returns : goal.returns
returns c = sym (items_done _ _ _ _ _ _ (none_left _ _ (omega arith))) ∙ c.loop-link.invariant.1
