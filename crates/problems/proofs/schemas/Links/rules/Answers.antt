use Rattle.std.proofs.Common.{◌<◌, length, sym, ap, ◌∙◌, arith}
use Rattle.std.proofs.lemmas.Result.{err_from_is_err_and}
use Rattle.bounded.specs.Listed.{listed}
use Rattle.words.specs.Items.{prepended}
use Rattle.problems.specs.Problem.{rule_size}
use Rattle.problems.specs.Held.{links_in}
use Rattle.problems.proofs.Ruling.{rule_room}
use Rattle.words.proofs.Items.{behind_ok, items_push, items_stop, items_done}
use Rattle.problems.proofs.schemas.Links.rules.Goals as goal

pub returns-in_err-next : goal.returns-in_err-next
returns-in_err-next c =
    let p = err_from_is_err_and c.from_residual.result c.from_residual.ensures.1 in
    let e = rw c.len.ensures.is at (sym c.rule.ensures ∙ c.in_err-next.was) in
    rw (p.1, p.2) (ap (prepended (listed c.loop-places.places)) (sym (items_stop _ _ _ _ _ _ (sym c.loop-places-test.ensures) e)) ∙ c.loop-places.invariant)

pub loop-places-preserved : goal.loop-places-preserved
loop-places-preserved c =
    let e = rw c.len.ensures.is at (sym c.rule.ensures ∙ c.in_ok-next.was) in
    let x = behind_ok rule_size _ _ _ e in
    let s = c.args.self.now in
    let w : length (listed c.loop-places.places) < 128 = omega (arith, rule_room s.schema.kinds (links_in s) s.words.now _ c.loop-places.at x.0 x.1) in
    rw c.push.ensures (items_push _ _ _ _ _ _ _ (sym c.loop-places-test.ensures) w e ∙ c.loop-places.invariant)

pub returns : goal.returns
returns c = sym (items_done _ _ _ _ _ _ (sym c.loop-places-test.ensures)) ∙ c.loop-places.invariant
