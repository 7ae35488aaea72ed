use Rattle.std.proofs.Common.{Ok, sym, ap, ◌∙◌, add_assoc, arith}
use Rattle.std.proofs.lemmas.Result.{err_from_is_err_and}
use Rattle.words.proofs.Items.{behind_ok, ended_turn, ended_stop, ended_done, more_left, none_left}
use Rattle.problems.proofs.maps.Sides.kind_maps.Goals as goal

pub returns-in_err-kind_map : goal.returns-in_err-kind_map
returns-in_err-kind_map c =
    let p = err_from_is_err_and c.from_residual.result c.from_residual.ensures.1 in
    let e = sym c.kind_map.ensures ∙ c.in_err-kind_map.was in
    rw (p.1, p.2) (sym (ended_stop _ _ _ _ _ _ (more_left _ _ c.loop-kind-test.true) e) ∙ c.loop-kind.invariant.told)

pub loop-kind-preserved : goal.loop-kind-preserved
loop-kind-preserved c =
    let b = sym c.kind_map.ensures ∙ c.in_ok-kind_map.was in
    let next = (behind_ok _ _ _ _ b).2 in
    let e = b ∙ ap Ok (next ∙ add_assoc c.args.start c.loop-kind.kind 1) in
    let h = c.loop-kind-test.true in
    record { fits = omega (arith, next); told = ended_turn _ _ _ _ _ _ _ (more_left _ _ h) h e ∙ c.loop-kind.invariant.told }

pub returns : goal.returns
returns c = ap Ok (omega arith) ∙ sym (ended_done _ _ _ _ _ (none_left _ _ c.loop-kind-test.false)) ∙ c.loop-kind.invariant.told
