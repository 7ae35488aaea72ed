use Rattle.std.proofs.Common.{Ok, sym, ap, ◌∙◌, arith}
use Rattle.std.proofs.lemmas.Result.{err_from_is_err_and}
use Rattle.words.specs.Items.{one_word, run, ended}
use Rattle.words.proofs.Items.{run_turn, run_stop, run_done}
use Rattle.register_files.specs.Register.{counted}
use Rattle.register_files.proofs.records.Goals as goal

pub loop-place-init : goal.loop-place-init
loop-place-init c = ap (λ k. ended one_word c.args.at (run (counted c.args.size c.args.words.now) k c.args.at)) (omega arith)

pub returns-in_err-counted : goal.returns-in_err-counted
returns-in_err-counted c =
    let p = err_from_is_err_and c.from_residual.result c.from_residual.ensures.1 in
    let e = sym c.counted.ensures ∙ c.in_err-counted.was in
    rw (p.1, p.2) (sym (run_stop _ _ _ _ _ c.loop-place-test.true e) ∙ c.loop-place.invariant)

pub loop-place-preserved : goal.loop-place-preserved
loop-place-preserved c = run_turn _ _ _ _ _ c.loop-place-test.true (sym c.counted.ensures ∙ c.in_ok-counted.was) ∙ c.loop-place.invariant

pub returns : goal.returns
returns c = ap Ok (omega arith) ∙ sym (run_done _ _ _ c.loop-place.place c.loop-place-test.false) ∙ c.loop-place.invariant
