use Rattle.std.proofs.Common.{Ok, sym, ap, ◌∙◌, arith}
use Rattle.std.proofs.lemmas.Result.{err_from_is_err_and}
use Rattle.words.specs.Items.{one_word, run, ended}
use Rattle.words.specs.Words.{worded}
use Rattle.words.proofs.Items.{run_turn, run_stop, run_done}
use Rattle.register_files.specs.Register.{count}
use Rattle.register_files.proofs.counts.Goals as goal

pub loop-place-init : goal.loop-place-init
loop-place-init c = ap (λ k. ended one_word 1 (run (count c.args.words.now) k 1)) (omega arith)

pub returns-in_err-word : goal.returns-in_err-word
returns-in_err-word c =
    let p = err_from_is_err_and c.from_residual.result c.from_residual.ensures.1 in
    let e = ap worded (sym c.word.ensures ∙ c.in_err-word.was) in
    rw (p.1, p.2) (sym (run_stop _ _ _ _ _ c.loop-place-test.true e) ∙ c.loop-place.invariant)

pub loop-place-preserved : goal.loop-place-preserved
loop-place-preserved c = run_turn _ _ _ _ _ c.loop-place-test.true (ap worded (sym c.word.ensures ∙ c.in_ok-word.was)) ∙ c.loop-place.invariant

pub returns : goal.returns
returns c = ap Ok (omega arith) ∙ sym (run_done _ _ _ c.loop-place.place c.loop-place-test.false) ∙ c.loop-place.invariant
