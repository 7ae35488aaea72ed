use Rattle.std.proofs.Common.{◌≡◌, ◌+◌, ◌-◌, ◌<◌, sym, ◌∙◌, arith}
use Rattle.words.specs.Items.{one_word}
use Rattle.std.proofs.lemmas.Result.{err_from_is_err_and}
use Rattle.words.proofs.Items.{behind_ok, count_turn, count_stop, count_done, plus_none}
use Rattle.problems.proofs.Paths.{link_told}
use Rattle.problems.proofs.schemas.count_links.Goals as goal

pub loop-at-init : goal.loop-at-init
loop-at-init c = let z : c.args.start - c.args.start ≡ 0 = omega arith in (omega arith, omega arith, rw z (plus_none _))

pub returns-in_err-at : goal.returns-in_err-at
returns-in_err-at c =
    let p = err_from_is_err_and c.from_residual.result c.from_residual.ensures.1 in
    let e = sym c.link.ensures ∙ c.in_err-at.was in
    rw (p.1, p.2) (sym (count_stop _ _ _ _ _ _ _ (sym c.loop-at-test.ensures) e) ∙ c.loop-at.invariant.2)

pub loop-at-preserved : goal.loop-at-preserved
loop-at-preserved c =
    let e = sym c.link.ensures ∙ c.in_ok-at.was in
    let x = behind_ok one_word _ _ _ e in
    let count = c.loop-at.at - c.args.start in
    let w : 0 < 64 - count = (link_told c.args.kinds c.args.words.now (64 - count) c.loop-at.at x.0 x.1).roomy in
    let h = c.loop-at.invariant.0 in
    let n : c.in_ok-at.at - c.args.start ≡ count + 1 = omega (arith, x.2) in
    (omega (arith, x.2), omega arith, rw n (count_turn _ _ _ _ _ _ _ (sym c.loop-at-test.ensures) (omega arith) e ∙ c.loop-at.invariant.2))

pub returns : goal.returns
returns c = sym (count_done _ _ _ _ _ _ (sym c.loop-at-test.ensures)) ∙ c.loop-at.invariant.2
