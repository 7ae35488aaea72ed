use Rattle.std.proofs.Common.{◌-◌, ◌<◌, sym, ◌∙◌, arith}
use Rattle.std.proofs.lemmas.Result.{err_from_is_err_and}
use Rattle.register_files.specs.Outline.{counts_got}
use Rattle.register_files.proofs.Parts.{landing_room}
use Rattle.words.proofs.Items.{behind_ok, ended_turn, ended_stop, ended_done}
use Rattle.register_files.proofs.Headed.landings.Goals as goal

pub returns-in_err-at : goal.returns-in_err-at
returns-in_err-at c =
    let p = err_from_is_err_and c.from_residual.result c.from_residual.ensures.1 in
    let e = sym c.landing.ensures ∙ c.in_err-at.was in
    rw (p.1, p.2) (sym (ended_stop _ _ _ _ _ _ (sym c.loop-at-test.ensures) e) ∙ c.loop-at.invariant.told)

pub loop-at-preserved : goal.loop-at-preserved
loop-at-preserved c =
    let ws = c.args.self.now.words.now in
    let e = sym c.landing.ensures ∙ c.in_ok-at.was in
    let w = let x = behind_ok _ _ _ _ e in landing_room (counts_got ws) ws (32 - c.loop-at.source) c.loop-at.at x.0 x.1 in
    let h : c.loop-at.source < 32 = omega (arith, w) in
    record { few = omega arith; told = ended_turn _ _ _ _ _ _ _ (sym c.loop-at-test.ensures) h e ∙ c.loop-at.invariant.told }

pub returns : goal.returns
returns c = sym (ended_done _ _ _ _ _ (sym c.loop-at-test.ensures)) ∙ c.loop-at.invariant.told
