use Rattle.std.proofs.Common.{◌<◌, length, sym, ◌∙◌, arith}
use Rattle.std.proofs.lemmas.Result.{err_from_is_err_and}
use Rattle.words.proofs.Single.{word_told}
use Rattle.problems.specs.Held.{links_in}
use Rattle.problems.proofs.Paths.{path_step, path_stop, step_told, stepped_ok, stepped_err}
use Rattle.problems.proofs.schemas.Links.path.Goals as goal
use Rattle.words.specs.declared.tags.Tag.TheVariants as tag

pub returns-in_err-here : goal.returns-in_err-here
returns-in_err-here c =
    let p = err_from_is_err_and c.from_residual.result c.from_residual.ensures.1 in
    let s = c.args.self.now in
    let e = stepped_err (links_in s) s.words.now c.loop-place.here c.loop-place.place _ (sym c.step.ensures ∙ c.in_err-here.was) in
    rw (p.1, p.2) (sym (path_stop _ _ _ _ _ _ _ c.loop-place-test.true e) ∙ c.loop-place.invariant.1)

pub loop-place-preserved : goal.loop-place-preserved
loop-place-preserved c =
    let s = c.args.self.now in
    let e = stepped_ok (links_in s) s.words.now c.loop-place.here c.loop-place.place _ (sym c.step.ensures ∙ c.in_ok-here.was) in
    let t = step_told (links_in s) s.words.now c.loop-place.here c.loop-place.place e.0 e.1 in
    let w : c.loop-place.place < length s.words.now = (word_told tag.Step s.words.now c.loop-place.place e.0 t.0).inside in
    (omega arith, path_step _ _ _ _ _ _ _ _ c.loop-place-test.true e.1 e.2 ∙ c.loop-place.invariant.1)
