use Rattle.std.proofs.Common.{◌-◌, length, get_or, length-take-le, ap, ◌∙◌, arith, ltb-false, ltb-true}
use Rattle.words.specs.Words.{fields}
use Rattle.rows.specs.View.{view}
use Rattle.rows.specs.Walks.{side_of}
use Rattle.rows.proofs.Walks.{walk_empty, side_far, side_near}
use Rattle.rows.proofs.Rows.side.Goals as goal

pub returns-in-empty : goal.returns-in-empty
returns-in-empty c = ap side_of (walk_empty (view c.args.self.now).held c.args.path.now c.args.e (omega (arith, ltb-true)))

pub returns-in-None : goal.returns-in-None
returns-in-None c = side_far (view c.args.self.now).held c.args.path.now c.args.e (omega (arith, ltb-false)) c.in-None.ensures

pub returns-in-Some : goal.returns-in-Some
returns-in-Some c =
    let p = c.args.path.now in
    let n = length-take-le (length p - 1) p (omega arith) in
    c.step.ensures
    ∙ side_near (view c.args.self.now).held p c.args.e c.in-Some.x c.fields_at.result (omega (arith, ltb-false)) c.in-Some.ensures (c.fields_at.ensures ∙ ap (λ i. fields (get_or p i 0)) n)
