use Rattle.std.proofs.Common.{None, sym, ap, ◌∙◌, arith}
use Rattle.machine.specs.State.{State, cell, hold}
use Rattle.machine.specs.Settling.{take_over, pull}
use Rattle.rows.specs.Layout.{Shape}
use Rattle.rows.specs.View.{raw, view}
use Rattle.rows.proofs.Keeps.{becomes_as, becomes_then, becomes_none}
use Rattle.rows.proofs.Settled.{end_is, pull_none, pull_some}
use Rattle.rows.proofs.Rows.pull.Goals as goal

pub take_over-requires : goal.take_over-requires
take_over-requires c =
    let s = view c.args.self.now in
    let n = ap (λ (z : State). z.given) c.empty.ensures.state in
    let l = ap (λ (z : Shape). z.links) c.empty.ensures.same.shape in
    let h = c.requires.tidy.given (cell c.args.v c.args.l) c.in-Some.content (sym c.cell.ensures ∙ c.in-Some.is) in
    let u = end_is s c.requires.tidy.lower c.args.v c.living_end-u.result c.living_end-u.ensures c.requires.v_lt_given in
    let w = end_is s c.requires.tidy.lower c.in-Some.content c.living_end-w.result c.living_end-w.ensures h in
    record { tidy = c.empty.ensures.tidy; u_lt_given = omega arith; l_lt_links = omega arith; w_lt_given = omega arith }

pub returns-in-Some : goal.returns-in-Some
returns-in-Some c =
    let f = hold (cell c.args.v c.args.l) None in
    let g = take_over c.living_end-u.result c.args.l c.living_end-w.result in
    becomes_as _ _ (λ s. g (f s)) (pull c.args.v c.args.l) (becomes_then _ _ _ f g c.empty.ensures c.take_over.ensures)
    (pull_some (view c.args.self.now) _ _ _ _ _ (sym c.cell.ensures ∙ c.in-Some.is) c.living_end-u.ensures c.living_end-w.ensures)

pub returns-in_default : goal.returns-in_default
returns-in_default c = becomes_as _ _ (λ s. s) (pull c.args.v c.args.l) (becomes_none (raw c.args.self.now) c.requires.tidy)
    (pull_none (view c.args.self.now) _ _ (sym c.cell.ensures ∙ c.in_default.is))
