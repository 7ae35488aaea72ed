use Rattle.std.proofs.Common.{◌≡◌, sym, ◌∙◌, arith}
use Rattle.std.proofs.lemmas.Bool.Decides.{nat_tests}
use Rattle.machine.proofs.Base.{chase_fix, end_forward}
use Rattle.rows.specs.View.{view}
use Rattle.rows.proofs.Rows.living_end.Goals as goal

pub loop-f-preserved : goal.loop-f-preserved
loop-f-preserved c =
    let s = view c.args.self.now in
    let i = c.loop-f.invariant in
    let h = c.requires.tidy.lower c.loop-f.x in
    (omega arith, c.forward-f-in-loop-f.ensures, rw i.1 (end_forward s.forward c.requires.tidy.lower c.loop-f.x ∙ i.2))

pub returns : goal.returns
returns c =
    let i = c.loop-f.invariant in
    let own : c.loop-f.f ≡ c.loop-f.x = grind (arith, nat_tests) in
    sym (chase_fix (view c.args.self.now).forward c.loop-f.x c.loop-f.x (sym i.1 ∙ own)) ∙ i.2
