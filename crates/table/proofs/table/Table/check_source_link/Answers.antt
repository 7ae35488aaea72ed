use Rattle.std.proofs.Common.{ℕ, ap, ◌∙◌}
use Rattle.machine.specs.Checking.{link_effect}
use Rattle.machine.specs.Calls.{check_link, link_fault}
use Rattle.machine.specs.Tables.{answered, outcome, link_call}
use Rattle.table.specs.Tabled.{view_of}
use Rattle.table.proofs.After.{taken, holds, still, called}
use Rattle.table.proofs.table.Table.check_source_link.Goals as goal

pub lead-lead-requires : goal.lead-lead-requires
lead-lead-requires c = let t = c.args.self.now in ∣ (taken t _ c.in-Some.is, holds t _ c.in-Some.is) ∣₁

pub check_link-requires-clause-leading : goal.check_link-requires-clause-leading
check_link-requires-clause-leading c = let t = c.args.self.now in (taken t _ c.in-Some.is, c.lead-lead.ensures.led _ (holds t _ c.in-Some.is))

pub invariant_of-self-2 : goal.invariant_of-self-2
invariant_of-self-2 c =
    let t = c.args.self.now in
    let is = c.in-Some.is in
    still t _ is (check_link c.args.i c.lead-lead.result.q) _ (c.check_link.ensures.after _ (c.lead-lead.ensures.led _ (holds t _ is)))

pub returns : goal.returns
returns c =
    let t = c.args.self.now in
    let is = c.in-Some.is in
    let q = c.lead-lead.result.q in
    let l = c.lead-lead.ensures.led _ (holds t _ is) in
    let x = called t _ is (check_link c.args.i q) _ (c.check_link.ensures.after _ l)
    (λ L s. answered (link_fault L s c.args.i q) (outcome (link_effect L s c.args.i q))) _ (c.check_link.ensures.is _ l) in
    record { after = x.after ∙ ap (λ (n : ℕ). link_call c.args.i n (view_of t)) c.lead-lead.ensures.asked; kept = x.kept; promise = x.promise }
