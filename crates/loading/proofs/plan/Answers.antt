use Rattle.std.proofs.Common.{◌≡◌, length, sym, ◌+◌, ◌-◌, ◌/◌, ◌≤◌, min, refl, ap, ◌∙◌, arith}
use Rattle.machine.specs.Loading.{sum}
use Rattle.registers.specs.Writing.{upto}
use Rattle.loading.specs.LoadedWords.{problem_in, leaving}
use Rattle.loading.proofs.LoadLists.{sized, stacked, piled_behind, piled_size}
use Rattle.loading.proofs.LoadSource.{sourced, refused_shape, refused_large, refused_leads, refused_memory, planned}
use Rattle.loading.proofs.plan.Goals as goal

pub invariant_of-offer : goal.invariant_of-offer
invariant_of-offer g c = record { sourced = sourced _ c.in_ok-found.found c.in_ok-found.ensures.told }

pub returns-then-other_shape : goal.returns-then-other_shape
returns-then-other_shape g c = refused_shape _ c.in_ok-found.found c.in_ok-found.ensures.told _ _ c.if-other_shape.ensures.answer

pub returns-then-records-gt4095 : goal.returns-then-records-gt4095
returns-then-records-gt4095 g c =
    refused_large _ c.in_ok-found.found c.in_ok-found.ensures.told _ _ c.if-other_shape.ensures.answer _ (piled_size _ _ _ _ c.counts-counts.ensures _ c.stack-next.ensures.behind) c.if-records-gt4095.true

pub returns-in-Some : goal.returns-in-Some
returns-in-Some g c =
    refused_leads _ c.in_ok-found.found c.in_ok-found.ensures.told _ _ c.if-other_shape.ensures.answer _ (piled_size _ _ _ _ c.counts-counts.ensures _ c.stack-next.ensures.behind)
    c.if-records-gt4095.false c.in-Some.link c.in-Some.ensures

pub returns-in_default-checked_sub : goal.returns-in_default-checked_sub
returns-in_default-checked_sub g c =
    let f = leaving (problem_in c.args.problem.now) (g.R.Register.meaning c.args.source.now).count in
    let b : c.pile-base.result.1 ≡ c.stack-next.result.1 + sum f c.in_ok-found.found.source.links = piled_behind _ _ _ _ c.leavings.ensures _ c.pile-base.ensures.behind in
    let h : c.pile-base.result.1 ≤ c.args.work → ⊥ = λ q. c.in_default-checked_sub.ensures (omega (arith, q)) in
    refused_memory _ c.in_ok-found.found c.in_ok-found.ensures.told _ _ c.if-other_shape.ensures.answer _ (piled_size _ _ _ _ c.counts-counts.ensures _ c.stack-next.ensures.behind)
    c.if-records-gt4095.false c.in_default.ensures c.pile-base.result.1 (omega (arith, c.stack-next.ensures.behind)) (omega arith)

pub returns : goal.returns
returns g c =
    let m = g.R.Register.meaning c.args.source.now in
    let k = c.stack-next.ensures.kinds ∙ sized _ _ (length c.args.problem.now) _ c.counts-counts.ensures in
    let r : c.in-Some-checked_sub.room ≡ c.args.work - c.pile-base.result.1 = omega (arith, c.in-Some-checked_sub.ensures.1) in
    planned c.args.work c.args.problem.now m _ c.in_ok-found.ensures.told c.stack-next.result.1
    c.other_shape.ensures.lawful c.if-other_shape.ensures.answer refl k
    (c.stack-next.ensures.counts ∙ c.counts-counts.ensures ∙ ap (upto m.count) (sym k))
    (c.stack-next.ensures.starts ∙ stacked _ _ _ _ c.counts-counts.ensures ∙ ap (upto (λ i. length c.args.problem.now + sum m.count i)) (sym k))
    (piled_behind _ _ _ _ c.counts-counts.ensures _ c.stack-next.ensures.behind ∙ ap (λ n. length c.args.problem.now + sum m.count n) (sym k)) refl c.if-records-gt4095.false c.in_default.ensures
    (c.pile-base.ensures.starts ∙ stacked _ _ _ _ c.leavings.ensures) (piled_behind _ _ _ _ c.leavings.ensures _ c.pile-base.ensures.behind) (omega (arith, c.in-Some-checked_sub.ensures.0)) refl
    (c.entries.ensures ∙ ap (λ r. min 65535 (r / (c.in_ok-found.found.target.links + 3))) r)
