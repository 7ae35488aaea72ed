use Rattle.std.proofs.Common.{◌≡◌, Err, sym, ap, ◌∙◌, rules}
use Rattle.words.specs.declared.faults.Refusal.TheVariants as refusal
use Rattle.rows.specs.View.{raw}
use Rattle.rows.specs.Standing.{shown_parts, linked, shown_found}
use Rattle.rows.proofs.Checks.{rule_waiting, rule_lost, rule_dead, rule_found}
use Rattle.rows.proofs.Rows.rule_found.Goals as goal

pub returns-then-self-gt0 : goal.returns-then-self-gt0
returns-then-self-gt0 c L st = rule_waiting L (raw c.args.self.now) c.args.e c.args.i c.if-self-gt0.true

pub returns-in_err-first : goal.returns-in_err-first
returns-in_err-first c L st =
    let e : c.from_residual.result ≡ Err refusal.NotLiving = search rules in
    ap shown_found e ∙ rule_lost L (raw c.args.self.now) c.args.e c.args.i c.if-self-gt0.false (ap (λ o. linked (shown_parts o)) (sym c.in_err-first.ensures.ok_part) ∙ c.rule.ensures L st)

pub returns-then-not-lives_as : goal.returns-then-not-lives_as
returns-then-not-lives_as c L st = rule_dead L (raw c.args.self.now) c.args.e c.args.i c.if-self-gt0.false _
    (ap (λ o. linked (shown_parts o)) (sym c.in_ok-first.ensures.ok_part) ∙ c.rule.ensures L st) c.if-not-lives_as.ensures

pub returns : goal.returns
returns c L st = rule_found L (raw c.args.self.now) c.args.e c.args.i c.if-self-gt0.false _
    (ap (λ o. linked (shown_parts o)) (sym c.in_ok-first.ensures.ok_part) ∙ c.rule.ensures L st) c.if-not-lives_as.ensures _ c.rule_effect.ensures
