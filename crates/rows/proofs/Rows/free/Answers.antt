use Rattle.std.proofs.Common.{◌≡◌, is_some, Err, ap, ◌∙◌, rules}
use Rattle.words.specs.declared.faults.Refusal.TheVariants as refusal
use Rattle.rows.specs.View.{raw}
use Rattle.rows.proofs.Faults.{free_waiting, free_lost, free_filled, free_full, free_there}
use Rattle.rows.proofs.Rows.free.Goals as goal

pub returns-then-self-gt0 : goal.returns-then-self-gt0
returns-then-self-gt0 c = free_waiting (raw c.args.self.now) c.args.t _ c.if-self-gt0.true

pub returns-in_err-t : goal.returns-in_err-t
returns-in_err-t c =
    let e : c.from_residual.result ≡ Err refusal.NotLiving = search rules in
    e ∙ free_lost (raw c.args.self.now) c.args.t _ c.if-self-gt0.false c.in_err-t.ensures.ok_part

pub returns-then-is_some : goal.returns-then-is_some
returns-then-is_some c = free_filled (raw c.args.self.now) c.args.t _ c.if-self-gt0.false c.in_ok-t.t c.in_ok-t.ensures.ok_part (c.if-is_some.ensures ∙ ap is_some c.held.ensures)

pub returns-then-self : goal.returns-then-self
returns-then-self c = free_full (raw c.args.self.now) c.args.t _ c.if-self-gt0.false c.in_ok-t.t c.in_ok-t.ensures.ok_part (c.if-is_some.ensures ∙ ap is_some c.held.ensures) c.if-self.true

pub returns : goal.returns
returns c = free_there (raw c.args.self.now) c.args.t _ c.if-self-gt0.false c.in_ok-t.t c.in_ok-t.ensures.ok_part (c.if-is_some.ensures ∙ ap is_some c.held.ensures) c.if-self.false
