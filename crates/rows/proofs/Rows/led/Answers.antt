use Rattle.std.proofs.Common.{◌≡◌, ℕ, ◌+◌, Some, get_or, rules, subst, sym}
use Rattle.bounded.specs.Listed.{listed}
use Rattle.rows.specs.View.{raw}
use Rattle.rows.specs.Standing.{lead_of}
use Rattle.rows.proofs.Leads.{begins, lead_place, lead_is, lead_none}
use Rattle.rows.proofs.Rows.led.Goals as goal

pub returns-then-not-has : goal.returns-then-not-has
returns-then-not-has c L x = lead_none L (raw c.args.self.now) _ _ x c.args.i c.args.q _ c.in_ok-from.ensures _ c.has.ensures c.if-not-has.true

pub overflow_add-at : goal.overflow_add-at
overflow_add-at c = let h = lead_place (raw c.args.self.now) _ _ c.requires c.args.i c.args.q _ c.in_ok-from.ensures _ c.has.ensures c.if-not-has.false _ _ c.unwrap_or.ensures c.get.ensures in search rules

pub offset_bounds-self-at : goal.offset_bounds-self-at
offset_bounds-self-at c = let h = lead_place (raw c.args.self.now) _ _ c.requires c.args.i c.args.q _ c.in_ok-from.ensures _ c.has.ensures c.if-not-has.false _ _ c.unwrap_or.ensures c.get.ensures in search rules

pub bounds-self-at : goal.bounds-self-at
bounds-self-at c = lead_place (raw c.args.self.now) _ _ c.requires c.args.i c.args.q _ c.in_ok-from.ensures _ c.has.ensures c.if-not-has.false _ _ c.unwrap_or.ensures c.get.ensures

pub returns : goal.returns
returns c L x =
    let P : ℕ → Type 0 = λ n. Some (record { from = c.in_ok-from.from; q = c.args.q; to = c.in_ok-from.to; led = get_or c.args.self.now.words.now (n + c.args.q) 0 }) ≡ lead_of L c.args.i c.args.q in
    subst P (sym (begins (listed c.args.load.now.leads) c.args.i _ _ c.unwrap_or.ensures c.get.ensures))
    (lead_is L (raw c.args.self.now) _ _ x c.args.i c.args.q _ c.in_ok-from.ensures _ c.has.ensures c.if-not-has.false)
