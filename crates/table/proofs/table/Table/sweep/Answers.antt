use Rattle.std.proofs.Common.{arith}
use Rattle.machine.specs.Calls.{sweep}
use Rattle.table.proofs.After.{taken, held_live, still, called}
use Rattle.table.proofs.Asked.{sweeping, sweeping_told, busy}
use Rattle.table.proofs.Promises.{left}
use Rattle.table.proofs.table.Table.sweep.Goals as goal

pub returns-then-self-gt0 : goal.returns-then-self-gt0
returns-then-self-gt0 c = let t = c.args.self.now in left t (busy t _ c.in_ok-loaded.ensures.1 c.if-self-gt0.true)

pub sweep-requires-clause-live : goal.sweep-requires-clause-live
sweep-requires-clause-live c = held_live c.args.self.now _ c.in_ok-loaded.ensures.1 (omega (arith, c.if-self-gt0.false))

pub invariant_of-self : goal.invariant_of-self
invariant_of-self c =
    let t = c.args.self.now in
    let is = c.in_ok-loaded.ensures.1 in
    still t _ is sweep _ (sweeping (taken t _ is) _ _ c.if-self-gt0.false c.sweep.ensures.becomes)

pub returns : goal.returns
returns c =
    let t = c.args.self.now in
    let is = c.in_ok-loaded.ensures.1 in
    let b = sweeping (taken t _ is) _ _ c.if-self-gt0.false c.sweep.ensures.becomes in
    called t _ is sweep _ b _ _ (sweeping_told (taken t _ is) _ _ c.if-self-gt0.false c.sweep.ensures.becomes _ c.sweep.ensures.dropped)
