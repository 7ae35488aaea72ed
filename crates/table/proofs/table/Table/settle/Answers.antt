use Rattle.std.proofs.Common.{◌<◌, arith}
use Rattle.machine.specs.Calls.{settle}
use Rattle.table.proofs.After.{taken, holds, first_known, still, called}
use Rattle.table.proofs.Asked.{settling, settling_told, idle}
use Rattle.table.proofs.Promises.{left}
use Rattle.table.proofs.table.Table.settle.Goals as goal

pub returns-then-self-eq0 : goal.returns-then-self-eq0
returns-then-self-eq0 c = let t = c.args.self.now in left t (idle t _ c.in_ok-loaded.ensures.1 c.if-self-eq0.true)

pub settle-requires-clause-first_known : goal.settle-requires-clause-first_known
settle-requires-clause-first_known c = first_known c.args.self.now _ c.in_ok-loaded.ensures.1 (omega (arith, c.if-self-eq0.false))

pub invariant_of-self : goal.invariant_of-self
invariant_of-self c =
    let t = c.args.self.now in
    let is = c.in_ok-loaded.ensures.1 in
    let some : 0 < t.rows.waits = omega (arith, c.if-self-eq0.false) in
    still t _ is settle _ (settling (taken t _ is) _ _ some (c.settle.ensures (taken t _ is) (holds t _ is).carries.links))

pub returns : goal.returns
returns c =
    let t = c.args.self.now in
    let is = c.in_ok-loaded.ensures.1 in
    let some : 0 < t.rows.waits = omega (arith, c.if-self-eq0.false) in
    let b = c.settle.ensures (taken t _ is) (holds t _ is).carries.links in
    called t _ is settle _ (settling (taken t _ is) _ _ some b) _ _ (settling_told (taken t _ is) _ _ some b)
