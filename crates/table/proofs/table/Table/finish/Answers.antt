use Rattle.std.proofs.Common.{◌≡◌, sym, arith}
use Rattle.rows.specs.View.{raw}
use Rattle.words.specs.declared.faults.Refusal.TheVariants as refusal
use Rattle.table.proofs.After.{taken, holds, unchanged, view_same, origin_same}
use Rattle.table.proofs.Finished.{refused, while_waiting, incomplete, may_count, may_finish, accepted, back}
use Rattle.table.proofs.Promises.{promised_by}
use Rattle.table.proofs.table.Table.finish.Goals as goal

pub returns-then-self-gt0 : goal.returns-then-self-gt0
returns-then-self-gt0 c = let t = c.args.self.now in refused t refusal.Waiting _ (while_waiting t _ c.in-Some.is c.if-self-gt0.true _)

pub next-requires : goal.next-requires
next-requires c = let t = c.args.self.now in (taken t _ c.in-Some.is, holds t _ c.in-Some.is)

pub returns-then-is_some : goal.returns-then-is_some
returns-then-is_some c =
    let t = c.args.self.now in
    let is = c.in-Some.is in
    refused t refusal.Incomplete _ (incomplete t _ is (omega (arith, c.if-self-gt0.false)) _ (c.next.ensures _ (holds t _ is)) (sym c.if-is_some.ensures) _)

pub finish-requires : goal.finish-requires
finish-requires c =
    let t = c.args.self.now in
    let is = c.in-Some.is in
    let quiet : t.rows.waits ≡ 0 = omega (arith, c.if-self-gt0.false) in
    let o = c.next.ensures _ (holds t _ is) in
    let none = sym c.if-is_some.ensures in
    record { countable = may_count t _ is quiet _ o none; finishing = (taken t _ is, may_finish t _ is quiet _ o none) }

pub invariant_of-self-2 : goal.invariant_of-self-2
invariant_of-self-2 c = unchanged c.args.self.now _ c.in-Some.is (raw c.finish.new.rows) c.finish.ensures.after

pub returns : goal.returns
returns c =
    let t = c.args.self.now in
    let is = c.in-Some.is in
    let quiet : t.rows.waits ≡ 0 = omega (arith, c.if-self-gt0.false) in
    let o = c.next.ensures _ (holds t _ is) in
    let none = sym c.if-is_some.ensures in
    let put = c.finish.ensures.answer _ (may_finish t _ is quiet _ o none) in
    let b = raw c.finish.new.rows in
    record {
      answer = accepted t _ is quiet _ o none _ _ _ put;
      same = view_same t _ is b c.finish.ensures.after;
      kept = origin_same t _ is b (λ s. s) c.finish.ensures.after;
      promise = promised_by t.load b (unchanged t _ is b c.finish.ensures.after).reached;
      back = back t _ is quiet _ o none _ _ _ put;
    }
