use Rattle.std.proofs.Common.{◌≡◌, ◌*◌, ◌≤◌, length, take, sym, ap, ◌∙◌, arith, rules, length-take-le}
use Rattle.std.proofs.lemmas.List.{take_all}
use Rattle.streams.proofs.Ordered.{bytes_more, all_written}
use Rattle.streams.proofs.bytes.to_bytes.Goals as goal

pub loop-i-preserved : goal.loop-i-preserved
loop-i-preserved c = search (rules, bytes_more)

pub returns : goal.returns
returns c =
    let ws = c.args.words.now in
    let n = c.min.result in
    let i = c.loop-i.i in
    let m : n ≤ length ws = omega arith in
    let l = length-take-le n ws m in
    let e : i ≡ n = omega arith in
    let t : take i (take n ws) ≡ take i ws = ap (λ k. take k (take n ws)) e ∙ take_all n (take n ws) (omega arith) ∙ ap (λ k. take k ws) (sym e) in
    let w = all_written ws _ _ i n e m (rw t at c.loop-i.invariant) (λ k. omega (arith, c.type_inv.words k)) in
    rw l (record { count = ap (λ k. 4 * k) c.min.ensures; bytes = w.0; back = w.1 })
