use Rattle.std.proofs.Common.{ℕ, ◌+◌, ◌∷◌, [], ◌++◌, slice_index, length, sym, ap, ◌∙◌, arith}
use Rattle.loading.proofs.LoadLists.{sum_none, sum_next, none_kept, upto_next}
use Rattle.bounded.specs.Listed.{listed}
use Rattle.registers.specs.Writing.{upto}
use Rattle.registers.proofs.WrittenLists.{upto_length}
use Rattle.machine.specs.Loading.{sum}
use Rattle.loading.proofs.places.pile.Goals as goal

pub loop-size-init : goal.loop-size-init
loop-size-init c = record {
  size = ap length c.new-starts.ensures;
  starts = c.new-starts.ensures ∙ none_kept (λ k. c.args.place + sum (slice_index c.args.sizes.now) k);
  behind = omega (arith, sum_none (slice_index c.args.sizes.now));
  low = omega arith;
}

pub loop-size-preserved : goal.loop-size-preserved
loop-size-preserved c =
    let i = c.loop-size.invariant in
    let s = sum_next (slice_index c.args.sizes.now) c.loop-size.size-index in
    let f : ℕ → ℕ = λ k. c.args.place + sum (slice_index c.args.sizes.now) k in
    let e = c.push.ensures ∙ ap (λ xs. xs ++ c.loop-size.next ∷ []) i.starts ∙ ap (λ n. upto f c.loop-size.size-index ++ n ∷ []) i.behind ∙ sym (upto_next f c.loop-size.size-index) in
    record { size = ap length e ∙ upto_length f (c.loop-size.size-index + 1); starts = e; behind = omega arith; low = omega arith }
