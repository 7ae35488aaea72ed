use Rattle.std.proofs.Common.{◌≡◌, ℕ, ◌+◌, ◌∷◌, [], ◌++◌, map, length, slice_index, sym, ap, ◌∙◌, arith, length-append}
use Rattle.std.proofs.lemmas.List.{take_all, take_more, map-append}
use Rattle.bounded.specs.Listed.{listed}
use Rattle.registers.specs.Writing.{upto}
use Rattle.machine.specs.Loading.{sum}
use Rattle.rows.specs.declared.SourceKind.{SourceKind}
use Rattle.rows.specs.Sources.{kinds_of, counts_of, starts_of}
use Rattle.loading.proofs.LoadLists.{sum_none, sum_next, none_kept, upto_next}
use Rattle.loading.proofs.places.stack.Goals as goal

pub loop-records-init : goal.loop-records-init
loop-records-init c = record {
  size = ap length c.new-kinds.ensures;
  counts = ap (map (λ (k : SourceKind). k.records)) c.new-kinds.ensures;
  starts = ap (map (λ (k : SourceKind). k.start)) c.new-kinds.ensures ∙ none_kept (λ k. c.args.place + sum (slice_index c.args.counts.now) k);
  behind = omega (arith, sum_none (slice_index c.args.counts.now));
  low = omega arith;
}

pub loop-records-preserved : goal.loop-records-preserved
loop-records-preserved c =
    let i = c.loop-records.invariant in
    let s = sum_next (slice_index c.args.counts.now) c.loop-records.records-index in
    let f : ℕ → ℕ = λ k. c.args.place + sum (slice_index c.args.counts.now) k in
    let e = ap (map (λ (k : SourceKind). k.start)) c.push.ensures ∙ map-append (λ (k : SourceKind). k.start) (listed c.loop-records.kinds) _
    ∙ ap (λ xs. xs ++ c.loop-records.next ∷ []) i.starts ∙ ap (λ n. upto f c.loop-records.records-index ++ n ∷ []) i.behind ∙ sym (upto_next f c.loop-records.records-index) in
    let n = ap length c.push.ensures ∙ length-append (listed c.loop-records.kinds) _ ∙ ap (λ n. n + 1) i.size in
    let k = ap (map (λ (k : SourceKind). k.records)) c.push.ensures ∙ map-append (λ (k : SourceKind). k.records) (listed c.loop-records.kinds) _
    ∙ ap (λ xs. xs ++ slice_index c.args.counts.now c.loop-records.records-index ∷ []) i.counts ∙ sym (take_more c.args.counts.now c.loop-records.records-index 0 (omega arith)) in
    record { size = n; counts = k; starts = e; behind = omega arith; low = omega arith }

pub returns : goal.returns
unfolding kinds_of counts_of starts_of
returns c =
    let i = c.loop-records.invariant in
    let f : ℕ → ℕ = λ k. c.args.place + sum (slice_index c.args.counts.now) k in
    let n : c.loop-records.records-index ≡ length c.args.counts.now = omega arith in
    record { kinds = omega (arith, i.size); counts = i.counts ∙ take_all _ _ (omega arith); starts = i.starts ∙ ap (upto f) n; behind = i.behind ∙ ap f n }
