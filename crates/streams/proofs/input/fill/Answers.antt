use Rattle.std.proofs.Common.{◌≡◌, ℕ, ◌+◌, ◌-◌, ◌≤◌, List, ◌++◌, length, take, drop, sym, ap, ◌∙◌, subst, arith, le_refl, drop_at, length-take-le}
use Rattle.std.proofs.lemmas.Slice.{take-put_mid_below}
use Rattle.std.specs.Io.KnownBytes.{Consumes}
use Rattle.std.proofs.KnownBytes.{Consumes-trans}
use borrow.Rule.Slice.PartMut.{put_mid, post_of}
use lib.Seq.{take-add, take-append-le}
use Rattle.streams.proofs.input.fill.Goals as goal

-- the front grows by the first n that were put behind it
take-put_mid : (at k n : ℕ) (xs ys : List ℕ) → at ≤ length xs → n ≤ length ys → take (at + n) (put_mid at k xs ys) ≡ take at xs ++ take n ys
take-put_mid at k n xs ys within fits =
    take-add at n (put_mid at k xs ys)
    ∙ ap (λ l. l ++ take n (drop at (put_mid at k xs ys))) (take-put_mid_below _ _ _ _ _ (le_refl _) within)
    ∙ ap (λ l. take at xs ++ take n l) (drop_at (take at xs) (ys ++ post_of at k xs) at (length-take-le at xs within))
    ∙ ap (λ l. take at xs ++ l) (take-append-le n ys (post_of at k xs) fits)

pub loop-preserved : goal.loop-preserved
loop-preserved g c =
    let at = c.loop.count in
    let room = length c.loop.buffer - at in
    let fits = c.in_ok-got.ensures.bound.0 in
    let within : at ≤ length c.loop.buffer = omega arith in
    let size : length c.read.new.buf ≡ room = omega arith in
    record {
      room = omega arith;
      progress = omega arith;
      bytes = subst (Consumes _ _) (sym (take-put_mid at room c.in_ok-got.got c.loop.buffer c.read.new.buf within fits))
          (Consumes-trans _ _ _ _ _ c.loop.invariant.bytes c.in_ok-got.ensures.bytes.0);
    }
