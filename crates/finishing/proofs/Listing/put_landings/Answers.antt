use Rattle.std.proofs.Common.{◌≡◌, ap, ◌∙◌, add-one, arith}
use Rattle.registers.specs.Splices.{spliced}
use Rattle.machine.specs.Loading.{sum}
use Rattle.rows.specs.Layout.{count}
use Rattle.rows.specs.View.{raw}
use Rattle.rows.proofs.Places.{sum_more}
use Rattle.finishing.specs.Records.{appended, landing_part}
use Rattle.finishing.proofs.Appended.{appended_start, appended_put}
use Rattle.finishing.proofs.FileParts.{landings_length}
use Rattle.finishing.proofs.Known.{kinds_landed}
use Rattle.finishing.proofs.Listing.put_landings.Goals as goal

pub loop-k-init : goal.loop-k-init
unfolding sum
loop-k-init c = (omega arith, λ L s w. appended_start (λ k. landing_part (raw c.args.self.now.rows.now) (L.kind_map k) k) c.args.at c.args.out.now)

pub put_landing-next-requires : goal.put_landing-next-requires
put_landing-next-requires c =
    let h = (raw c.args.self.now.rows.now).shape in
    let k = kinds_landed c.args.self.now.writing in
    let n = sum_more (count h) h.kinds c.loop-k.k (omega arith) in
    let t = c.args.self.now.rows.now.fits.total in
    let i = c.loop-k.invariant.0 in
    record { k_lt_kinds = omega arith; k_in_bounds = omega arith }

pub loop-k-preserved : goal.loop-k-preserved
unfolding sum
loop-k-preserved c =
    let e = ap (sum (count (raw c.args.self.now.rows.now).shape)) (add-one c.loop-k.k) in
    let i = c.loop-k.invariant.0 in (
      omega arith,
      λ L s w.
          let n = landings_length (raw c.args.self.now.rows.now) L.kind_map c.loop-k.k in
          appended_put (λ k. landing_part (raw c.args.self.now.rows.now) (L.kind_map k) k) c.args.at c.loop-k.next c.loop-k.k _ _ _ (omega arith) (omega arith) (c.loop-k.invariant.1 L s w) (c.put_landing-next.ensures.words L s w),
    )

pub returns : goal.returns
returns c =
    let h = (raw c.args.self.now.rows.now).shape in
    let e : c.loop-k.k ≡ h.kinds = omega (arith, kinds_landed c.args.self.now.writing) in
    record {
      next = c.loop-k.invariant.0 ∙ (let p = ap (sum (count h)) e in let t = c.args.self.now.rows.now.fits.total in omega arith);
      words = λ L s w. c.loop-k.invariant.1 L s w ∙ ap (λ n. spliced c.args.at (appended (λ k. landing_part (raw c.args.self.now.rows.now) (L.kind_map k) k) n) c.args.out.now) e;
    }
