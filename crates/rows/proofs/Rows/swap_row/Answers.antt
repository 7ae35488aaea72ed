use Rattle.std.proofs.Common.{◌≡◌, ℕ, ◌+◌, ap, ◌∙◌, arith}
use Rattle.rows.specs.Writes.{changed, swapped, over}
use Rattle.rows.specs.View.{raw, at}
use Rattle.rows.proofs.Writes.{changed_part}
use Rattle.rows.proofs.Places.{place_fits}
use Rattle.rows.proofs.Rows.swap_row.Goals as goal

pub returns : goal.returns
returns c =
    let t = c.args.self.now in
    let f = swapped c.args.old c.args.new in
    let last = place_fits t.base t.links t.capacity _ c.args.e (t.links + 2) t.fits.room (omega (arith, t.fits.few)) (omega arith) in
    let e : c.at-at.result + 3 ≡ at t c.args.e 3 = omega (arith, c.at-at.ensures.is) in
    ap (over (raw t)) (changed_part t.words.now _ _ _ t.links (omega arith) (omega arith) f c.swap.ensures ∙ ap (λ (n : ℕ). changed f t.words.now n t.links) e)
