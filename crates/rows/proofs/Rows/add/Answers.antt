use Rattle.std.proofs.Common.{◌≡◌, ◌+◌, length, set, arith, length-set}
use Rattle.rows.specs.View.{raw}
use Rattle.rows.proofs.Writes.{emptied_part}
use Rattle.rows.proofs.Places.{place_fits}
use Rattle.rows.proofs.Keeps.{becomes_added}
use Rattle.rows.proofs.Rows.add.Goals as goal

pub returns-clause-after : goal.returns-clause-after
returns-clause-after c =
    let t = c.args.self.now in
    let last = place_fits t.base t.links t.capacity _ t.given (t.links + 2) t.fits.room c.requires.given_lt_capacity (omega arith) in
    let ws = set (set t.words.now c.at-at.result c.args.k) (c.at-at.result + 1) t.given in
    let size : length ws ≡ length t.words.now = simp length-set in
    becomes_added (raw t) c.requires.tidy c.args.k c.at-at.result _ c.requires.given_lt_capacity c.at-at.ensures.is
    (emptied_part ws _ _ _ t.links (omega (arith, c.at-at.ensures.is)) (omega arith) (c.fill.ensures.after (λ y e. e)))
