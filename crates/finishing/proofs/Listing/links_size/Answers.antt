use Rattle.std.proofs.Common.{◌≡◌, length, sym, ap, ◌∙◌, arith}
use Rattle.finishing.specs.Records.{appended}
use Rattle.finishing.specs.Written.{link_part}
use Rattle.finishing.proofs.Appended.{appended_none, appended_length}
use Rattle.finishing.proofs.Listing.links_size.Goals as goal

pub loop-l-init : goal.loop-l-init
loop-l-init c = (λ L s w. sym (appended_none (link_part L s)), omega arith)

pub loop-l-preserved : goal.loop-l-preserved
loop-l-preserved c = (
  λ L s w.
      let n = appended_length (link_part L s) c.loop-l.l in
      let i = c.loop-l.invariant.0 L s w in
      let e = c.link_size-total.ensures.words L s w in
      omega arith,
  omega (arith, c.loop-l.invariant.1, c.link_size-total.ensures.fits),
)

pub returns-clause-words : goal.returns-clause-words
returns-clause-words c L s w =
    let e : c.loop-l.l ≡ c.args.self.now.rows.now.links = omega arith in
    c.loop-l.invariant.0 L s w ∙ ap (λ l. length (appended (link_part L s) l)) e
