use Rattle.words.specs.Words.{fields}
use Rattle.std.proofs.Common.{◌≡◌, ◌+◌, get_or, ◌%◌, sym, ap, ◌∙◌, rules}
use Rattle.rows.specs.View.{raw}
use Rattle.rows.proofs.Outline.{map_in, map_kind}
use Rattle.rows.proofs.Rows.mapped.Goals as goal

pub returns : goal.returns
returns c L st h =
    let inside = map_in L (raw c.args.self.now) c.args.found.now st c.args.k c.if-k-found.false in
    let e : c.saturating_add.result ≡ c.args.found.now.maps + c.args.k = search rules in
    map_kind L (raw c.args.self.now) c.args.found.now st c.args.k c.if-k-found.false ∙ sym (ap (λ v. v % 256) (c.fields_at.ensures ∙ ap (λ i. fields (get_or c.args.self.now.words.now i 0)) e))
