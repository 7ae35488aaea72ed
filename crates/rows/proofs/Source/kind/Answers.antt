use Rattle.std.proofs.Common.{sym, ap, ◌∙◌, unwrap_or}
use Rattle.std.proofs.Math.ListN.{get_or-map}
use Rattle.std.proofs.lemmas.Option.{unwrap_or-slice_get}
use Rattle.bounded.specs.Listed.{listed}
use Rattle.rows.specs.Sources.{counts_of, starts_of}
use Rattle.rows.specs.declared.SourceKind.{SourceKind}
use Rattle.rows.proofs.Source.kind.Goals as goal

pub returns : goal.returns
unfolding counts_of starts_of
returns c =
    let none : SourceKind = record { records = 0; start = 0 } in
    let ks = listed c.args.self.now.kinds in
    let e = c.unwrap_or.ensures ∙ ap (λ o. unwrap_or o none) c.get.ensures ∙ unwrap_or-slice_get ks c.args.k none in
    record {
      records = ap (λ (k : SourceKind). k.records) e ∙ sym (get_or-map (λ (k : SourceKind). k.records) ks c.args.k none);
      start = ap (λ (k : SourceKind). k.start) e ∙ sym (get_or-map (λ (k : SourceKind). k.start) ks c.args.k none);
    }
