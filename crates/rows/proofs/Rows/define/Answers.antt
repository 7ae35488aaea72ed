use Rattle.std.proofs.Common.{◌≡◌, ◌<◌, Err, refl, ap, ◌∙◌, rules}
use Rattle.machine.specs.Loaded.{Loaded}
use Rattle.machine.specs.Calls.{define, apply, define_fault}
use Rattle.rows.specs.Calls.{free}
use Rattle.rows.specs.Layout.{Carries}
use Rattle.rows.specs.View.{raw, view}
use Rattle.rows.proofs.Faults.{define_free, refused, refused_kept}
use Rattle.rows.proofs.Rows.define.Goals as goal

pub returns-in_err-t : goal.returns-in_err-t
returns-in_err-t c =
    let t = c.args.self.now in
    let told = λ (L : Loaded) (h : Carries L (raw t).shape) (f : c.args.l < t.links → L.from c.args.l ≡ c.args.from).
    c.in_err-t.ensures ∙ ap (λ o. free (view t) o t.capacity) c.then_some-t.ensures ∙ define_free L (raw t) h c.args.e c.args.l c.args.from f _ c.leaves.ensures in
    let e : c.from_residual.result ≡ Err c.in_err-t.field-0.0 = search rules in
    record {
      is = λ L h f. e ∙ refused (define_fault L (view t) c.args.e c.args.l) _ t.given _ (told L h f);
      after = λ L h f m. refused_kept (raw t) c.requires (define_fault L (view t) c.args.e c.args.l) _ _ (told L h f) (apply L (define c.args.e c.args.l)) _ refl;
    }
