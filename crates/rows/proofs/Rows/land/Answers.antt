use Rattle.std.proofs.Common.{refl, ap, ◌∙◌}
use Rattle.machine.specs.Calls.{land, apply, land_fault}
use Rattle.rows.specs.Calls.{free}
use Rattle.rows.specs.View.{raw, view}
use Rattle.rows.proofs.Faults.{land_free, refused_kept}
use Rattle.rows.proofs.Rows.land.Goals as goal

pub returns-in_err-t-clause-after : goal.returns-in_err-t-clause-after
returns-in_err-t-clause-after c L h m =
    let t = c.args.self.now in
    let told = c.in_err-t.ensures ∙ ap (λ o. free (view t) o t.capacity) c.then_some.ensures ∙ land_free L (raw t) h c.args.k c.args.q _ c.has.ensures in
    refused_kept (raw t) c.requires (land_fault L (view t) c.args.k c.args.q) _ _ told (apply L (land c.args.k c.args.q)) _ refl
