use Rattle.std.proofs.Common.{sym, refl, ap, ◌∙◌, subst}
use mathlib.Core.Logic.{∥∥₁_elim}
use native.Mathlib.Nat.{ℕ_set}
use Rattle.bounded.specs.Listed.{listed}
use Rattle.rows.specs.declared.paths.Lead.{Lead}
use Rattle.rows.specs.View.{raw}
use Rattle.rows.specs.Standing.{Leads}
use Rattle.rows.proofs.Leads.{leads_so, asks}
use Rattle.rows.proofs.Rows.lead.Goals as goal

pub returns : goal.returns
returns c = record {
  led = λ L x. subst (Leads L (raw c.args.self.now) c.args.load.now.found c.args.i) (sym c.unwrap_or.ensures)
      (leads_so L (raw c.args.self.now) c.args.load.now.found (listed c.args.load.now.leads) x c.args.i c.args.q _ (c.source_ends-from.ensures L x.stands) _ (c.led.ensures L x));
  asked = ∥∥₁_elim c.requires (ℕ_set _ _) (λ h. ap (λ (y : Lead). y.q) c.unwrap_or.ensures ∙ asks h.0 c.args.i c.args.q _ refl _ (c.led.ensures h.0 h.1));
}
