use Rattle.std.proofs.Common.{refl}
use Rattle.machine.specs.Calls.{check_link, apply, link_fault}
use Rattle.rows.specs.View.{raw, view}
use Rattle.rows.proofs.Faults.{refused_kept}
use Rattle.rows.proofs.Checks.{link_acts}
use Rattle.rows.proofs.Rows.check_link.Goals as goal

pub act-requires-clause-named : goal.act-requires-clause-named
act-requires-clause-named c =
    let L = c.requires.leading.0 in
    let l = c.requires.leading.1 in
    link_acts L (raw c.args.self.now) c.requires.tidy c.args.found.now c.args.i c.args.lead l _ (c.in_ok-what.ensures L l)

pub returns-in_err-what-clause-after : goal.returns-in_err-what-clause-after
returns-in_err-what-clause-after c L l =
    let t = c.args.self.now in
    refused_kept (raw t) c.requires.tidy (link_fault L (view t) c.args.i c.args.lead.q) _ _ (c.in_err-what.ensures L l) (apply L (check_link c.args.i c.args.lead.q)) _ refl
