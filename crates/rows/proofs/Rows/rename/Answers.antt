use Rattle.std.proofs.Common.{sym, ◌∙◌, rules}
use Rattle.rows.specs.View.{raw, slot}
use Rattle.rows.proofs.SweepSteps.{new_number, renames_slot}
use Rattle.rows.proofs.Rows.rename.Goals as goal

pub overflow_add-self : goal.overflow_add-self
overflow_add-self c =
    let h = new_number (raw c.args.self.now) c.requires.still c.requires.forward_ranked (slot c.args.t) c.requires.has c.in-Some.w c.read-n.result
    (sym c.held.ensures ∙ c.in-Some.is) c.read-n.ensures in
    search rules

pub returns-in-Some : goal.returns-in-Some
returns-in-Some c =
    let n = renames_slot (raw c.args.self.now) c.requires.still c.requires.forward_ranked (slot c.args.t) c.requires.has c.in-Some.w c.read-n.result c.place-at.result
    (sym c.held.ensures ∙ c.in-Some.is) c.read-n.ensures c.place-at.ensures.is in
    record { goes = n.0; ranked = n.1 }
