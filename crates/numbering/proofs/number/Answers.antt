use Rattle.std.proofs.Common.{[], rules}
use Rattle.rows.specs.View.{raw}
use Rattle.numbering.proofs.Listing.{numbered_none, numbers_all, lists_all}
use Rattle.numbering.proofs.number.Goals as goal

pub invariant_of-count : goal.invariant_of-count
invariant_of-count c = record { counting = ∣ (raw c.args.rows.now, [], numbered_none (raw c.args.rows.now) c.requires) ∣₁ }

pub returns-clause-marked : goal.returns-clause-marked
returns-clause-marked c L k =
    let r = raw c.args.rows.now in
    let n = numbers_all r _ (raw c.visit_all.new.self.rows.now) _ _ c.visit_all.new.self.numbering (numbered_none r c.requires) c.meet_landings.ensures.grows c.visit_all.ensures.grows L k in
    search rules

pub returns-clause-listed : goal.returns-clause-listed
returns-clause-listed c L k =
    let r = raw c.args.rows.now in
    let n = lists_all r _ (raw c.visit_all.new.self.rows.now) _ _ c.visit_all.new.self.numbering (numbered_none r c.requires) c.meet_landings.ensures.grows c.visit_all.ensures.grows L k in
    search rules
