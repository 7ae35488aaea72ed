use Rattle.std.proofs.Common.{rules}
use Rattle.rows.specs.View.{raw}
use Rattle.numbering.proofs.Meeting.{New, next_below, next_new, numbered_more}
use Rattle.numbering.proofs.mark.Goals.{After-kind-kind}
use Rattle.numbering.proofs.mark.Goals as goal

new : (c : After-kind-kind) → New (raw c.args.rows.now) c.args.numbering.now c.kind-kind.result
new c = next_new (raw c.args.rows.now) c.args.numbering.now c.args.e c.requires c.kind-kind.result c.kind-kind.ensures

pub kind-kind-requires : goal.kind-kind-requires
kind-kind-requires c = next_below (raw c.args.rows.now) c.args.numbering.now c.args.e c.requires

pub bounds-numbering-kind : goal.bounds-numbering-kind
bounds-numbering-kind c = (new (goal.at.bounds-numbering-kind c).After-kind-kind).kind_small

pub at-slot-requires-clause-e_lt_capacity : goal.at-slot-requires-clause-e_lt_capacity
at-slot-requires-clause-e_lt_capacity c = (new (goal.at.at-slot-requires-clause-e_lt_capacity c).After-kind-kind).room

pub overflow_add-rows : goal.overflow_add-rows
overflow_add-rows c = let n = new (goal.at.overflow_add-rows c).After-kind-kind in search rules

pub overflow_add-numbering : goal.overflow_add-numbering
overflow_add-numbering c = let n = new (goal.at.overflow_add-numbering c).After-kind-kind in search rules

pub bounds-numbering-kind-2 : goal.bounds-numbering-kind-2
bounds-numbering-kind-2 c = (new (goal.at.bounds-numbering-kind-2 c).After-kind-kind).kind_small

pub returns : goal.returns
returns c = λ a xs m f.
    numbered_more a (raw c.args.rows.now) xs _ _ c.args.e m f c.kind-kind.result c.kind-kind.ensures c.at-at.result c.at-slot.result c.at-at.ensures.is c.at-slot.ensures.is
