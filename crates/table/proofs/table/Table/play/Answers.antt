use Rattle.std.proofs.Common.{sym, ◌∙◌}
use Rattle.table.specs.Tabled.{view_of}
use Rattle.table.proofs.Played.{goes, ends_here}
use Rattle.table.proofs.table.Table.play.Goals as goal

pub loop-next-smaller : goal.loop-next-smaller
loop-next-smaller c = (goes c.loop-next.going.left c.loop-next.going.done (view_of c.loop-next.self) (view_of c.step.new.self) c.in-Going.next.left c.in-Going.next.done c.in-Going.ensures.after).1

pub loop-next-preserved : goal.loop-next-preserved
loop-next-preserved c = (
  c.loop-next.invariant.0 ∙ (goes c.loop-next.going.left c.loop-next.going.done (view_of c.loop-next.self) (view_of c.step.new.self) c.in-Going.next.left c.in-Going.next.done c.in-Going.ensures.after).0,
  c.in-Going.ensures.kept ∙ c.loop-next.invariant.1,
)

pub returns-in-Ended : goal.returns-in-Ended
returns-in-Ended c = record {
  after = ends_here c.loop-next.going.left c.loop-next.going.done (view_of c.loop-next.self) (view_of c.step.new.self) c.in-Ended.ending c.in-Ended.steps c.in-Ended.ensures.after ∙ sym c.loop-next.invariant.0;
  kept = c.in-Ended.ensures.kept ∙ c.loop-next.invariant.1;
  promise = c.in-Ended.ensures.promise;
}
