use Rattle.std.proofs.Common.{◌≡◌, ◌<◌, arith}
use Rattle.numbering.specs.Count.{seen}
use Rattle.numbering.proofs.Growing.{met_below, meets_then, meets_given, rows_none, rows_more, rows_end}
use Rattle.numbering.proofs.Count.visit_all.Goals.{After-visit}
use Rattle.numbering.proofs.Count.visit_all.Goals as goal

pub loop-i-init : goal.loop-i-init
loop-i-init c = (rows_none (seen c.args.self.now), omega arith)

-- the entry that was visited was given, and the visit gives none
visited : (c : After-visit) → (c.loop-i.i < c.loop-i.self.rows.now.given) × (c.visit.new.self.rows.now.given ≡ c.loop-i.self.rows.now.given)
visited c = (met_below (seen c.loop-i.self) c.loop-i.self.counting c.loop-i.i c.loop-i-test.true, meets_given c.visit.ensures c.loop-i.self.counting)

pub loop-i-preserved : goal.loop-i-preserved
loop-i-preserved c =
    let v = visited (goal.at.loop-i-preserved c).After-visit in
    (meets_then _ _ _ c.loop-i.invariant.0 c.visit.ensures (rows_more c.loop-i.i), omega (arith, v.0, v.1))

pub loop-i-smaller : goal.loop-i-smaller
loop-i-smaller c = let v = visited (goal.at.loop-i-smaller c).After-visit in omega (arith, v.0, v.1)

pub returns : goal.returns
returns c = rows_end c.loop-i.i c.loop-i.invariant.0 c.loop-i-test.false c.loop-i.invariant.1
