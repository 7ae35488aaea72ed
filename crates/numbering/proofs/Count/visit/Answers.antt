use Rattle.std.proofs.Common.{arith}
use Rattle.numbering.specs.Count.{seen}
use Rattle.numbering.proofs.Growing.{met_below, visits}
use Rattle.numbering.proofs.Count.visit.Goals as goal

pub read-e-requires-clause-e_lt_capacity : goal.read-e-requires-clause-e_lt_capacity
read-e-requires-clause-e_lt_capacity c = omega (arith, met_below (seen c.args.self.now) c.args.self.now.counting c.args.i c.requires, c.args.self.now.rows.now.fits.few)

pub returns : goal.returns
returns c = visits c.args.i c.read-e.result c.requires c.read-e.ensures c.meet_cells.ensures
