use Rattle.std.proofs.Common.{sym, arith}
use Rattle.finishing.proofs.records.number_in.Goals as goal

pub read-requires-clause-e_lt_capacity : goal.read-requires-clause-e_lt_capacity
read-requires-clause-e_lt_capacity c = omega (arith, (c.requires c.in-Some.w (sym c.in-Some.ensures)).0, c.args.rows.now.fits.few)
