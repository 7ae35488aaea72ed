use Rattle.std.proofs.Common.{length}
use Rattle.rows.proofs.Rows.+walk.Given as goal

abbrev pub decreases-walk : goal.decreases-walk
decreases-walk l = length l.path.now
