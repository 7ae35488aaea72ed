use Rattle.std.proofs.Common.{length, ap}
use Rattle.rows.specs.Sources.{kinds_of}
use Rattle.table.proofs.Taken.{fits, opened}
use Rattle.table.proofs.table.Table.open.Goals as goal

pub invariant_of-rows : goal.invariant_of-rows
unfolding kinds_of
invariant_of-rows c = record { fits = fits c.args.words.now _ _ _ (ap length c.new.ensures) }

pub invariant_of-result : goal.invariant_of-result
unfolding kinds_of
invariant_of-result c = opened c.args.words.now _ _ _ (ap length c.new.ensures)
