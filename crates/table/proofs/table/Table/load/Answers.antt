use Rattle.table.proofs.Promises.{promised}
use Rattle.table.proofs.Taken.{kept, promise}
use Rattle.table.proofs.table.Table.load.Goals as goal

pub invariant_of-self-2 : goal.invariant_of-self-2
invariant_of-self-2 g c = kept _ _ _ c.in_ok-taken.taken c.load.new.words c.in_ok-taken.ensures c.load.auto.words

pub returns-then-is_some-clause-promise : goal.returns-then-is_some-clause-promise
returns-then-is_some-clause-promise g c = promised c.args.self.now

pub returns-clause-promise : goal.returns-clause-promise
returns-clause-promise g c = promise _ _ _ c.in_ok-taken.taken c.load.new.words c.in_ok-taken.ensures c.load.auto.words
