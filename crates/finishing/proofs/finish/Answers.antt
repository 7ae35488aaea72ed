use Rattle.machine.specs.Sequence.{sequence}
use Rattle.rows.specs.View.{raw, view}
use Rattle.finishing.proofs.AfterNumbering.{writes, writing}
use Rattle.finishing.proofs.finish.Goals as goal

pub invariant_of-listing : goal.invariant_of-listing
invariant_of-listing c =
    let L = c.requires.finishing.0 in
    let x = c.requires.finishing.1 in
    let n = c.number-numbering.ensures.marked L x.carries in
    record { writing = writing (raw c.args.rows.now) _ c.args.found.now _ _ L x n (c.number-numbering.ensures.listed L) }

pub restore-requires : goal.restore-requires
restore-requires c =
    let L = c.requires.finishing.0 in
    let n = c.number-numbering.ensures.marked L c.requires.finishing.1.carries in
    (raw c.args.rows.now, sequence L (view c.args.rows.now), n.marked, n.tallied.size)

pub returns : goal.returns
returns c =
    let L = c.requires.finishing.0 in
    let n = c.number-numbering.ensures.marked L c.requires.finishing.1.carries in
    record {
      answer = λ M x. c.write-answer.ensures M (view c.args.rows.now)
          (writes (raw c.args.rows.now) _ c.args.found.now _ _ M x (c.number-numbering.ensures.marked M x.carries) (c.number-numbering.ensures.listed M));
      after = c.restore.ensures (raw c.args.rows.now) (sequence L (view c.args.rows.now)) n.marked n.tallied.size;
    }
