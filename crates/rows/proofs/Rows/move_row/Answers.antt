use Rattle.std.proofs.Common.{◌+◌, ◌-◌, arith}
use Rattle.rows.specs.View.{raw}
use Rattle.rows.proofs.SweepMoves.{goes_move}
use Rattle.rows.proofs.Rows.move_row.Goals as goal

pub returns : goal.returns
returns c =
    let t = c.args.self.now in
    let p = c.copy_within.ensures.by_index in
    goes_move (raw t) c.requires.still c.args.e c.args.k c.requires.e_lt_given c.requires.k_le_e c.copy_within.new.self c.at-from.result c.at-to.result
    (c.at-from.result + (t.links + 3) - c.at-from.result) c.at-from.ensures.is c.at-to.ensures.is (omega arith)
    (record { size = c.copy_within.ensures.len; there = λ i. p.0 i 0; below = λ i. p.1 i 0; above = λ i. p.2 i 0 })
