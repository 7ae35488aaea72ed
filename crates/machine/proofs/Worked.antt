-- The table of worked examples, by one computation.
use Rattle.std.proofs.Common.{refl}
use Rattle.words.specs.Items.{items}
use Rattle.registers.specs.Writing.{upto, some_below, lowest as lowest_below}
use Rattle.machine.specs.Loading.{sum}
use Rattle.machine.specs.Merging.{chase, meet}
use Rattle.machine.specs.Walking.{walk}
use Rattle.machine.specs.Settling.{drain, pull, take_over}
use Rattle.machine.specs.Sweeping.{rank, pick}
use Rattle.machine.specs.Shift.{step, shift, lowest}
use Rattle.machine.specs.Sequence.{member, nth, of_kind, of_landings, of_cells, grown}
use Rattle.machine.specs.Finish.{tally, before, entry_in}
use Rattle.machine.specs.Worked.{told, cases, Worked}

pub worked : Worked
unfolding told cases upto some_below lowest_below items sum chase meet walk drain pull take_over rank pick step shift lowest member nth of_kind of_landings of_cells grown tally before entry_in
worked = refl
