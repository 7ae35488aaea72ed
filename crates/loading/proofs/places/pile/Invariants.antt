use Rattle.std.proofs.Common.{◌≡◌, ◌+◌, ◌*◌, ◌≤◌, length, slice_index}
use Rattle.bounded.specs.Listed.{listed}
use Rattle.registers.specs.Writing.{upto}
use Rattle.machine.specs.Loading.{sum}
use Rattle.loading.proofs.places.pile.Given as goal

abbrev pub invariant-loop-size : goal.invariant-loop-size
invariant-loop-size l = record {
  size : length (listed l.starts) ≡ l.size-index;
  starts : listed l.starts ≡ upto (λ k. l.place + sum (slice_index l.sizes) k) l.size-index;
  behind : l.next ≡ l.place + sum (slice_index l.sizes) l.size-index;
  low : l.next ≤ l.place + l.size-index * 4294967296;
}
