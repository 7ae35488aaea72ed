use Rattle.std.proofs.Common.{◌≡◌, ◌+◌, ◌*◌, ◌≤◌, length, take, map, slice_index}
use Rattle.bounded.specs.Listed.{listed}
use Rattle.registers.specs.Writing.{upto}
use Rattle.machine.specs.Loading.{sum}
use Rattle.rows.specs.declared.SourceKind.{SourceKind}
use Rattle.loading.proofs.places.stack.Given as goal

abbrev pub invariant-loop-records : goal.invariant-loop-records
invariant-loop-records l = record {
  size : length (listed l.kinds) ≡ l.records-index;
  counts : map (λ (k : SourceKind). k.records) (listed l.kinds) ≡ take l.records-index l.counts;
  starts : map (λ (k : SourceKind). k.start) (listed l.kinds) ≡ upto (λ k. l.place + sum (slice_index l.counts) k) l.records-index;
  behind : l.next ≡ l.place + sum (slice_index l.counts) l.records-index;
  low : l.next ≤ l.place + l.records-index * 4294967296;
}
