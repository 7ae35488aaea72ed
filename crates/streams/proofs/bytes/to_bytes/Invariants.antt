use Rattle.std.proofs.Common.{◌≡◌, ◌*◌, ◌++◌, take, drop}
use Rattle.streams.specs.Order.{bytes_of}
use Rattle.streams.proofs.bytes.to_bytes.Given as goal

abbrev pub invariant-loop-i : goal.invariant-loop-i
invariant-loop-i l = l.bytes ≡ bytes_of (take l.i l.front) ++ drop (4 * l.i) l.initial.bytes
