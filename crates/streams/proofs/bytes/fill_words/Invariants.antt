use Rattle.std.proofs.Common.{◌≡◌, ◌++◌, drop}
use Rattle.streams.specs.Order.{words_of}
use Rattle.streams.proofs.bytes.fill_words.Given as goal

abbrev pub invariant-loop-i : goal.invariant-loop-i
invariant-loop-i l = l.words ≡ words_of l.bytes l.i ++ drop l.i l.initial.words
