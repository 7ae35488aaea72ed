use Rattle.std.proofs.Common.{rules}
use Rattle.streams.proofs.Ordered.{words_more}
use Rattle.streams.proofs.bytes.fill_words.Goals as goal

pub loop-i-preserved : goal.loop-i-preserved
loop-i-preserved c = search (rules, words_more)
