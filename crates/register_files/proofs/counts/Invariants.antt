use Rattle.std.proofs.Common.{◌≡◌, ◌-◌}
use Rattle.words.specs.Items.{one_word, run, ended}
use Rattle.register_files.specs.Register.{count}
use Rattle.register_files.proofs.counts.Given as goal

abbrev pub invariant-loop-place : goal.invariant-loop-place
invariant-loop-place l = ended one_word l.place (run (count l.words) (l.last - l.place) l.place) ≡ ended one_word 1 (run (count l.words) l.n 1)
