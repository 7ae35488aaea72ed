use Rattle.std.proofs.Common.{◌≡◌, ◌-◌}
use Rattle.words.specs.Items.{one_word, run, ended}
use Rattle.register_files.specs.Register.{counted}
use Rattle.register_files.proofs.records.Given as goal

abbrev pub invariant-loop-place : goal.invariant-loop-place
invariant-loop-place l = ended one_word l.place (run (counted l.size l.words) (l.last - l.place) l.place) ≡ ended one_word l.at (run (counted l.size l.words) l.n l.at)
