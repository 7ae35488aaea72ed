use Rattle.std.proofs.Common.{◌≡◌, ℕ, map}
use Rattle.words.specs.Tags.{tagged}
use Rattle.registers.specs.Splices.{spliced}
use Rattle.registers.specs.Writing.{upto}
use Rattle.registers.specs.Parts.{Told}
use Rattle.registers.proofs.writing.each.put_each.Given as goal

abbrev pub invariant-loop-i : goal.invariant-loop-i
invariant-loop-i g l = (f : ℕ → ℕ) → Told (goal.F-post g l.fields) l.n f → l.out ≡ spliced l.at (map (tagged l.tag) (upto f l.i)) l.initial.out
