use Rattle.std.proofs.Common.{◌≡◌, ℕ, List, length}
use Rattle.rows.specs.Layout.{Raw}
use Rattle.rows.specs.View.{raw}
use Rattle.numbering.specs.Marked.{Marked, Restored}
use Rattle.numbering.proofs.restore.Given as goal

abbrev pub invariant-loop-i : goal.invariant-loop-i
invariant-loop-i l = (a : Raw) (xs : List ℕ) → Marked a (raw l.initial.rows) xs → l.met ≡ length xs → Restored a (raw l.rows) xs l.i
