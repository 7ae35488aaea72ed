-- What stands in the words once the entries are numbered.
use Rattle.std.proofs.Common.{ℕ, List, ap, arith}
use mathlib.Core.Logic.{∥∥₁_map}
use Rattle.problems.specs.declared.Found.{Found}
use Rattle.machine.specs.Loaded.{Loaded}
use Rattle.machine.specs.Sequence.{sequence}
use Rattle.rows.specs.Layout.{Raw, Shape, Same, shown}
use Rattle.rows.specs.Standing.{Stands}
use Rattle.rows.proofs.Bridge.{same_carries}
use Rattle.rows.proofs.Places.{copied_low}
use Rattle.rows.proofs.Standing.{same_stands}
use Rattle.numbering.specs.Listed.{Listed}
use Rattle.numbering.specs.Marked.{Ready, Numbered}
use Rattle.finishing.specs.Written.{Writes, Writing, Finishes}

module _ (a b : Raw) (f : Found) (met : ℕ) (counts : List ℕ) (L : Loaded) (x : Finishes L a f) (n : Numbered a b (sequence L (shown a)) met counts) where
  same : Same a b
  same =
      let k = n.marked.kept in
      let shape = ap (λ (z : Raw). z.shape) k.numbers in
      record {
        shape = shape;
        size = k.size;
        copies = λ i c. k.low i (omega (arith, copied_low a k.from.tidy.fits i c, ap (λ (h : Shape). h.base) shape));
      }

  still_stands : Stands L b f
  still_stands = same_stands L a b f same x.stands

  pub writes : (Ready L a → Listed L (shown a) b met counts) → ∥ Writes L (shown a) b f met counts ∥₁
  writes lists = ∥∥₁_map x.ready (λ y. record { stands = still_stands; carries = same_carries L a b same x.carries; listed = lists y })

  pub writing : (Ready L a → Listed L (shown a) b met counts) → Writing b f met counts
  writing lists = ∥∥₁_map (writes lists) (λ y. (L, shown a, y))
