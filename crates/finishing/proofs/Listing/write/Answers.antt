use mathlib.Core.List.{is_set}
use mathlib.Core.Logic.{∥∥₁_elim}
use native.Mathlib.Nat.{ℕ_set}
use native.Mathlib.Bridge.{le_prop}
use Rattle.std.proofs.Common.{arith}
use Rattle.finishing.proofs.FileParts.{file_refused, file_told}
use Rattle.finishing.proofs.Listing.write.Goals as goal

pub returns-then-size-out : goal.returns-then-size-out
returns-then-size-out c L s x = file_refused L s c.args.out.now (∥∥₁_elim x le_prop (λ w. let e = c.size.ensures L s w in omega arith))

pub returns : goal.returns
returns c L s x =
    file_told L s c.args.out.now _ _ (∥∥₁_elim x le_prop (λ w. let e = c.size.ensures L s w in omega arith))
    (∥∥₁_elim x (ℕ_set _ _) (c.put_file.ensures.size L s)) (∥∥₁_elim x (is_set ℕ_set _ _) (c.put_file.ensures.words L s))
