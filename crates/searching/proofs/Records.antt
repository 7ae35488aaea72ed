-- How many records a source link leaves.
use Rattle.std.proofs.Common.{◌≡◌, ℕ, ◌<◌, List, arith}
use Rattle.problems.specs.declared.Found.{Found}
use Rattle.machine.specs.Loaded.{Loaded}
use Rattle.rows.specs.Layout.{Raw, count}
use Rattle.rows.specs.Standing.{Holds}

pub from_counted : (L : Loaded) (r : Raw) (f : Found) (leads : List ℕ) → Holds L r f leads → (i : ℕ) → i < L.source_links → (from : ℕ) → L.source_from i ≡ from → count r.shape from ≡ L.count (L.source_from i)
from_counted L r f leads h i here from q = let a = h.accepted.from_in i here in let known : from < r.shape.kinds = omega (arith, h.carries.kinds) in rw q (cc (h.carries.counts from known))
