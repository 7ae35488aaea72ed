-- What the tests of a load tell where they pass.
use Rattle.std.proofs.Common.{◌≡◌, ℕ, ◌<◌, false, ltb, Some, None, Option, unwrap_or, refl}
use Rattle.std.proofs.lemmas.Bool.{not-false, ltb-true}
use Rattle.registers.specs.Writing.{astray}

-- a lead that is not astray leads to one of the first n records
pub lead_told : (n : ℕ) (o : Option ℕ) → astray n o ≡ false → (o ≡ Some (unwrap_or o 0)) × (unwrap_or o 0 < n)
lead_told n None e = absurd (cc)
lead_told n (Some r) e = (refl, ltb-true r n (not-false (ltb r n) e))
