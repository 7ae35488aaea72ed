-- What a bounded list holds.
use Rattle.std.specs.Prelude.{ℕ, List, take}
use Rattle.bounded.specs.declared.Bounded.{Bounded}

abbrev pub listed : {T : Type 0} {N : ℕ} → Bounded T N → List T
listed b = take b.len b.items
