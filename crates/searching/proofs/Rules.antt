-- How many rules the problem in a table's own words has.
use Rattle.std.proofs.Common.{◌≡◌, ℕ, suc, ◌+◌, List, [], ◌∷◌, length, Ok, Err, Result, sym, refl, ap, ◌∙◌}
use Rattle.bounded.specs.Listed.{listed}
use Rattle.words.specs.declared.faults.SchemaFault.{SchemaFault}
use Rattle.words.specs.Items.{places}
use Rattle.problems.specs.declared.Found.{Found}
use Rattle.problems.specs.Problem.{rule_size}
use Rattle.problems.specs.Shown.{Seen}
use Rattle.machine.specs.Loaded.{Loaded}
use Rattle.rows.specs.Layout.{Raw}
use Rattle.rows.specs.Standing.{Stands}

places_length : {X : Type 0} (size : X → ℕ) (xs : List X) (at : ℕ) → length (places size at xs) ≡ length xs
places_length size [] at = refl
places_length size (x ∷ xs) at = ap suc (places_length size xs (at + size x))

abbrev rules_seen : Result Seen SchemaFault → ℕ
rules_seen (Ok s) = length s.rules
rules_seen (Err e) = 0

pub rules_told : (L : Loaded) (r : Raw) (f : Found) → Stands L r f → length (listed f.rules) ≡ L.rules
rules_told L r f st =
    ap rules_seen st.told ∙ places_length rule_size st.problem.rules _ ∙ sym (ap (λ (M : Loaded). M.rules) st.takes)
