-- What is known of a table whose words list some numbering.
use Rattle.std.proofs.Common.{◌≡◌, ℕ, ◌+◌, ◌*◌, ◌<◌, ◌≤◌, List, length, get_or, ap, ◌∙◌, subst, arith}
use mathlib.Core.Logic.{∥∥₁_elim}
use native.Mathlib.Nat.{ℕ_set}
use native.Mathlib.Bridge.{le_prop}
use Rattle.problems.specs.declared.Found.{Found}
use Rattle.machine.specs.Loaded.{Loaded}
use Rattle.machine.specs.State.{Slot, landing}
use Rattle.rows.specs.Layout.{Raw, Fits, count}
use Rattle.rows.specs.Standing.{Stands}
use Rattle.rows.proofs.Outline.{source_kinds_are}
use Rattle.finishing.specs.Records.{appended, lead_word, Numbered, Led}
use Rattle.finishing.specs.Written.{Writing, Always, link_part, file_words}
use Rattle.finishing.proofs.Numbers.{led, landed_numbered}
use Rattle.finishing.proofs.FileParts.{counted, link_length, leads_length, file_length, file_small}
use Rattle.finishing.proofs.Problem.{kinds_are, few_kinds, ends_known, landing_small}

module _ {b : Raw} {f : Found} {met : ℕ} {counts : List ℕ} (x : Writing b f met counts) where
  pub known_le : (m n : ℕ) → Always b f met counts (λ L s. m ≤ n) → m ≤ n
  known_le m n h = ∥∥₁_elim x le_prop (λ y. h y.0 y.1 y.2)

  known_is : (m n : ℕ) → Always b f met counts (λ L s. m ≡ n) → m ≡ n
  known_is m n h = ∥∥₁_elim x (ℕ_set m n) (λ y. h y.0 y.1 y.2)

  numbered : (t : Slot) → Always b f met counts (λ L s. Numbered b t) → Numbered b t
  numbered t h v e = (
    known_le _ _ (λ L s w. (h L s w v e).0),
    known_le _ _ (λ L s w. (h L s w v e).1),
    known_le _ _ (λ L s w. (h L s w v e).2),
  )

  -- the link l, between the kinds that the code has found
  module _ {l : ℕ} (h : l < b.shape.links) where
    in_table : Always b f met counts (λ L s. l < L.links)
    in_table L s w = omega (arith, w.carries.links)

    pub found_ends : (e : ℕ × ℕ) → ((L : Loaded) → Stands L b f → l < L.links → (L.from l ≡ e.0) × (L.to l ≡ e.1)) → Always b f met counts (λ L s. (L.from l ≡ e.0) × (L.to l ≡ e.1))
    found_ends e ends L s w = ends L w.stands (in_table L s w)

    pub small_ends : (e : ℕ × ℕ) → Always b f met counts (λ L s. (L.from l ≡ e.0) × (L.to l ≡ e.1)) → (e.0 < 32) × (e.1 < 32)
    small_ends e ends = (
      known_le _ _ (λ L s w. omega (arith, (ends L s w).0, (ends_known L b f w.stands l (in_table L s w)).0, few_kinds L b f w.stands)),
      known_le _ _ (λ L s w. omega (arith, (ends L s w).1, (ends_known L b f w.stands l (in_table L s w)).1, few_kinds L b f w.stands)),
    )

    module _ (from : ℕ) (leaves : Always b f met counts (λ L s. L.from l ≡ from)) where
      found_led : Always b f met counts (λ L s. Led b from l met)
      found_led L s w = subst (λ k. Led b k l met) (leaves L s w) (led L s b met counts w.listed l (in_table L s w))

      pub link_led : Led b from l met
      link_led = record {
        room = known_le _ _ (λ L s w. (found_led L s w).room);
        known = λ i k. known_le _ _ (λ L s w. (found_led L s w).known i k);
        numbered = λ i k q. numbered _ (λ L s w. (found_led L s w).numbered i k q);
      }

      pub size_is : Always b f met counts (λ L s. length (link_part L s l) ≡ 1 + get_or counts from 0)
      size_is L s w = link_length L s b f met counts w l h ∙ ap (λ k. 1 + get_or counts k 0) (leaves L s w)

      pub link_room : (at n : ℕ) → Always b f met counts (λ L s. at + length (link_part L s l) ≤ n) → at + 1 + get_or counts from 0 ≤ n
      link_room at n room = known_le _ _ (λ L s w. omega (arith, room L s w, size_is L s w))

      pub leads_fill : length (appended (lead_word b from l) met) ≡ get_or counts from 0
      leads_fill = known_is _ _ (λ L s w. subst (λ k. length (appended (lead_word b k l) met) ≡ get_or counts k 0) (leaves L s w) (leads_length L s b f met counts w l h))

  -- the landings of a source kind
  pub kinds_landed : f.source.kinds ≡ b.shape.kinds
  kinds_landed = known_is _ _ (λ L s w. source_kinds_are L b f w.stands ∙ w.carries.kinds)

  pub landed_known : (k q : ℕ) → k < b.shape.kinds → q < count b.shape k → Numbered b (landing k q)
  landed_known k q h l = numbered (landing k q) (λ L s w.
      landed_numbered L s b met counts w.listed k (omega (arith, w.carries.kinds)) q (omega (arith, w.carries.counts k h)))

  pub landing_fits : Fits b → {k : ℕ} → k < b.shape.kinds → (to : ℕ) → ((L : Loaded) → Stands L b f → k < L.source_kinds → L.kind_map k ≡ to) →
      count b.shape k * 65536 + k * 256 + to < 268435456
  landing_fits x h to is = known_le _ _ (λ L s w. landing_small L b f w.stands x w.carries.kinds h to (is L w.stands))

  -- the whole file
  pub counts_known : (k : ℕ) → k < f.target.kinds → get_or counts k 0 < 65536
  counts_known k h = known_le _ _ (λ L s w. counted L s b f met counts w k (omega (arith, h, kinds_are L b f w.stands)))

  pub kinds_known : f.target.kinds ≤ 32
  kinds_known = known_le _ _ (λ L s w. omega (arith, few_kinds L b f w.stands, kinds_are L b f w.stands))

  pub head_room : (n : ℕ) → Always b f met counts (λ L s. length (file_words L s) ≤ n) → f.target.kinds + 2 ≤ n
  head_room n room = known_le _ _ (λ L s w. omega (arith, room L s w, file_length L s b f met counts w))

  pub end_room : (next n : ℕ) → Always b f met counts (λ L s. next ≡ 1 + f.target.kinds + length (appended (link_part L s) b.shape.links)) →
      Always b f met counts (λ L s. length (file_words L s) ≤ n) → (next + b.shape.kinds + b.shape.records < n) × (next + b.shape.kinds + b.shape.records < 268435456)
  end_room next n is room = (
    known_le _ _ (λ L s w. omega (arith, is L s w, room L s w, file_length L s b f met counts w)),
    known_le _ _ (λ L s w. omega (arith, is L s w, file_small L s b f met counts w)),
  )
