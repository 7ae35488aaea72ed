-- Rules, as the code reads them.
use Rattle.std.proofs.Common.{◌≡◌, ℕ, zero, suc, ◌+◌, ◌/◌, ◌%◌, ◌<◌, ◌≤◌, true, cond, eqb, List, length, Ok, Err, sym, ap, ◌∙◌, arith}
use Rattle.std.proofs.lemmas.Bool.Decides.{nat_tests}
use Rattle.words.specs.declared.faults.WordFault.TheVariants.{Limit}
use Rattle.words.specs.declared.faults.SchemaFault.TheVariants.{Words, Unjoined}
use Rattle.words.specs.Words.{word, worded, then}
use Rattle.words.proofs.Inverse.{err_ok, then_ok}
use Rattle.words.specs.Items.{behind}
use Rattle.problems.specs.Problem.{Link, Rule, path, meeting, paths, rule_of, rule, rule_size}
use Rattle.problems.specs.Seen.{reached}
use Rattle.problems.proofs.Paths.{path_length, path_inside, reached_ok}
use Rattle.words.specs.declared.tags.Tag.TheVariants as tag

module _ (kinds : ℕ) (ts : List Link) (ws : List ℕ) where
  pub path_past : (n kind p k : ℕ) → p ≤ length ws → reached (path ts ws n kind p) ≡ Ok k → p + n ≤ length ws
  path_past n kind p k h e = let x = reached_ok ts ws (path ts ws n kind p) k e in path_inside ts ws n kind p x.0 h x.1

  pub rule_is : (room at v : ℕ) → word tag.Rule ws at ≡ Ok v → 0 < room → v / 256 % 256 ≤ 64 → v % 256 ≤ 64 → v / 65536 < kinds
      → rule kinds ts ws room at ≡ paths ts ws at (v / 65536) (v / 256 % 256) (v % 256)
  rule_is room at v e h a b d =
      ap (λ r. then (worded r) (rule_of kinds ts ws room at)) e ∙ grind (arith, nat_tests)

  pub paths_behind : (at first n m k j : ℕ) → reached (path ts ws n first (at + 1)) ≡ Ok k → reached (path ts ws m first (at + 1 + n)) ≡ Ok j → k ≡ j
      → Ok (at + 1 + n + m) ≡ behind rule_size at (paths ts ws at first n m)
  paths_behind at first n m k j a b e =
      let x = reached_ok ts ws (path ts ws n first (at + 1)) k a in
      let y = reached_ok ts ws (path ts ws m first (at + 1 + n)) j b in
      let p = path_length ts ws n first (at + 1) x.0 x.1 in
      let q = path_length ts ws m first (at + 1 + n) y.0 y.1 in
      let z : eqb x.0.1 y.0.1 ≡ true = let s : x.0.1 ≡ y.0.1 = x.2 ∙ e ∙ sym y.2 in grind (arith, nat_tests) in
      sym (
      ap (λ r. behind rule_size at (then r (λ l. then (path ts ws m first (at + 1 + n)) (meeting first (at + n + m) l)))) x.1
      ∙ ap (λ r. behind rule_size at (then r (meeting first (at + n + m) x.0))) y.1
      ∙ ap (λ b. behind rule_size at (cond b (Ok (record { first = first; left = x.0.0; right = y.0.0 })) (Err (Unjoined (at + n + m))))) z
      ∙ ap Ok (omega arith))

  pub rule_code : (room at v k j : ℕ) → word tag.Rule ws at ≡ Ok v → 0 < room → v / 256 % 256 ≤ 64 → v % 256 ≤ 64 → v / 65536 < kinds
      → reached (path ts ws (v / 256 % 256) (v / 65536) (at + 1)) ≡ Ok k → reached (path ts ws (v % 256) (v / 65536) (at + 1 + v / 256 % 256)) ≡ Ok j → k ≡ j
      → Ok (at + 1 + v / 256 % 256 + v % 256) ≡ behind rule_size at (rule kinds ts ws room at)
  rule_code room at v k j e h a b d p q s =
      paths_behind at (v / 65536) (v / 256 % 256) (v % 256) k j p q s ∙ ap (behind rule_size at) (sym (rule_is room at v e h a b d))

  pub rule_room : (room at : ℕ) (l : Rule) → rule kinds ts ws room at ≡ Ok l → 0 < room
  rule_room zero at l e = absurd (err_ok (then_ok (worded (word tag.Rule ws at)) (λ v. Err (Words (Limit at))) l e).2)
  rule_room (suc n) at l e = omega arith
