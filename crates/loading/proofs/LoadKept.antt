-- Words in which the copies stay show the same load.
use Rattle.std.proofs.Common.{◌≡◌, ℕ, ◌+◌, ◌<◌, cond, ◌&&◌, ltb, List, length, get_or, take, Some, None, sym, refl, ap, ◌∙◌, subst, inl, inr}
use mathlib.Core.Logic.{∥∥₁_elim}
use native.Mathlib.Nat.{ℕ_set}
use Rattle.std.proofs.lemmas.Bool.{lt-ltb, le-ltb, cases_lt}
use Rattle.machine.specs.Loading.{taken}
use Rattle.rows.specs.Layout.{Raw, Shape, Copied, Same, count}
use Rattle.rows.proofs.Bridge.{same_problem}
use Rattle.loading.specs.LoadedWords.{problem_in, problem_of, leaving, count_copied, lead_copied, copy_by, copy, PlacedBy, Placed, taken_shown}

module _ (leads : List ℕ) (a b : Raw) (s : Same a b) where
  pub words_same : take b.shape.lands b.ws ≡ take a.shape.lands a.ws
  words_same = ap (λ (h : Shape). take h.lands b.ws) s.shape ∙ same_problem a b s

  pub problem_same : problem_of b ≡ problem_of a
  problem_same = ap problem_in words_same

  pub count_same : count_copied b ≡ count_copied a
  unfolding count_copied
  count_same = ap (λ (h : Shape). λ (k : ℕ). cond (ltb k h.kinds) (count h k) 0) s.shape

  module _ (placed : ∥ Placed leads a ∥₁) where
    lead_same : (i q : ℕ) → lead_copied (problem_of a) leads b i q ≡ lead_copied (problem_of a) leads a i q
    unfolding lead_copied
    lead_same i q =
        let p = problem_of a in
        let n = ap (λ (f : ℕ → ℕ). leaving p f i) count_same in
        ap (λ (k : ℕ). cond (ltb i (length p.source_links) && ltb q k) (Some (get_or b.ws (get_or leads i 0 + q) 0)) None) n
        ∙ elim (cases_lt i (length p.source_links)) [
          | inl h ↦ elim (cases_lt q (leaving p (count_copied a) i)) [
            | inl k ↦ ap (λ (v : ℕ). cond (ltb i (length p.source_links) && ltb q (leaving p (count_copied a) i)) (Some v) None) (∥∥₁_elim placed (ℕ_set _ _) (λ p. s.copies (get_or leads i 0 + q) (p i q h k)))
            | inr k ↦ (let e = lt-ltb i (length p.source_links) h in let d = le-ltb q (leaving p (count_copied a) i) k in rw (e, d) refl)
          ]
          | inr h ↦ (let e = le-ltb i (length p.source_links) h in rw e refl)
        ]

    pub copy_same : copy leads b ≡ copy leads a
    copy_same = ap (λ p. copy_by p leads b) problem_same
        ∙ (λ j. record { kinds = (problem_of a).source_kinds; links = length (problem_of a).source_links; ends = (copy leads a).ends; count = count_same j; follow = λ i q. lead_same i q j })

    pub taken_same : taken_shown leads b ≡ taken_shown leads a
    taken_same = λ j. taken (problem_same j) (copy_same j) (s.shape j).capacity

  pub placed_same : Placed leads a → Placed leads b
  placed_same placed = subst (λ p. PlacedBy p leads b) (sym problem_same)
      (λ i q h k. let P : ℕ → Type 0 = λ n. q < n in subst (λ (x : Shape). Copied x (get_or leads i 0 + q)) (sym s.shape) (placed i q h (subst P (ap (λ (f : ℕ → ℕ). leaving (problem_of a) f i) count_same) k)))
