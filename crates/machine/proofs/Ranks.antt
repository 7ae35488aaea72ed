-- The number of the living, and that the waiting list has room after a merge.
use Rattle.std.proofs.Common.{◌≡◌, ℕ, zero, suc, ◌<◌, ◌≤◌, eqb, [], ◌∷◌, sym, refl, ap, ◌∙◌, subst, inl, inr, arith, length-append}
use Rattle.std.proofs.lemmas.Bool.{cases_eq, eq-eqb, ne_eqb, cond-true, cond-false}
use Rattle.machine.specs.Loaded.{Loaded}
use Rattle.machine.specs.State.{State}
use Rattle.machine.specs.Merging.{end, die, merge}
use Rattle.machine.specs.Sweeping.{rank}
use Rattle.machine.specs.Sound.{Sound}
use Rattle.machine.specs.Shift.{Room}
use Rattle.machine.proofs.Merge.{turned, turned_cases, meet_cases, end_lives, end_below}

module _ (f : ℕ → ℕ) where
  pub rank_live : (e : ℕ) → f e ≡ e → rank f (suc e) ≡ suc (rank f e)
  unfolding rank
  rank_live e h = cond-true (eqb (f e) e) (suc (rank f e)) (rank f e) (eq-eqb (f e) e h)

  pub rank_dead : (e : ℕ) → (f e ≡ e → ⊥) → rank f (suc e) ≡ rank f e
  unfolding rank
  rank_dead e h = cond-false (eqb (f e) e) (suc (rank f e)) (rank f e) (ne_eqb (f e) e h)

pub rank_small : (f : ℕ → ℕ) (n : ℕ) → rank f n ≤ n
unfolding rank
rank_small f zero = omega arith
rank_small f (suc n) = let i = rank_small f n in elim (cases_eq (f n) n) [ inl e ↦ (let q = rank_live f n e in omega (arith, i, q)) | inr e ↦ (let q = rank_dead f n e in omega (arith, i, q)) ]

module _ (f : ℕ → ℕ) (h l : ℕ) where
  rank_before : (n : ℕ) → n ≤ h → rank (turned f h l) n ≡ rank f n
  unfolding rank
  rank_before zero q = refl
  rank_before (suc n) q =
      let i = rank_before n (omega (arith, q)) in
      elim (turned_cases f h l n) [
        | inl e ↦ absurd (omega (arith, e.0, q))
        | inr e ↦ elim (cases_eq (f n) n) [
          | inl live ↦ rank_live (turned f h l) n (e.1 ∙ live) ∙ (ap suc i ∙ sym (rank_live f n live))
          | inr dead ↦ rank_dead (turned f h l) n (λ z. dead (sym e.1 ∙ z)) ∙ (i ∙ sym (rank_dead f n dead))
        ]
      ]

  pub rank_after : f h ≡ h → l < h → (n : ℕ) → h < n → suc (rank (turned f h l) n) ≡ rank f n
  unfolding rank
  rank_after alive less zero q = absurd (omega (arith, q))
  rank_after alive less (suc n) q =
      elim (turned_cases f h l n) [
        | inl e ↦ (
            let a = rank_dead (turned f h l) n (λ z. omega (arith, z, e.0, e.1, less)) in
            let b = rank_before n (omega (arith, e.0)) in
            let c = rank_live f n (subst (λ x. f x ≡ x) (sym e.0) alive) in
            ap suc (a ∙ b) ∙ sym c)
        | inr e ↦ (
            let i = rank_after alive less n (omega (arith, q, e.0)) in
            elim (cases_eq (f n) n) [
              | inl live ↦ ap suc (rank_live (turned f h l) n (e.1 ∙ live)) ∙ (ap suc i ∙ sym (rank_live f n live))
              | inr dead ↦ ap suc (rank_dead (turned f h l) n (λ z. dead (sym e.1 ∙ z))) ∙ (i ∙ sym (rank_dead f n dead))
            ])
      ]

die_room : (s : State) (h l : ℕ) → s.forward h ≡ h → h < s.given → l < h → Room s → Room (die h l s)
die_room s h l alive here less r = omega (arith, r, length-append s.waiting (h ∷ []), rank_after s.forward h l alive less s.given here)

pub merge_room : (L : Loaded) (s : State) → Sound L s → (a b : ℕ) → a < s.given → b < s.given → Room s → Room (merge a b s)
merge_room L s ok a b ha hb r = meet_cases Room (end s a) (end s b) s
    (λ q. die_room s (end s b) (end s a) (end_lives L s ok b) (end_below L s ok b hb) q r)
    (λ q. die_room s (end s a) (end s b) (end_lives L s ok a) (end_below L s ok a ha) q r)
    (λ q. r)
