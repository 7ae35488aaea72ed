-- Facts about slots, living ends and walks.
use Rattle.std.proofs.Common.{◌≡◌, ℕ, zero, suc, ◌≤◌, Bool, true, false, ◌⊎◌, Option, sym, refl, ◌∙◌, inl, inr, arith}
use Rattle.std.proofs.lemmas.Bool.Decides.{nat_tests}
use Rattle.std.proofs.lemmas.Bool.{cases_eq}
use Rattle.machine.specs.State.{Slot, cell, landing, same, put}
use Rattle.machine.specs.Merging.{chase}

-- slots
pub same_true : (t u : Slot) → same t u ≡ true → t ≡ u
same_true (cell e l) (cell d k) h = grind (arith, nat_tests)
same_true (cell e l) (landing k r) h = cc
same_true (landing k r) (cell e l) h = cc
same_true (landing k r) (landing j q) h = grind (arith, nat_tests)

pub same_refl : (t : Slot) → same t t ≡ true
same_refl (cell e l) = grind (arith, nat_tests)
same_refl (landing k r) = grind (arith, nat_tests)

pub put_cases : (t u : Slot) (o : Option ℕ) (h : Slot → Option ℕ) → ((u ≡ t) × (put t o h u ≡ o)) ⊎ ((u ≡ t → ⊥) × (put t o h u ≡ h u))
put_cases t u o h = go (same u t) refl
  where
    go : (b : Bool) → same u t ≡ b → ((u ≡ t) × (put t o h u ≡ o)) ⊎ ((u ≡ t → ⊥) × (put t o h u ≡ h u))
    go true e = inl (same_true u t e, cc)
    go false e = inr ((λ q. cc (same_refl u)), cc)

-- living ends
module _ (f : ℕ → ℕ) where
  pub chase_fix : (n x : ℕ) → f x ≡ x → chase f n x ≡ x
  unfolding chase
  chase_fix zero x h = refl
  chase_fix (suc n) x h = chase_fix n (f x) (cc) ∙ h

  pub chase_out : (n x : ℕ) → chase f (suc n) x ≡ f (chase f n x)
  unfolding chase
  chase_out zero x = refl
  chase_out (suc n) x = chase_out n (f x)

  pub chase_keeps : (P : ℕ → Type 0) → ((x : ℕ) → P x → P (f x)) → (n x : ℕ) → P x → P (chase f n x)
  unfolding chase
  chase_keeps P k zero x h = h
  chase_keeps P k (suc n) x h = chase_keeps P k n (f x) (k x h)

  pub chase_back : (P : ℕ → Type 0) → ((x : ℕ) → P (f x) → P x) → (n x : ℕ) → P (chase f n x) → P x
  unfolding chase
  chase_back P k zero x h = h
  chase_back P k (suc n) x h = k x (chase_back P k n (f x) h)

  module _ (lower : (x : ℕ) → f x ≤ x) where
    pub chase_lives : (n x : ℕ) → x ≤ n → f (chase f n x) ≡ chase f n x
    unfolding chase
    chase_lives zero x h = omega (arith, lower x)
    chase_lives (suc n) x h = elim (cases_eq (f x) x) [
      | inl e ↦ (let q : chase f n (f x) ≡ f x = chase_fix n (f x) (cc) in cc)
      | inr e ↦ chase_lives n (f x) (omega (arith, lower x))
    ]

    pub chase_lower : (n x : ℕ) → chase f n x ≤ x
    unfolding chase
    chase_lower zero x = omega arith
    chase_lower (suc n) x = omega (arith, lower x, chase_lower n (f x))

    pub chase_enough : (n x : ℕ) → x ≤ n → chase f n x ≡ chase f x x
    unfolding chase
    chase_enough zero x h = let e : x ≡ 0 = omega arith in cc
    chase_enough (suc n) x h = elim (cases_eq x (suc n)) [
      | inl e ↦ rw e refl
      | inr e ↦ chase_out n x ∙ (chase_lives n x (omega arith) ∙ chase_enough n x (omega arith))
    ]

    -- the living end of the forward is the living end
    pub end_forward : (x : ℕ) → chase f (f x) (f x) ≡ chase f x x
    unfolding chase
    end_forward x = sym (chase_enough x (f x) (lower x)) ∙ (chase_out x x ∙ chase_lives x x (omega arith))
