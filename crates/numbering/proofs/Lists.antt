-- Lists with one more at their end: who is in them, how many of a kind, and who stands before.
use Rattle.std.proofs.Common.{◌≡◌, ℕ, ◌+◌, true, false, cond, ◌||◌, eqb, List, [], ◌∷◌, ◌++◌, refl, ap, inl, inr, add-one, arith}
use Rattle.std.proofs.lemmas.Bool.{false≢true, or_parts}
use Rattle.std.proofs.lemmas.Bool.Decides.{nat_tests, eqb_tells}
use Rattle.machine.specs.Sequence.{member}
use Rattle.machine.specs.Finish.{tally, before}

pub member_push : (x e : ℕ) (xs : List ℕ) → member x (xs ++ e ∷ []) ≡ (member x xs || eqb x e)
unfolding member
member_push x e [] = elim (eqb_tells x e) [ inl a ↦ rw a.0 refl | inr a ↦ rw a.0 refl ]
member_push x e (y ∷ ys) = elim (eqb_tells x y) [ inl a ↦ rw a.0 refl | inr a ↦ rw a.0 (member_push x e ys) ]

pub tally_push : (kind : ℕ → ℕ) (k x : ℕ) (xs : List ℕ) → tally kind k (xs ++ x ∷ []) ≡ cond (eqb (kind x) k) (tally kind k xs + 1) (tally kind k xs)
unfolding tally
tally_push kind k x [] = rw add-one refl
tally_push kind k x (y ∷ ys) = let i = tally_push kind k x ys in grind (arith, nat_tests)

pub before_last : (e : ℕ) (xs : List ℕ) → member e xs ≡ false → before e (xs ++ e ∷ []) ≡ xs
unfolding before member
before_last e [] h = elim (eqb_tells e e) [ inl a ↦ rw a.0 refl | inr a ↦ absurd (a.1 refl) ]
before_last e (x ∷ xs) h =
    let p = or_parts (eqb e x) (member e xs) h in
    let n : eqb x e ≡ false = grind (arith, nat_tests) in
    rw n (ap (λ (ys : List ℕ). x ∷ ys) (before_last e xs p.1))

pub before_push : (e x : ℕ) (xs : List ℕ) → member e xs ≡ true → before e (xs ++ x ∷ []) ≡ before e xs
unfolding before member
before_push e x [] h = absurd (false≢true h)
before_push e x (y ∷ ys) h = elim (eqb_tells y e) [
  | inl a ↦ rw a.0 refl
  | inr a ↦ (let n : eqb e y ≡ false = grind (arith, nat_tests) in rw a.0 (ap (λ (zs : List ℕ). y ∷ zs) (before_push e x ys (rw n at h))))
]
