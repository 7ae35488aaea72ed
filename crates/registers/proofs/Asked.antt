-- What `any` and `find` answer that ask a test of each number below a limit.
use Rattle.std.proofs.Common.{◌≡◌, ℕ, ◌<◌, ◌≤◌, Bool, true, false, List, length, Some, None, Option, sym, ap, subst, ◌∙◌, zero-add, arith}
use Rattle.std.specs.Bool.{MatchBool}
use Rattle.std.specs.Fn.{Called, CalledAt}
use Rattle.std.specs.Iterator.{YieldsThen}
use Rattle.std.specs.List.{range_with_len, FoldsTo, HoldsAt, AllWithin}
use Rattle.std.specs.Option.{MatchOption}
use Rattle.std.specs.declared.ops.Range.{Range}
use Rattle.std.proofs.iter.Yields.{nat_range_steps}
use Rattle.std.proofs.lemmas.Iterator.{YieldsList, cases_from_any, first_from_Range, YieldsList-from_range}
use Rattle.std.proofs.lemmas.List.FromFn.{length-range_with_len, get_or-range_with_len}
use denote.Param.Members.{Mut}
use denote.Ref.{Bor}
use Rattle.registers.specs.Writing.{some_below, lowest}
use Rattle.registers.proofs.WrittenLists.{some_found, none_from, lowest_found, lowest_from}

pub yields_below : (n : ℕ) {s : Range ℕ} → s ≡ record { start = 0; end = n } → YieldsList nat_range_steps (λ x. x) s (range_with_len 0 n)
yields_below n e = YieldsList-from_range 0 n n e (omega arith)

module _ (p : ℕ → Bool) (n : ℕ) where
  any_told : (r : Bool)
      → MatchBool r ((k : ℕ) × (k < length (range_with_len 0 n)) × HoldsAt (λ x. x < n → p x ≡ true) (range_with_len 0 n) k) (AllWithin (λ x. x < n → p x ≡ false) (range_with_len 0 n) 0 (length (range_with_len 0 n)))
      → r ≡ some_below p n
  any_told true (k, l, h) =
      let q : k < n = omega (arith, length-range_with_len 0 n) in
      some_found p k n q (subst (λ x. x < n → p x ≡ true) (get_or-range_with_len 0 n k 0 q ∙ zero-add k) (h 0) q)
  any_told false h = sym (none_from p n (λ k l.
      let q : k < length (range_with_len 0 n) = omega (arith, length-range_with_len 0 n) in
      subst (λ x. x < n → p x ≡ false) (get_or-range_with_len 0 n k 0 l ∙ zero-add k) (h k 0 (omega arith) q) l))

  pub any_asked : {F : Type 0} {g : Mut F (ℕ × Unit {0}) Bool} {s : Range ℕ} (u : Range ℕ) (f : F) (r : Bool) → s ≡ record { start = 0; end = n }
      → (xs : List ℕ) × (o : Option ℕ) × (j : F) × YieldsThen nat_range_steps s xs o u × FoldsTo (λ q x t. Called g q (x, tt) false t) f xs j × MatchOption o (r ≡ false) (λ x. (r ≡ true) × ((h : F) × Called g j (x, tt) true h))
      → ((x : ℕ) (b : Bool) (t : F) → Called g f (x, tt) b t → (t ≡ f) × (x < n → p x ≡ b))
      → r ≡ some_below p n
  any_asked u f r e d h = any_told r (cases_from_any u f r (λ x. x < n → p x ≡ true) (λ x. x < n → p x ≡ false) d (yields_below n e) (λ x t k. (h x true t k).1) (λ x t k. h x false t k))

  find_told : (a b : ℕ) (r : Option ℕ) → a ≡ 0 → b ≡ n
      → MatchOption r ((k : ℕ) → a ≤ k → k < b → k < n → p k ≡ false) (λ i. (a ≤ i) × (i < b) × (i < n → p i ≡ true) × ((k : ℕ) → a ≤ k → k < i → k < n → p k ≡ false))
      → r ≡ lowest p n
  find_told a b None s e h = sym (lowest_from p n (λ k l. h k (omega arith) (omega arith) l))
  find_told a b (Some i) s e (z, l, t, h) = lowest_found p i n (omega arith) (lowest_from p i (λ k m. h k (omega arith) m (omega arith))) (t (omega arith))

  pub find_asked : {F : Type 0} {g : Mut F (Bor ℕ × Unit {0}) Bool} {s : Range ℕ} (u : Range ℕ) (f : F) (r : Option ℕ) → s ≡ record { start = 0; end = n }
      → (xs : List ℕ) × (j : F) × YieldsThen nat_range_steps s xs r u × FoldsTo (λ q x t. CalledAt g q x false t) f xs j × MatchOption r (Unit {0}) (λ x. (h : F) × CalledAt g j x true h)
      → ((x : ℕ) (b : Bool) (t : F) → CalledAt g f x b t → (t ≡ f) × (x < n → p x ≡ b))
      → r ≡ lowest p n
  find_asked {s = s} u f r e d h =
      find_told s.start s.end r (ap (λ t. t.start) e) (ap (λ t. t.end) e) (first_from_Range s u f r (λ x. x < n → p x ≡ true) (λ x. x < n → p x ≡ false) d (λ x t k. (h x true t k).1) (λ x t k. h x false t k))
