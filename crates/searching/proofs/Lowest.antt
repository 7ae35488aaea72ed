-- The first answer of the calls at the numbers of a range, lowest first.
use Rattle.std.proofs.Common.{◌≡◌, ℕ, Bool, zero, suc, ◌<◌, ◌≤◌, ◌+◌, Some, None, Option, sym, refl, ap, ◌∙◌, subst, inl, inr, zero-add, arith}
use Rattle.std.specs.Option.{IsSomeAnd, MatchOption, option_map}
use Rattle.std.specs.Iterator.Runs.{Run, ItemsCountUp, CallKeepsClosure, AllItemsGive, IsFirstToGive}
use Rattle.std.specs.Bool.{IsTrue}
use Rattle.std.specs.Fn.{Mut, Called}
use Rattle.std.proofs.iter.Yields.{nat_range_steps}
use Rattle.std.proofs.iter.runs.Sources.{range_runs}
use Rattle.std.proofs.lemmas.Bool.{cases_eq, cases_Bool}
use Rattle.machine.specs.Calls.{Op}
use Rattle.machine.specs.Shift.{or_else, lowest, only_if}
use Rattle.searching.specs.declared.Task.{Task}
use Rattle.searching.specs.Tasks.{op_of, shown_task}

module _ (f : ℕ → Option Op) where
  lowest_none : (n : ℕ) → ((i : ℕ) → i < n → None ≡ f i) → None ≡ lowest n f
  unfolding lowest
  lowest_none zero none = refl
  lowest_none (suc n) none = rw (sym (lowest_none n (λ i h. none i (omega arith)))) (none n (omega arith))

  lowest_some : (n i : ℕ) → i < n → ((k : ℕ) → k < i → None ≡ f k) → (o : Op) → Some o ≡ f i → Some o ≡ lowest n f
  unfolding lowest
  lowest_some zero i h none o here = absurd (omega arith)
  lowest_some (suc n) i h none o here = elim (cases_eq i n) [
    | inl q ↦ here ∙ ap (λ x. or_else x (f i)) (lowest_none i none) ∙ ap (λ j. or_else (lowest j f) (f j)) q
    | inr q ↦ ap (λ x. or_else x (f n)) (lowest_some n i (omega arith) none o here)
  ]

-- nothing is found where there is nothing to ask at each number
pub no_rule : (m : ℕ) → m ≡ 0 → (n : ℕ) (b : ℕ → Bool) (f : ℕ → ℕ → Option Op) → None ≡ lowest n (λ e. only_if (b e) (lowest m (f e)))
unfolding lowest
no_rule m e n b f = lowest_none _ n (λ i lt. rw e (elim (cases_Bool (b i)) [ inl t ↦ rw t refl | inr t ↦ rw t refl ]))

-- what holds of the item at place k of a range from 0 on holds of k
at_place : (o : Option ℕ) (k : ℕ) (N : Type 0) (P : ℕ → Type 0) → option_map (λ y. y) o ≡ Some k → MatchOption o N P → P k
at_place None k N P e h = absurd cc
at_place (Some x) k N P e h = let q : x ≡ k = cc in subst P q h

at_some_place : (o : Option ℕ) (k : ℕ) (P : ℕ → Type 0) → option_map (λ y. y) o ≡ Some k → IsSomeAnd o P → P k
at_some_place None k P e h = absurd h
at_some_place (Some x) k P e h = at_place (Some x) k (Unit {0}) P e h

module _ {F : Type 0} (g : Mut F (ℕ × Unit {0}) (Option Task)) (f : F) (keeps : CallKeepsClosure g f) (n : ℕ) (at : ℕ → Option Op)
    (is : (i : ℕ) (r : Option Task) → i < n → Called g f (i, tt) r f → shown_task r ≡ at i) (p : Run nat_range_steps) (from : p.from ≡ record { start = 0; end = n }) where
  counts : ItemsCountUp p 0 n
  counts = subst (λ s. ItemsCountUp p s.start s.end) from (range_runs p p.seen)

  there : (k : ℕ) → k < p.len → option_map (λ y. y) (p.at k) ≡ Some k
  there k lt = counts.3 k lt ∙ ap Some (zero-add k)

  pub lowest_found : (r : Option Task) → MatchOption r (IsTrue p.whole × AllItemsGive p g f None) (λ y. (i : ℕ) × (i < p.len) × (p.len ≡ i + 1) × IsFirstToGive p g f (Some y) None i) → shown_task r ≡ lowest n at
  lowest_found None h = lowest_none at n (λ k lt. is k None lt (at_place (p.at k) k _ _ (there k (omega (arith, counts.1 h.0))) (h.1 keeps k)))
  lowest_found (Some y) h =
      let i = h.0 in
      let in_run : i < p.len = h.1 in
      let in_range : p.len ≤ n = omega (arith, counts.0) in
      let first = h.3 keeps in
      lowest_some at n i (omega arith) (λ k lt. is k None (omega arith) (at_some_place (p.at k) k _ (there k (omega arith)) (first.1 k lt))) (op_of y) (is i (Some y) (omega arith) (at_some_place (p.at i) i _ (there i in_run) first.0))
