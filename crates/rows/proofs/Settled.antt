-- The rules of merging and settling, by the tests of the code.
use Rattle.std.proofs.Common.{◌≡◌, ℕ, zero, suc, ◌<◌, ◌≤◌, true, false, ltb, List, [], ◌∷◌, length, get_or, Some, None, sym, refl, ap, ◌∙◌, arith, length-append}
use Rattle.std.proofs.lemmas.Bool.Decides.{nat_tests}
use Rattle.machine.specs.Loaded.{Loaded}
use Rattle.machine.specs.State.{State, cell, hold}
use Rattle.machine.specs.Merging.{end, die, meet, merge}
use Rattle.machine.specs.Settling.{rehold, take_over, pull, drain, pop, settled_first, settled}
use Rattle.machine.proofs.Base.{chase_lives, chase_lower}
use Rattle.machine.proofs.Merge.{meet_cases}
use Rattle.machine.proofs.Check.{on_cases}
use Rattle.rows.specs.Layout.{Raw, Shape, Becomes, shown}
use Rattle.rows.proofs.Shown.{waits_are}
use Rattle.rows.proofs.Keeps.{becomes_as, becomes_then}

-- a living end was given where its entry was, and lives
pub end_is : (s : State) → ((x : ℕ) → s.forward x ≤ x) → (e x : ℕ) → x ≡ end s e → e < s.given → (x < s.given) × (s.forward x ≡ x)
end_is s d e x p h = (omega (arith, chase_lower s.forward d e e), rw p (chase_lives s.forward d e e (omega arith)))

module _ (s : State) (a b x y : ℕ) (ex : x ≡ end s a) (ey : y ≡ end s b) where
  pub merge_first : x < y → die y x s ≡ merge a b s
  unfolding meet
  merge_first h = rw (← ex, ← ey) (let t : ltb x y ≡ true = grind (arith, nat_tests) in rw t refl)

  pub merge_second : y < x → die x y s ≡ merge a b s
  unfolding meet
  merge_second h = rw (← ex, ← ey) (let t : ltb x y ≡ false = grind (arith, nat_tests) in let q : ltb y x ≡ true = grind (arith, nat_tests) in rw (t, q) refl)

  pub merge_same : x ≤ y → y ≤ x → s ≡ merge a b s
  unfolding meet
  merge_same h k = rw (← ex, ← ey) (let t : ltb x y ≡ false = grind (arith, nat_tests) in let q : ltb y x ≡ false = grind (arith, nat_tests) in rw (t, q) refl)

module _ (s : State) (u l w : ℕ) where
  pub take_empty : s.held (cell u l) ≡ None → hold (cell u l) (Some w) s ≡ take_over u l w s
  unfolding take_over
  take_empty p = rw p refl

  pub take_filled : (d : ℕ) → s.held (cell u l) ≡ Some d → merge d w s ≡ take_over u l w s
  unfolding take_over
  take_filled d p = rw p refl

module _ (s : State) (v l : ℕ) where
  pub pull_none : s.held (cell v l) ≡ None → s ≡ pull v l s
  unfolding pull
  pull_none p = rw p refl

  pub pull_some : (c u w : ℕ) → s.held (cell v l) ≡ Some c → u ≡ end s v → w ≡ end s c → take_over u l w (hold (cell v l) None s) ≡ pull v l s
  unfolding pull
  pull_some c u w p eu ew = rw (p, eu, ew) refl

-- settling gives no entry, and those that wait go on waiting
pub record On (s z : State) : Type 0 where
  pub given : z.given ≡ s.given
  pub waits : length s.waiting ≤ length z.waiting

on_none : (s : State) → On s s
on_none s = record { given = refl; waits = omega arith }

on_then : (s y z : State) → On s y → On y z → On s z
on_then s y z p q = record { given = q.given ∙ p.given; waits = omega (arith, p.waits, q.waits) }

die_on : (s : State) (h l : ℕ) → On s (die h l s)
die_on s h l = record { given = refl; waits = omega (arith, length-append s.waiting (h ∷ [])) }

take_on : (s : State) (u l w : ℕ) → On s (take_over u l w s)
unfolding take_over
take_on s u l w = on_cases (On s) (s.held (cell u l)) (hold (cell u l) (Some w) s) (λ d. merge d w s)
    (λ e. record { given = refl; waits = omega arith })
    (λ d e. meet_cases (On s) (end s d) (end s w) s (λ q. die_on s (end s w) (end s d)) (λ q. die_on s (end s d) (end s w)) (λ q. on_none s))

pull_on : (s : State) (v l : ℕ) → On s (pull v l s)
unfolding pull
pull_on s v l = on_cases (On s) (s.held (cell v l)) s (λ c. take_over (end s v) l (end s c) (hold (cell v l) None s))
    (λ e. on_none s)
    (λ c e. on_then s (hold (cell v l) None s) _ (record { given = refl; waits = omega arith }) (take_on (hold (cell v l) None s) (end s v) l (end s c)))

pub drain_on : (s : State) (v n : ℕ) → On s (drain v n s)
unfolding drain
drain_on s v zero = on_none s
drain_on s v (suc n) = on_then s (drain v n s) (pull v n (drain v n s)) (drain_on s v n) (pull_on (drain v n s) v n)

pub drain_more : (s : State) (v n : ℕ) → pull v n (drain v n s) ≡ drain v (suc n) s
unfolding drain
drain_more s v n = refl

pub drain_none : (s : State) (v : ℕ) → s ≡ drain v 0 s
unfolding drain
drain_none s v = refl

-- the steps of settling, taken together
settle_first : (L : Loaded) (s : State) (v u n : ℕ) (l : List ℕ) → 0 < length l → v ≡ get_or l 0 0 → u ≡ end s v → L.links ≡ n → pop (drain v n (rehold v u s)) ≡ settled_first L s l
settle_first L s v u n [] h e p q = absurd (omega arith)
settle_first L s v u n (x ∷ xs) h e p q = rw (p, e, ← q) refl

settle_is : (L : Loaded) (s : State) (v u n : ℕ) → 0 < length s.waiting → v ≡ get_or s.waiting 0 0 → u ≡ end s v → L.links ≡ n → pop (drain v n (rehold v u s)) ≡ settled L s
settle_is L s v u n = settle_first L s v u n s.waiting

-- the same on the words
module _ (a b c : Raw) (v u : ℕ) (p : Becomes a (rehold v u) b) (q : Becomes b (drain v b.shape.links) c) (some : 0 < a.waits) where
  pub still_waits : 0 < c.waits
  still_waits = omega (arith, some, waits_are a, waits_are c, ap (λ (s : State). length s.waiting) p.state, ap (λ (s : State). length s.waiting) q.state, (drain_on (shown b) v b.shape.links).waits)

  pub becomes_settled : (d : Raw) → Becomes c pop d → v ≡ get_or (shown a).waiting 0 0 → u ≡ end (shown a) v → (L : Loaded) → L.links ≡ a.shape.links → Becomes a (settled L) d
  becomes_settled d o first ends L e =
      becomes_as a d (λ s. pop (drain v b.shape.links (rehold v u s))) (settled L)
      (becomes_then a c d (λ s. drain v b.shape.links (rehold v u s)) pop (becomes_then a b c (rehold v u) (drain v b.shape.links) p q) o)
      (settle_is L (shown a) v u b.shape.links (omega (arith, some, waits_are a)) first ends (e ∙ ap (λ (h : Shape). h.links) (sym p.same.shape)))
