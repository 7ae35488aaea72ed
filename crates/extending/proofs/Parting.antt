-- Where the problem's words end.
use Rattle.std.proofs.Common.{◌≡◌, ℕ, zero, suc, ◌+◌, ◌<◌, true, false, cond, eqb, List, [], ◌∷◌, length, Some, None, Option, refl, sym, ap, ◌∙◌, add-one, arith}
use Rattle.std.specs.List.{AllWithin, HoldsAt}
use Rattle.std.specs.Option.{MatchOption}
use Rattle.std.proofs.lemmas.Bool.Decides.{nat_tests}
use Rattle.words.specs.Words.{tag}
use Rattle.extending.specs.Extend.{problem_size, PartedAt}

-- one more than the place of the first word with the end tag, or the number of words
abbrev pub behind : ℕ → Option ℕ → ℕ
behind n (Some i) = i + 1
behind n None = n

-- the place of the first word with the end tag, if one has it
abbrev pub First : List ℕ → Option ℕ → Type 0
First ws r = MatchOption r (AllWithin (λ w. tag w ≡ 7 → ⊥) ws 0 (length ws)) (λ i. (i < length ws) × HoldsAt (λ w. tag w ≡ 7) ws i × AllWithin (λ w. tag w ≡ 7 → ⊥) ws 0 i)

other : (w : ℕ) → (tag w ≡ 7 → ⊥) → eqb (tag w) 7 ≡ false
other w h = grind (arith, nat_tests)

same : (w : ℕ) → tag w ≡ 7 → eqb (tag w) 7 ≡ true
same w h = grind (arith, nat_tests)

tail : (w : ℕ) (ws : List ℕ) (n : ℕ) → AllWithin (λ w. tag w ≡ 7 → ⊥) (w ∷ ws) 0 (suc n) → AllWithin (λ w. tag w ≡ 7 → ⊥) ws 0 n
tail w ws n h k d a b = h (suc k) d (omega arith) (omega arith)

size_none : (ws : List ℕ) → AllWithin (λ w. tag w ≡ 7 → ⊥) ws 0 (length ws) → length ws ≡ problem_size ws
unfolding problem_size
size_none [] h = refl
size_none (w ∷ ws) h = ap suc (size_none ws (tail w ws (length ws) h)) ∙ sym (ap (λ b. cond b 1 (suc (problem_size ws))) (other w (h 0 0 (omega arith) (omega arith))))

size_some : (ws : List ℕ) (i : ℕ) → i < length ws → HoldsAt (λ w. tag w ≡ 7) ws i → AllWithin (λ w. tag w ≡ 7 → ⊥) ws 0 i → suc i ≡ problem_size ws
unfolding problem_size
size_some [] i l e h = absurd (omega arith)
size_some (w ∷ ws) zero l e h = sym (ap (λ b. cond b 1 (suc (problem_size ws))) (same w (e 0)))
size_some (w ∷ ws) (suc i) l e h =
    ap suc (size_some ws i (omega arith) e (tail w ws i h)) ∙ sym (ap (λ b. cond b 1 (suc (problem_size ws))) (other w (h 0 0 (omega arith) (omega arith))))

pub size_told : (ws : List ℕ) (r : Option ℕ) → First ws r → behind (length ws) r ≡ problem_size ws
size_told ws None h = size_none ws h
size_told ws (Some i) (l, e, h) = add-one i ∙ size_some ws i l e h

pub parted_told : (ws : List ℕ) (r : Option ℕ) → First ws r → PartedAt ws (behind (length ws) r)
parted_told ws None h = record { within = omega arith; none_before = λ k l. h k 0 (omega arith) (omega arith); ends = λ l. absurd (omega (arith, l)) }
parted_told ws (Some i) (l, e, h) = record { within = omega arith; none_before = λ k b. h k 0 (omega arith) (omega arith); ends = λ _. (i, refl, e 0) }
