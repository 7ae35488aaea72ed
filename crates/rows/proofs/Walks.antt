-- A walk by the first and by the last step of its path.
use Rattle.std.proofs.Common.{◌≡◌, ℕ, ◌+◌, ◌-◌, ◌<◌, ◌≤◌, List, [], ◌∷◌, ◌++◌, length, get_or, take, drop, Some, None, Option, sym, refl, ap, ◌∙◌, add-one, arith}
use Rattle.std.proofs.lemmas.List.{take_rest, take_all, length_push, map_more}
use Rattle.words.specs.Words.{fields}
use Rattle.machine.specs.State.{Slot, cell, on}
use Rattle.machine.specs.Walking.{Walked, ended, stopped, walk, walk_in}
use Rattle.rows.specs.Walks.{Way, ends, far, links, ended_at, side_of}

-- all but the last step, and then that one
abbrev pub then_last : (Slot → Option ℕ) → ℕ → Walked → Way
then_last h l (ended x) = side_of (walk_in h (cell x l) [])
then_last h l (stopped t n) = far

module _ (h : Slot → Option ℕ) where
  -- the empty path, and one by its first step
  pub walk_empty : (p : List ℕ) (e : ℕ) → length p < 1 → ended e ≡ walk h e (links p)
  unfolding walk
  walk_empty [] e n = refl
  walk_empty (w ∷ ws) e n = absurd (omega arith)

  pub first_empty : (p : List ℕ) (e : ℕ) → 1 ≤ length p → h (cell e (fields (get_or p 0 0))) ≡ None → None ≡ ended_at (walk h e (links p))
  unfolding walk
  first_empty [] e n o = absurd (omega arith)
  first_empty (w ∷ ws) e n o = rw o

  pub first_filled : (p : List ℕ) (e x : ℕ) → 1 ≤ length p → h (cell e (fields (get_or p 0 0))) ≡ Some x → walk h x (links (take (length p - 1) (drop 1 p))) ≡ walk h e (links p)
  unfolding walk
  first_filled [] e x n o = absurd (omega arith)
  first_filled (w ∷ ws) e x n o = ap (λ (r : List ℕ). walk h x (links r)) (take_rest (w ∷ ws) 1) ∙ rw o

  -- a path of links by its last step
  pub walk_last : (ls : List ℕ) (l e : ℕ) → side_of (walk h e (ls ++ l ∷ [])) ≡ then_last h l (walk h e ls)
  unfolding walk
  walk_last [] l e = refl
  walk_last (m ∷ ls) l e = elim (h (cell e m)) as (λ o. side_of (on o (stopped (cell e m) (length (ls ++ l ∷ []))) (λ w. walk h w (ls ++ l ∷ []))) ≡ then_last h l (on o (stopped (cell e m) (length ls)) (λ w. walk h w ls))) [
    | None ↦ rw (length_push ls l, add-one (length ls))
    | Some x ↦ walk_last ls l x
  ]

  -- through a slot first
  pub step_filled : (t : Slot) (x : ℕ) → h t ≡ Some x → ends x ≡ side_of (walk_in h t [])
  unfolding walk
  step_filled t x o = rw o

  -- a path of words by its last step
  parted : (p : List ℕ) (e : ℕ) → 1 ≤ length p → side_of (walk h e (links p)) ≡ then_last h (fields (get_or p (length p - 1) 0)) (walk h e (links (take (length p - 1) p)))
  parted p e n =
      let whole : take (length p - 1 + 1) p ≡ p = take_all (length p - 1 + 1) p (omega arith) in
      ap (λ (q : List ℕ). side_of (walk h e (links q))) (sym whole)
      ∙ ap (λ (ls : List ℕ). side_of (walk h e ls)) (map_more fields p (length p - 1) 0 (omega arith))
      ∙ walk_last (links (take (length p - 1) p)) (fields (get_or p (length p - 1) 0)) e

  early : (l : ℕ) (w : Walked) → None ≡ ended_at w → far ≡ then_last h l w
  early l (ended x) o = absurd (let z : ◌≡◌ {A = ℕ} 0 1 = cc in omega arith)
  early l (stopped t n) o = refl

  late : (l x : ℕ) (w : Walked) → Some x ≡ ended_at w → side_of (walk_in h (cell x l) []) ≡ then_last h l w
  late l x (ended y) o = let z : x ≡ y = cc in rw z refl
  late l x (stopped t n) o = absurd (let z : ◌≡◌ {A = ℕ} 0 1 = cc in omega arith)

  pub side_far : (p : List ℕ) (e : ℕ) → 1 ≤ length p → None ≡ ended_at (walk h e (links (take (length p - 1) p))) → far ≡ side_of (walk h e (links p))
  side_far p e n o = early _ _ o ∙ sym (parted p e n)

  pub side_near : (p : List ℕ) (e x l : ℕ) → 1 ≤ length p → Some x ≡ ended_at (walk h e (links (take (length p - 1) p))) → l ≡ fields (get_or p (length p - 1) 0) →
      side_of (walk_in h (cell x l) []) ≡ side_of (walk h e (links p))
  side_near p e x l n o q = rw q (late _ x _ o ∙ sym (parted p e n))
