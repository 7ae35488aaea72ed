-- What is held stays held, up to living ends: merging, filling, and one step after another.
use Rattle.std.proofs.Common.{◌≡◌, ℕ, ◌<◌, ◌≤◌, Some, None, Option, sym, refl, ap, ◌∙◌, inl, inr, arith}
use Rattle.machine.specs.State.{Slot, cell, landing, State, put, hold, born}
use Rattle.machine.specs.Merging.{end, die, merge}
use Rattle.machine.proofs.Base.{chase_fix, chase_keeps, chase_lives, end_forward}
use Rattle.machine.proofs.Merge.{turned_cases, meet_cases}
use Rattle.machine.proofs.Fill.{put_there}

-- a cell in its living place, at the living end of the renamed entry; a landing is in its place
abbrev pub place : State → (ℕ → ℕ) → Slot → Slot
place z f (cell e l) = cell (end z (f e)) l
place z f (landing k r) = landing k r

-- z holds in the place of t a content with the living end of w
abbrev pub Found : State → (ℕ → ℕ) → Slot → ℕ → Type 0
Found z f t w = (u : Slot) × (v : ℕ) × (z.held u ≡ Some v) × (place z (λ x. x) u ≡ place z f t) × (end z v ≡ end z (f w))

pub record Kept (s z : State) (f : ℕ → ℕ) : Type 0 where
  pub numbered : (x : ℕ) → x < s.given → f x < z.given
  pub together : (x y : ℕ) → end s x ≡ end s y → end z (f x) ≡ end z (f y)
  pub found : (t : Slot) (w : ℕ) → s.held t ≡ Some w → Found z f t w

pub still : (z : State) (t : Slot) (w : ℕ) → z.held t ≡ Some w → Found z (λ x. x) t w
still z t w e = (t, w, e, refl, refl)

pub kept_none : (s : State) → Kept s s (λ x. x)
kept_none s = record { numbered = λ x h. h; together = λ x y q. q; found = still s }

module _ (y z : State) (f g : ℕ → ℕ) (joined : (a b : ℕ) → end y a ≡ end y b → end z (g a) ≡ end z (g b)) where
  place_then : (u t : Slot) → place y (λ x. x) u ≡ place y f t → place z g u ≡ place z (λ x. g (f x)) t
  place_then (cell d k) (cell e l) q = let p : end y d ≡ end y (f e) = cc in let j = joined d (f e) p in cc
  place_then (cell d k) (landing j r) q = cc
  place_then (landing j r) (cell e l) q = cc
  place_then (landing j r) (landing i q) p = p

pub kept_then : (s y z : State) (f g : ℕ → ℕ) → Kept s y f → Kept y z g → Kept s z (λ x. g (f x))
kept_then s y z f g a b = record {
  numbered = λ x h. b.numbered (f x) (a.numbered x h);
  together = λ x x' q. b.together (f x) (f x') (a.together x x' q);
  found = λ t w e.
      let m = a.found t w e in
      let n = b.found m.0 m.1 m.2 in
      (n.0, n.1, n.2, n.3 ∙ place_then y z f g b.together m.0 t m.3, n.4 ∙ b.together m.1 (f w) m.4);
}

-- the living end of a living end
pub end_end : (s : State) → ((x : ℕ) → s.forward x ≤ x) → (x : ℕ) → end s (end s x) ≡ end s x
end_end s lower x = chase_fix s.forward (end s x) (end s x) (chase_lives s.forward lower x x (omega arith))

-- merging: in z the forwards of s lead on to the same living ends, and a and b have one
record Joined (s : State) (a b : ℕ) (z : State) : Type 0 where
  steps : (x : ℕ) → end z (s.forward x) ≡ end z x
  meets : end z a ≡ end z b

joined_ends : (s : State) (a b : ℕ) (z : State) → Joined s a b z → (x : ℕ) → end z (end s x) ≡ end z x
joined_ends s a b z j x = chase_keeps s.forward (λ y. end z y ≡ end z x) (λ y q. j.steps y ∙ q) x x refl

module _ (s : State) (lower : (x : ℕ) → s.forward x ≤ x) where
  die_joined : (h l : ℕ) → s.forward h ≡ h → l < h → Joined s h l (die h l s)
  die_joined h l alive less =
      let onward = end_forward (die h l s).forward (λ x. elim (turned_cases s.forward h l x) [ inl e ↦ omega (arith, e.0, e.1, less) | inr e ↦ omega (arith, e.1, lower x) ]) in
      record {
        steps = λ x. elim (turned_cases s.forward h l x) [
          | inl e ↦ ap (end (die h l s)) (ap s.forward e.0 ∙ (alive ∙ sym e.0))
          | inr e ↦ ap (end (die h l s)) (sym e.1) ∙ onward x
        ];
        meets = elim (turned_cases s.forward h l h) [ inl e ↦ sym (onward h) ∙ ap (end (die h l s)) e.1 | inr e ↦ absurd (e.0 refl) ];
      }

  module _ (a b : ℕ) where
    ends_joined : Joined s (end s a) (end s b) (merge a b s)
    ends_joined = meet_cases (Joined s (end s a) (end s b)) (end s a) (end s b) s
        (λ q. let j = die_joined (end s b) (end s a) (living b) q in record { steps = j.steps; meets = sym j.meets })
        (λ q. die_joined (end s a) (end s b) (living a) q)
        (λ q. record { steps = end_forward s.forward lower; meets = ap (end s) q })
      where
        living : (x : ℕ) → s.forward (end s x) ≡ end s x
        living x = chase_lives s.forward lower x x (omega arith)

    merge_ends : (x : ℕ) → end (merge a b s) (end s x) ≡ end (merge a b s) x
    merge_ends = joined_ends s (end s a) (end s b) (merge a b s) ends_joined

    pub merge_one_end : end (merge a b s) a ≡ end (merge a b s) b
    merge_one_end = sym (merge_ends a) ∙ (ends_joined.meets ∙ merge_ends b)

    pub merge_kept : Kept s (merge a b s) (λ x. x)
    merge_kept = record {
      numbered = λ x h. meet_cases (λ z. x < z.given) (end s a) (end s b) s (λ q. h) (λ q. h) (λ q. h);
      together = λ x y q. sym (merge_ends x) ∙ (ap (end (merge a b s)) q ∙ merge_ends y);
      found = λ t w e. still (merge a b s) t w (meet_cases (λ z. z.held t ≡ Some w) (end s a) (end s b) s (λ q. e) (λ q. e) (λ q. e));
    }

-- filling an empty slot, with an old entry or a new one
module _ (s : State) (t : Slot) (none : s.held t ≡ None) where
  put_kept : (o : Option ℕ) (u : Slot) (w : ℕ) → s.held u ≡ Some w → put t o s.held u ≡ Some w
  put_kept o u w e = put_there t o s.held u (λ q. cc) ∙ e

  pub fill_kept : (a : ℕ) → Kept s (hold t (Some a) s) (λ x. x)
  fill_kept a = record { numbered = λ x h. h; together = λ x y q. q; found = λ u w e. still (hold t (Some a) s) u w (put_kept (Some a) u w e) }

  pub born_kept : (k : ℕ) → Kept s (born k t s) (λ x. x)
  born_kept k = record { numbered = λ x h. omega (arith, h); together = λ x y q. q; found = λ u w e. still (born k t s) u w (put_kept (Some s.given) u w e) }
