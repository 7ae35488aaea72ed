-- What a check finds in a tidy table names entries that were given and a slot that has a word.
use Rattle.std.proofs.Common.{ℕ, zero, suc, ◌<◌, Bool, true, false, cond, eqb, List, [], ◌∷◌, length}
use Rattle.std.specs.List.{AllByRecursion}
use Rattle.machine.specs.State.{Slot, cell}
use Rattle.machine.specs.Walking.{Walked, ended, stopped, walk, walk_in}
use Rattle.machine.specs.Checking.{closed, merges, sides}
use Rattle.machine.proofs.Check.{on_cases}
use Rattle.rows.specs.Layout.{Raw, Tidy, Within, shown}
use Rattle.rows.specs.Walks.{Named}

-- the links of a path are below a number
abbrev pub Below : ℕ → List ℕ → Type 0
Below n = AllByRecursion (λ l. l < n)

-- a walk ends at a given entry, or stops before a slot that has a word
abbrev pub Comes : Raw → Walked → Type 0
Comes r (ended a) = a < r.given
Comes r (stopped t n) = Within r.shape r.given t

module _ (r : Raw) (tidy : Tidy r) where
  pub walk_comes : (ls : List ℕ) (e : ℕ) → e < r.given → Below r.shape.links ls → Comes r (walk (shown r).held e ls)
  unfolding walk
  walk_comes [] e h b = h
  walk_comes (l ∷ ls) e h b = on_cases (Comes r) ((shown r).held (cell e l)) (stopped (cell e l) (length ls)) (λ w. walk (shown r).held w ls)
      (λ q. (h, b.0))
      (λ w q. walk_comes ls w (tidy.given (cell e l) w q) b.1)

  pub walk_in_comes : (ls : List ℕ) (t : Slot) → Within r.shape r.given t → Below r.shape.links ls → Comes r (walk_in (shown r).held t ls)
  walk_in_comes ls t h b = on_cases (Comes r) ((shown r).held t) (stopped t (length ls)) (λ w. walk (shown r).held w ls)
      (λ q. h)
      (λ w q. walk_comes ls w (tidy.given t w q) b)

  pub sides_named : (v w : Walked) → Comes r v → Comes r w → Named r (sides v w)
  sides_named (ended a) (ended b) h k = go (eqb a b)
    where
      go : (t : Bool) → Named r (cond t closed (merges a b))
      go true = tt
      go false = (h, k)
  sides_named (ended a) (stopped t zero) h k = (k, h)
  sides_named (ended a) (stopped t (suc n)) h k = tt
  sides_named (stopped t zero) (ended b) h k = (h, k)
  sides_named (stopped t (suc n)) (ended b) h k = tt
  sides_named (stopped t n) (stopped u m) h k = tt
