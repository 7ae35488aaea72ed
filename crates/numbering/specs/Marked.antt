-- A table under numbering: what stands in its words while xs are the entries met so far, and what a table must be that is numbered.
use Rattle.std.specs.Prelude.{◌≡◌, ℕ, zero, suc, ◌+◌, ◌<◌, ◌≤◌, false, cond, List, length, Some, ◌≢◌, slice_index}
use Rattle.machine.specs.Loaded.{Loaded}
use Rattle.machine.specs.State.{cell, landing, State, on}
use Rattle.machine.specs.Sequence.{member, nth, of_kind, of_cells, Numbers}
use Rattle.machine.specs.Finish.{tally, before, Bounds}
use Rattle.rows.specs.Layout.{Raw, Tidy, Carries, count, shown, word}
use Rattle.rows.specs.Sweeps.{HeldLive}
use Rattle.rows.specs.Writes.{over}
use Rattle.numbering.specs.declared.Numbering.{Numbering}

-- nothing waits, what is held lives, and there is a count for every kind
pub record Countable (r : Raw) : Type 0 where
  pub tidy : Tidy r
  pub quiet : r.waits ≡ 0
  pub live : HeldLive (shown r)
  pub kinds : (e : ℕ) → e < r.given → (shown r).kind e < 32

-- a complete table of what L took
pub record Ready (L : Loaded) (r : Raw) : Type 0 where
  pub carries : Carries L r.shape
  pub few : L.target_kinds ≤ 32
  pub numbers : Numbers L (shown r)
  pub bounds : Bounds L (shown r)
  pub landed : (k q : ℕ) → k < L.source_kinds → q < L.count k → (w : ℕ) × ((shown r).held (landing k q) ≡ Some w)
  pub defined : (e l : ℕ) → e < r.given → (shown r).forward e ≡ e → l < L.links → (shown r).kind e ≡ L.from l → (w : ℕ) × ((shown r).held (cell e l) ≡ Some w)

-- word j of entry e
abbrev pub row : Raw → ℕ → ℕ → ℕ
row r e j = word r.ws r.shape.base r.shape.links e j

-- of those met each was met once and lives
pub record Met (s : State) (xs : List ℕ) : Type 0 where
  pub once : (i j e : ℕ) → nth xs i ≡ Some e → nth xs j ≡ Some e → i ≡ j
  pub all : (i e : ℕ) → nth xs i ≡ Some e → (e < s.given) × (s.forward e ≡ e)

-- b has the words of a but for forwards and slots, and the slots have xs
pub record Kept (a b : Raw) (xs : List ℕ) : Type 0 where
  pub from : Countable a
  pub met : Met (shown a) xs
  pub numbers : b ≡ over a b.ws
  pub size : length b.ws ≡ length a.ws
  pub low : (i : ℕ) → i < b.shape.base → slice_index b.ws i ≡ slice_index a.ws i
  pub rest : (e j : ℕ) → j < b.shape.links + 3 → (j ≢ 1) → (j ≢ 2) → row b e j ≡ row a e j
  pub slots : (i e : ℕ) → nth xs i ≡ Some e → row b i 2 ≡ e

-- and the forwards of those met are their numbers
pub record Marked (a b : Raw) (xs : List ℕ) : Type 0 where
  pub kept : Kept a b xs
  pub forwards : (e : ℕ) → row b e 1 ≡ cond (member e xs) (65536 + tally (shown a).kind ((shown a).kind e) (before e xs)) (row a e 1)

-- so many were met, so many of each kind
pub record Tallied (s : State) (xs : List ℕ) (met : ℕ) (counts : List ℕ) : Type 0 where
  pub size : met ≡ length xs
  pub width : length counts ≡ 32
  pub counted : (k : ℕ) → k < 32 → slice_index counts k ≡ tally s.kind k xs

pub record Numbered (a b : Raw) (xs : List ℕ) (met : ℕ) (counts : List ℕ) : Type 0 where
  pub marked : Marked a b xs
  pub tallied : Tallied (shown a) xs met counts

-- e lives, and was not met yet
pub record Fresh (a : Raw) (xs : List ℕ) (e : ℕ) : Type 0 where
  pub below : e < a.given
  pub lives : (shown a).forward e ≡ e
  pub new : member e xs ≡ false

-- under numbering, and where e is the next
abbrev pub Counting : Raw → Numbering → Type 0
Counting b n = ∥ ((a : Raw) × (xs : List ℕ) × Numbered a b xs n.met n.counts) ∥₁

abbrev pub Next : Raw → Numbering → ℕ → Type 0
Next b n e = ∥ ((a : Raw) × (xs : List ℕ) × Numbered a b xs n.met n.counts × Fresh a xs e) ∥₁

-- the entries met become f of those met before
abbrev pub Grows : (Raw → List ℕ → List ℕ) → Raw → Numbering → Raw → Numbering → Type 0
Grows f b n c o = (a : Raw) (xs : List ℕ) → Numbered a b xs n.met n.counts → Numbered a c (f a xs) o.met o.counts

-- what the cells of the i-th of xs hold is met
abbrev pub visited : Raw → ℕ → List ℕ → List ℕ
visited a i xs = on (nth xs i) xs (λ e. of_cells (shown a) e a.shape.links xs)

-- the landings of the first k source kinds, and the cells of the first i
unfoldable pub of_kinds : Raw → ℕ → List ℕ → List ℕ
of_kinds a zero xs = xs
of_kinds a (suc k) xs = of_kind (shown a) k (count a.shape k) (of_kinds a k xs)

unfoldable pub of_rows : Raw → ℕ → List ℕ → List ℕ
of_rows a zero xs = xs
of_rows a (suc i) xs = visited a i (of_rows a i xs)

-- numbered, with so many met
abbrev pub Marks : Raw → ℕ → Type 0
Marks b met = (a : Raw) × (xs : List ℕ) × Marked a b xs × (met ≡ length xs)

-- the forwards of the first n of xs are back
pub record Restored (a b : Raw) (xs : List ℕ) (n : ℕ) : Type 0 where
  pub kept : Kept a b xs
  pub back : (e : ℕ) → ((i : ℕ) → nth xs i ≡ Some e → i < n) → row b e 1 ≡ row a e 1

abbrev pub Restoring : Raw → ℕ → Type 0
Restoring b i = (a : Raw) × (xs : List ℕ) × Kept a b xs × (i < length xs)
