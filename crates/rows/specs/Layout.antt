-- How a table lies in its work words: the problem, from `lands` on the landings, then where the source's links lead, and from `base` on the entries.
-- Entry e has links + 3 words: its kind, its forward, a slot of the waiting list, and its cells. A cell or a landing is 0 where it is empty, else one more
-- than the entry that it holds. The i-th that waits stands in the slot of entry number front + i.
use Rattle.std.specs.Prelude.{◌≡◌, ℕ, ◌+◌, ◌-◌, ◌*◌, ◌<◌, ◌≤◌, Bool, cond, ◌&&◌, ◌⊎◌, List, map, length, Some, None, Option, ◌==◌, nat_lt, slice_index}
use Rattle.std.specs.List.{range_with_len}
use Rattle.machine.specs.Loaded.{Loaded}
use Rattle.machine.specs.Loading.{sum}
use Rattle.machine.specs.State.{Slot, cell, landing, State}
use Rattle.machine.specs.Sweeping.{rank}

-- the numbers that no call changes: the source's kinds, the records of each and the place of its first landing, and where the parts lie
pub record Shape : Type 0 where
  pub kinds : ℕ
  pub counts : List ℕ
  pub starts : List ℕ
  pub lands : ℕ
  pub records : ℕ
  pub base : ℕ
  pub links : ℕ
  pub capacity : ℕ

abbrev pub count : Shape → ℕ → ℕ
count h k = slice_index h.counts k

-- the words and the numbers of a table
pub record Raw : Type 0 where
  pub ws : List ℕ
  pub shape : Shape
  pub given : ℕ
  pub front : ℕ
  pub waits : ℕ

-- the numbers fit the words, and the landings are stacked
pub record Fits (r : Raw) : Type 0 where
  pub below : r.shape.lands + r.shape.records ≤ r.shape.base
  pub room : r.shape.base + r.shape.capacity * (r.shape.links + 3) ≤ length r.ws
  pub few : r.given ≤ r.shape.capacity
  pub small : r.shape.capacity < 65536
  pub narrow : r.shape.links ≤ 64
  pub lot : r.shape.records < 4096
  pub sorts : r.shape.kinds ≤ 32
  pub stacked : (k : ℕ) → k < r.shape.kinds → slice_index r.shape.starts k ≡ r.shape.lands + sum (count r.shape) k
  pub total : r.shape.records ≡ sum (count r.shape) r.shape.kinds

-- the place of word j of entry e
abbrev pub place : ℕ → ℕ → ℕ → ℕ → ℕ
place base links e j = base + e * (links + 3) + j

unfoldable pub word : List ℕ → ℕ → ℕ → ℕ → ℕ → ℕ
word ws base links e j = slice_index ws (place base links e j)

-- the place of a slot's word
abbrev pub spot : Shape → Slot → ℕ
spot h (cell e l) = place h.base h.links e (3 + l)
spot h (landing k q) = slice_index h.starts k + q

-- the slots that have words, while so many entries are given
abbrev pub inside : Shape → ℕ → Slot → Bool
inside h given (cell e l) = nat_lt e given && nat_lt l h.links
inside h given (landing k q) = nat_lt k h.kinds && nat_lt q (count h k)

abbrev pub Within : Shape → ℕ → Slot → Type 0
Within h given (cell e l) = (e < given) × (l < h.links)
Within h given (landing k q) = (k < h.kinds) × (q < count h k)

-- what a slot's word says
abbrev pub decode : ℕ → Option ℕ
decode n = cond (n == 0) None (Some (n - 1))

-- each part of the state, by the words, with the machine's value where there is no such entry or slot
unfoldable pub kind_of : Raw → ℕ → ℕ
kind_of r = λ e. cond (nat_lt e r.given) (word r.ws r.shape.base r.shape.links e 0) 0

unfoldable pub forward_of : Raw → ℕ → ℕ
forward_of r = λ e. cond (nat_lt e r.given) (word r.ws r.shape.base r.shape.links e 1) e

unfoldable pub held_of : Raw → Slot → Option ℕ
held_of r = λ t. cond (inside r.shape r.given t) (decode (slice_index r.ws (spot r.shape t))) None

unfoldable pub waiting_of : Raw → List ℕ
waiting_of r = map (λ i. word r.ws r.shape.base r.shape.links i 2) (range_with_len r.front r.waits)

-- the state that the words show
abbrev pub shown : Raw → State
shown r = record { given = r.given; kind = kind_of r; forward = forward_of r; held = held_of r; waiting = waiting_of r }

-- what every call keeps: forwards lead down, what is held was given, and as many have waited since the last sweep as are dead
pub record Tidy (r : Raw) : Type 0 where
  pub fits : Fits r
  pub lower : (x : ℕ) → (shown r).forward x ≤ x
  pub given : (t : Slot) (w : ℕ) → (shown r).held t ≡ Some w → w < r.given
  pub queued : r.front + r.waits + rank (shown r).forward r.given ≡ r.given

-- the places of the problem's words and of the source's answers
abbrev pub Copied : Shape → ℕ → Type 0
Copied h i = (i < h.lands) ⊎ ((h.lands + h.records ≤ i) × (i < h.base))

-- those words and the fixed numbers are the same
pub record Same (a b : Raw) : Type 0 where
  pub shape : b.shape ≡ a.shape
  pub size : length b.ws ≡ length a.ws
  pub copies : (i : ℕ) → Copied a.shape i → slice_index b.ws i ≡ slice_index a.ws i

-- a becomes b, which shows what f makes of the state that a shows
pub record Becomes (a : Raw) (f : State → State) (b : Raw) : Type 0 where
  pub tidy : Tidy b
  pub state : shown b ≡ f (shown a)
  pub same : Same a b

-- what load took has these numbers
pub record Carries (L : Loaded) (h : Shape) : Type 0 where
  pub links : L.links ≡ h.links
  pub capacity : L.capacity ≡ h.capacity
  pub kinds : L.source_kinds ≡ h.kinds
  pub counts : (k : ℕ) → k < h.kinds → L.count k ≡ count h k
