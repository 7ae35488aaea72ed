-- Sweeping in place: what each step makes of the state, and what the steps keep.
use Rattle.std.specs.Prelude.{◌≡◌, ℕ, ◌<◌, Bool, false, cond, ◌&&◌, Some, ◌==◌, nat_lt}
use Rattle.machine.specs.State.{Slot, cell, landing, State}
use Rattle.machine.specs.Sweeping.{rank, pick, renamed}
use Rattle.rows.specs.Layout.{Raw, Shape, Fits, Same, count, shown, word}

-- what the slots of p hold gets its new number
abbrev pub renames : (Slot → Bool) → State → State
renames p s = record {
  given = s.given;
  kind = s.kind;
  forward = s.forward;
  held = λ t. cond (p t) (renamed (rank s.forward) (s.held t)) (s.held t);
  waiting = s.waiting;
}

-- the first n cells of entry e and of the entries below e, the first n landings of the source kind k, and those of the kinds below k
abbrev pub in_row : ℕ → ℕ → Slot → Bool
in_row e n (cell x l) = x == e && nat_lt l n
in_row e n (landing j q) = false

abbrev pub in_rows : ℕ → ℕ → Slot → Bool
in_rows e n (cell x l) = nat_lt x e && nat_lt l n
in_rows e n (landing j q) = false

abbrev pub in_kind : ℕ → ℕ → Slot → Bool
in_kind k n (cell x l) = false
in_kind k n (landing j q) = j == k && nat_lt q n

abbrev pub in_kinds : Shape → ℕ → Slot → Bool
in_kinds h k (cell x l) = false
in_kinds h k (landing j q) = nat_lt j k && nat_lt q (count h j)

-- the slot of entry h e in the place of e
abbrev pub at_entry : (ℕ → ℕ) → Slot → Slot
at_entry h (cell e l) = cell (h e) l
at_entry h (landing k q) = landing k q

-- entry h x stands in the place of each entry x, and the forwards are f
abbrev pub placed : (ℕ → ℕ) → (ℕ → ℕ) → State → State
placed h f s = record { given = s.given; kind = λ x. s.kind (h x); forward = f; held = λ t. s.held (at_entry h t); waiting = s.waiting }

-- entry e is written over entry k, which lives from then on
abbrev pub moves : ℕ → ℕ → State → State
moves e k s = placed (λ x. cond (x == k) e x) (λ x. cond (x == k) k (s.forward x)) s

-- that, where e lives
abbrev pub packs : ℕ → ℕ → State → State
packs e k s = cond (s.forward e == e) (moves e k s) s

-- the living below e are moved down, in their order
abbrev pub packed : ℕ → State → State
packed e s = placed (λ x. cond (nat_lt x (rank s.forward e)) (pick s.forward s.given x) x) (λ x. cond (nat_lt x (rank s.forward e)) x (s.forward x)) s

-- what is held lives
abbrev pub HeldLive : State → Type 0
HeldLive s = (t : Slot) (w : ℕ) → s.held t ≡ Some w → s.forward w ≡ w

-- what the steps keep: the numbers fit, nothing waits, and what is held was given
pub record Still (r : Raw) : Type 0 where
  pub fits : Fits r
  pub quiet : r.waits ≡ 0
  pub given : (t : Slot) (w : ℕ) → (shown r).held t ≡ Some w → w < r.given

-- a step from a to b
pub record Goes (a : Raw) (f : State → State) (b : Raw) : Type 0 where
  pub still : Still b
  pub state : shown b ≡ f (shown a)
  pub same : Same a b

-- the slot of each entry below n has its new number, the number of the living below it
abbrev pub Ranked : Raw → ℕ → Type 0
Ranked r n = (e : ℕ) → e < n → word r.ws r.shape.base r.shape.links e 2 ≡ rank (shown r).forward e
