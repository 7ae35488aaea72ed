-- What finish writes.
use Rattle.std.specs.Prelude.{◌≡◌, ℕ, zero, suc, ◌<◌, ◌≤◌, cond, List, [], ◌∷◌, ◌++◌, length, drop, Some, None, Ok, Err, Option, Result, ◌==◌, nat_le}
use Rattle.words.specs.declared.faults.Refusal.{Refusal}
use Rattle.register_files.specs.Register.{File}
use Rattle.register_files.specs.Layout.{layout}
use Rattle.registers.specs.Writing.{upto}
use Rattle.words.specs.declared.faults.Refusal.TheVariants as refusal
use Rattle.machine.specs.Loaded.{Loaded}
use Rattle.machine.specs.State.{cell, landing, State, start, on, waits}
use Rattle.machine.specs.Sweeping.{renamed}
use Rattle.machine.specs.Calls.{Op}
use Rattle.machine.specs.Readings.{Accepted}
use Rattle.machine.specs.Shift.{Call, calls, next}
use Rattle.machine.specs.Complete.{Complete}
use Rattle.machine.specs.Sequence.{sequence}

-- how many of xs have the kind k
unfoldable pub tally : (ℕ → ℕ) → ℕ → List ℕ → ℕ
tally kind k [] = 0
tally kind k (x ∷ xs) = cond (kind x == k) (suc (tally kind k xs)) (tally kind k xs)

-- those of xs that stand before e
unfoldable pub before : ℕ → List ℕ → List ℕ
before e [] = []
before e (x ∷ xs) = cond (x == e) [] (x ∷ before e xs)

-- the one of xs that has the kind k and n of that kind before it
abbrev pub first_or : ℕ → ℕ → (ℕ → ℕ) → ℕ
first_or zero x f = x
first_or (suc n) x f = f n

unfoldable pub entry_in : (ℕ → ℕ) → ℕ → List ℕ → ℕ → ℕ
entry_in kind k [] n = 0
entry_in kind k (x ∷ xs) n = cond (kind x == k) (first_or n x (entry_in kind k xs)) (entry_in kind k xs n)

-- The numbering: the number of an entry within its kind, and the entry of a number.
abbrev pub number : Loaded → State → ℕ → ℕ
number L s e = tally s.kind (s.kind e) (before e (sequence L s))

abbrev pub entry : Loaded → State → ℕ → ℕ → ℕ
entry L s k n = entry_in s.kind k (sequence L s) n

-- The register that it gives: counts, where links lead, and where the landings are.
abbrev pub count_of : Loaded → State → ℕ → ℕ
count_of L s k = tally s.kind k (sequence L s)

abbrev pub lead_of : Loaded → State → ℕ → ℕ → ℕ
lead_of L s l n = on (s.held (cell (entry L s (L.from l) n) l)) 0 (number L s)

abbrev pub at_of : Loaded → State → ℕ → ℕ → ℕ
at_of L s k r = on (s.held (landing k r)) 0 (number L s)

-- The register file that it gives, with a landings word for each source kind.
abbrev pub register_file : Loaded → (ℕ → ℕ) → (ℕ → ℕ → ℕ) → (ℕ → ℕ → ℕ) → File
register_file L count lead at = record {
  counts = upto count L.target_kinds;
  links = upto (λ l. record { from = L.from l; to = L.to l; leads = upto (lead l) (count (L.from l)) }) L.links;
  landings = upto (λ k. record { from = k; to = L.kind_map k; leads = upto (at k) (L.count k) }) L.source_kinds;
}

abbrev pub finished_file : Loaded → State → File
finished_file L s = register_file L (count_of L s) (lead_of L s) (at_of L s)

abbrev pub finish_words : Loaded → State → List ℕ
finish_words L s = layout (finished_file L s)

abbrev pub with_capacity : ℕ → Loaded → Loaded
with_capacity c L = record {
  target_kinds = L.target_kinds;
  links = L.links;
  from = L.from;
  to = L.to;
  rules = L.rules;
  first = L.first;
  left = L.left;
  right = L.right;
  source_kinds = L.source_kinds;
  source_links = L.source_links;
  source_from = L.source_from;
  source_to = L.source_to;
  kind_map = L.kind_map;
  link_map = L.link_map;
  count = L.count;
  lead = L.lead;
  capacity = c;
}

-- Two tables are alike: the living entries of one stand for those of the other, one to one, with their kinds, landings and cells.
pub record Alike (s z : State) (f g : ℕ → ℕ) : Type 0 where
  pub living : (e : ℕ) → e < s.given → s.forward e ≡ e → (f e < z.given) × (z.forward (f e) ≡ f e) × (z.kind (f e) ≡ s.kind e) × (g (f e) ≡ e)
  pub landings : (k r : ℕ) → z.held (landing k r) ≡ renamed f (s.held (landing k r))
  pub cells : (e l : ℕ) → e < s.given → s.forward e ≡ e → z.held (cell (f e) l) ≡ renamed f (s.held (cell e l))

abbrev pub OneTable : Type 0
OneTable = (L : Loaded) → Accepted L → (b c : ℕ) (cs ds : List Call) →
    Complete (with_capacity b L) (calls (with_capacity b L) cs start) → Complete (with_capacity c L) (calls (with_capacity c L) ds start) →
    (f : ℕ → ℕ) × (g : ℕ → ℕ) × Alike (calls (with_capacity b L) cs start) (calls (with_capacity c L) ds start) f g × Alike (calls (with_capacity c L) ds start) (calls (with_capacity b L) cs start) g f

-- A count fits where the capacity does, and there are no records of other kinds than the target's.
pub record Bounds (L : Loaded) (s : State) : Type 0 where
  pub few : (k : ℕ) → count_of L s k ≤ L.capacity
  pub other : (k : ℕ) → L.target_kinds ≤ k → count_of L s k ≡ 0

abbrev pub FinishBounds : Type 0
FinishBounds = (L : Loaded) → Accepted L → (cs : List Call) → (calls L cs start).waiting ≡ [] → Bounds L (calls L cs start)

-- finish refuses while one waits, and where a step finds something to do
abbrev pub unfinished : Option Op → Option Refusal
unfinished None = None
unfinished (Some o) = Some refusal.Incomplete

abbrev pub finish_fault : Loaded → State → Option Refusal
finish_fault L s = cond (waits s.waiting) (Some refusal.Waiting) (unfinished (next L s))

-- words at the front of the output; what lies behind them stays
abbrev pub put_words : Option Refusal → List ℕ → List ℕ → Result ℕ Refusal × List ℕ
put_words (Some f) ws out = (Err f, out)
put_words None ws out = cond (nat_le (length ws) (length out)) (Ok (length ws), ws ++ drop (length ws) out) (Err refusal.Memory, out)

-- the answer of finish, and the output after it
abbrev pub finish : Loaded → State → List ℕ → Result ℕ Refusal × List ℕ
finish L s out = put_words (finish_fault L s) (finish_words L s) out

-- finish accepts exactly the complete tables
abbrev pub FinishAccepts : Type 0
FinishAccepts = (L : Loaded) → Accepted L → (cs : List Call) → (finish_fault L (calls L cs start) ≡ None → Complete L (calls L cs start)) × (Complete L (calls L cs start) → finish_fault L (calls L cs start) ≡ None)
