-- The rows of the code, as words and numbers and as a state of the machine.
use Rattle.std.specs.Prelude.{ℕ, Bool}
use Rattle.machine.specs.State as machine
use Rattle.rows.specs.Layout.{Raw, Within, inside, shown, word, place}
use Rattle.rows.specs.Sources.{kinds_of, counts_of, starts_of}
use Rattle.rows.specs.declared.Rows.{Rows}
use Rattle.rows.specs.declared.Slot.{Slot}
use Rattle.rows.specs.declared.Slot.TheVariants.{Cell, Landing}

abbrev pub raw : Rows → Raw
raw t = record {
  ws = t.words.now;
  shape = record {
    kinds = kinds_of t.source;
    counts = counts_of t.source;
    starts = starts_of t.source;
    lands = t.lands;
    records = t.records;
    base = t.base;
    links = t.links;
    capacity = t.capacity;
  };
  given = t.given;
  front = t.front;
  waits = t.waits;
}

abbrev pub view : Rows → machine.State
view t = shown (raw t)

-- the machine's name of a slot
abbrev pub slot : Slot → machine.Slot
slot (Cell e l) = machine.cell e l
slot (Landing k r) = machine.landing k r

-- a slot that has a word
abbrev pub has : Rows → Slot → Bool
has t u = inside (raw t).shape t.given (slot u)

abbrev pub Has : Rows → Slot → Type 0
Has t u = Within (raw t).shape t.given (slot u)

-- word j of entry e, and where it lies
abbrev pub row : Rows → ℕ → ℕ → ℕ
row t e j = word t.words.now t.base t.links e j

abbrev pub at : Rows → ℕ → ℕ → ℕ
at t e j = place t.base t.links e j
