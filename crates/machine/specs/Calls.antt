-- The calls that change a table, with their refusals in order.
use Rattle.std.specs.Prelude.{ℕ, cond, ◌&&◌, Some, None, Option, ◌==◌, nat_lt}
use Rattle.words.specs.declared.faults.Refusal.{Refusal}
use Rattle.words.specs.declared.faults.Refusal.TheVariants as refusal
use Rattle.machine.specs.Loaded.{Loaded}
use Rattle.machine.specs.State.{cell, landing, State, filled, waits, lives, born}
use Rattle.machine.specs.Checking.{effect, rule_effect, link_effect}
use Rattle.machine.specs.Settling.{settled}
use Rattle.machine.specs.Sweeping.{swept}

abbrev pub land_fault : Loaded → State → ℕ → ℕ → Option Refusal
land_fault L s k r = cond (waits s.waiting) (Some refusal.Waiting) (cond (nat_lt k L.source_kinds && nat_lt r (L.count k)) (cond (filled (s.held (landing k r))) (Some refusal.Filled) (cond (nat_lt s.given L.capacity) None (Some refusal.Full))) (Some refusal.NotLiving))

abbrev pub define_fault : Loaded → State → ℕ → ℕ → Option Refusal
define_fault L s e l = cond (waits s.waiting) (Some refusal.Waiting) (cond (lives s e && (nat_lt l L.links && s.kind e == L.from l)) (cond (filled (s.held (cell e l))) (Some refusal.Filled) (cond (nat_lt s.given L.capacity) None (Some refusal.Full))) (Some refusal.NotLiving))

abbrev pub rule_fault : Loaded → State → ℕ → ℕ → Option Refusal
rule_fault L s e i = cond (waits s.waiting) (Some refusal.Waiting) (cond (lives s e && (nat_lt i L.rules && s.kind e == L.first i)) None (Some refusal.NotLiving))

abbrev pub link_fault : Loaded → State → ℕ → ℕ → Option Refusal
link_fault L s i r = cond (waits s.waiting) (Some refusal.Waiting) (cond (nat_lt i L.source_links && nat_lt r (L.count (L.source_from i))) None (Some refusal.NotLiving))

abbrev pub settle_fault : State → Option Refusal
settle_fault s = cond (waits s.waiting) None (Some refusal.NoneWaits)

abbrev pub sweep_fault : State → Option Refusal
sweep_fault s = cond (waits s.waiting) (Some refusal.Waiting) None

pub data Op : Type 0 where
  land : ℕ → ℕ → Op
  define : ℕ → ℕ → Op
  check_rule : ℕ → ℕ → Op
  check_link : ℕ → ℕ → Op
  settle : Op
  sweep : Op

abbrev pub unless : Option Refusal → State → State → State
unless None s after = after
unless (Some n) s after = s

abbrev pub apply : Loaded → Op → State → State
apply L (land k r) s = unless (land_fault L s k r) s (born (L.kind_map k) (landing k r) s)
apply L (define e l) s = unless (define_fault L s e l) s (born (L.to l) (cell e l) s)
apply L (check_rule e i) s = unless (rule_fault L s e i) s (effect (rule_effect L s e i) s)
apply L (check_link i r) s = unless (link_fault L s i r) s (effect (link_effect L s i r) s)
apply L settle s = unless (settle_fault s) s (settled L s)
apply L sweep s = unless (sweep_fault s) s (swept s)
