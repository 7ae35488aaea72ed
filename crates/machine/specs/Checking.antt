-- What a check finds and does.
use Rattle.std.specs.Prelude.{ℕ, zero, suc, cond, [], Some, ◌==◌}
use Rattle.machine.specs.Loaded.{Loaded}
use Rattle.machine.specs.State.{Slot, landing, State, hold}
use Rattle.machine.specs.Merging.{merge}
use Rattle.machine.specs.Walking.{Walked, ended, stopped, walk, walk_in}

pub data Effect : Type 0 where
  closed : Effect
  merges : ℕ → ℕ → Effect
  fills : Slot → ℕ → Effect
  stuck : Effect

abbrev pub sides : Walked → Walked → Effect
sides (ended a) (ended b) = cond (a == b) closed (merges a b)
sides (ended a) (stopped t zero) = fills t a
sides (ended a) (stopped t (suc n)) = stuck
sides (stopped t zero) (ended b) = fills t b
sides (stopped t (suc n)) (ended b) = stuck
sides (stopped t n) (stopped u m) = stuck

abbrev pub effect : Effect → State → State
effect closed s = s
effect (merges a b) s = merge a b s
effect (fills t a) s = hold t (Some a) s
effect stuck s = s

abbrev pub rule_effect : Loaded → State → ℕ → ℕ → Effect
rule_effect L s e i = sides (walk s.held e (L.left i)) (walk s.held e (L.right i))

abbrev pub link_effect : Loaded → State → ℕ → ℕ → Effect
link_effect L s i r = sides (walk_in s.held (landing (L.source_to i) (L.lead i r)) []) (walk_in s.held (landing (L.source_from i) r) (L.link_map i))
