-- The walks and effects of the code, as those of the machine.
use Rattle.std.specs.Prelude.{ℕ, zero, suc, ◌<◌, cond, List, map, Some, None, Option, ◌==◌}
use Rattle.words.specs.Words.{fields}
use Rattle.machine.specs.State as machine
use Rattle.machine.specs.Walking.{Walked, ended, stopped}
use Rattle.machine.specs.Checking as check
use Rattle.rows.specs.Layout.{Raw, Within}
use Rattle.rows.specs.View.{slot}
use Rattle.rows.specs.declared.walking.Side.{Side}
use Rattle.rows.specs.declared.walking.Side.TheVariants.{End, Gap, Far}
use Rattle.rows.specs.declared.checking.Effect.{Effect}
use Rattle.rows.specs.declared.checking.Effect.TheVariants.{Closed, Merges, Fills, Stuck}

-- the links of a path's words
abbrev pub links : List ℕ → List ℕ
links = map fields

-- the entry where a walk ends
abbrev pub ended_at : Walked → Option ℕ
ended_at (ended a) = Some a
ended_at (stopped t n) = None

-- a side of a check ends at an entry, or lacks only its last step, or more
pub data Way : Type 0 where
  ends : ℕ → Way
  lacks : machine.Slot → Way
  far : Way

abbrev pub side_of : Walked → Way
side_of (ended a) = ends a
side_of (stopped t zero) = lacks t
side_of (stopped t (suc n)) = far

-- what two sides come to
abbrev pub found : Way → Way → check.Effect
found (ends a) (ends b) = cond (a == b) check.closed (check.merges a b)
found (ends a) (lacks t) = check.fills t a
found (ends a) far = check.stuck
found (lacks t) (ends b) = check.fills t b
found (lacks t) (lacks u) = check.stuck
found (lacks t) far = check.stuck
found far w = check.stuck

-- the code's sides and effects
abbrev pub shown_side : Side → Way
shown_side (End a) = ends a
shown_side (Gap t) = lacks (slot t)
shown_side Far = far

abbrev pub shown_effect : Effect → check.Effect
shown_effect Closed = check.closed
shown_effect (Merges a b) = check.merges a b
shown_effect (Fills t a) = check.fills (slot t) a
shown_effect Stuck = check.stuck

-- the entries and the slot that an effect names are there
abbrev pub Named : Raw → check.Effect → Type 0
Named r check.closed = Unit {0}
Named r (check.merges a b) = (a < r.given) × (b < r.given)
Named r (check.fills t a) = Within r.shape r.given t × (a < r.given)
Named r check.stuck = Unit {0}
