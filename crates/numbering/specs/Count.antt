-- How a count goes on.
use Rattle.std.specs.Prelude.{◌≡◌, ℕ, List}
use Rattle.rows.specs.Layout.{Raw}
use Rattle.rows.specs.View.{raw}
use Rattle.numbering.specs.declared.Count.{Count}
use Rattle.numbering.specs.declared.Numbering.{Numbering}
use Rattle.numbering.specs.Marked.{Grows}

-- a count: which reference it holds, the rows behind that, and what was met
pub record Seen : Type 0 where
  pub name : ℕ
  pub rows : Raw
  pub numbering : Numbering

abbrev pub seen : Count → Seen
seen n = record { name = n.rows.ghost_name; rows = raw n.rows.now; numbering = n.numbering }

-- behind the same reference the entries met become f of those met before
pub record Meets (f : Raw → List ℕ → List ℕ) (n o : Seen) : Type 0 where
  pub same : o.name ≡ n.name
  pub grows : Grows f n.rows n.numbering o.rows o.numbering
