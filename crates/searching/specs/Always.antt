-- What a search says of what the machine does.
use Rattle.bounded.specs.Listed.{listed}
use Rattle.machine.specs.Loaded.{Loaded}
use Rattle.machine.specs.State.{State}
use Rattle.rows.specs.Standing.{Holds}
use Rattle.rows.specs.View.{raw, view}
use Rattle.searching.specs.declared.search.Search.{Search}

-- what holds of the state that the rows show, whatever was loaded
abbrev pub Always : Search → (Loaded → State → Type 0) → Type 0
Always x P = (L : Loaded) → Holds L (raw x.rows.now) x.load.now.found (listed x.load.now.leads) → P L (view x.rows.now)
