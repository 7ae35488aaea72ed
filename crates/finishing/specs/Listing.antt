-- What a listing says of every table that its words list.
use Rattle.machine.specs.Loaded.{Loaded}
use Rattle.machine.specs.State.{State}
use Rattle.rows.specs.View.{raw}
use Rattle.finishing.specs.declared.Listing.{Listing}
use Rattle.finishing.specs.Written.{Always}

abbrev pub Each : Listing → (Loaded → State → Type 0) → Type 0
Each t P = Always (raw t.rows.now) t.found.now t.numbering.now.met t.numbering.now.counts P
