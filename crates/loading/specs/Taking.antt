-- What a load answers and leaves in the work words.
use Rattle.std.specs.Prelude.{◌≡◌, ℕ, ◌+◌, ◌*◌, ◌<◌, ◌≤◌, List, length, take, drop, Ok, Err, Result}
use Rattle.bounded.specs.Listed.{listed}
use Rattle.problems.specs.Problem.{read}
use Rattle.problems.specs.Shown.{told, outline_of}
use Rattle.registers.specs.Meaning.{Meaning, Lawful}
use Rattle.registers.specs.Writing.{upto}
use Rattle.machine.specs.declared.answers.LoadFault.{LoadFault}
use Rattle.machine.specs.Loading.{sum, taken, load}
use Rattle.machine.specs.State.{start}
use Rattle.rows.specs.Sources.{kinds_of, counts_of, starts_of}
use Rattle.rows.specs.Layout.{Shape, Raw, Tidy, Carries, shown}
use Rattle.loading.specs.LoadedWords.{problem_in, Sourced, leaving, copy, Placed, taken_shown}
use Rattle.loading.specs.declared.Loading.{Loading}

-- the numbers of a load, and its words with no entry given
abbrev pub shape_of : Loading → Shape
shape_of l = record {
  kinds = kinds_of l.source;
  counts = counts_of l.source;
  starts = starts_of l.source;
  lands = l.lands;
  records = l.records;
  base = l.base;
  links = l.links;
  capacity = l.capacity;
}

abbrev pub fresh : Loading → List ℕ → Raw
fresh l ws = record { ws = ws; shape = shape_of l; given = 0; front = 0; waits = 0 }

-- the tests are passed, and every part has its place
pub record Planned (work : ℕ) (ws : List ℕ) (m : Meaning) (l : Loading) : Type 0 where
  pub told : told (Ok l.load.found) ≡ outline_of (read ws)
  pub sourced : Sourced ws l.load.found.source
  pub lawful : Lawful m
  pub load : load work ws m ≡ Ok (taken (problem_in ws) m l.capacity)
  pub kinds : kinds_of l.source ≡ l.load.found.source.kinds
  pub counts : counts_of l.source ≡ upto m.count (kinds_of l.source)
  pub starts : starts_of l.source ≡ upto (λ k. l.lands + sum m.count k) (kinds_of l.source)
  pub leads : listed l.load.leads ≡ upto (λ i. l.lands + l.records + sum (leaving (problem_in ws) m.count) i) l.load.found.source.links
  pub lands : l.lands ≡ length ws
  pub records : l.records ≡ sum m.count (kinds_of l.source)
  pub lot : l.records < 4096
  pub base : l.base ≡ l.lands + l.records + sum (leaving (problem_in ws) m.count) l.load.found.source.links
  pub links : l.links ≡ length (problem_in ws).target_links
  pub narrow : l.links ≤ 64
  pub small : l.capacity < 65536
  pub room : l.base + l.capacity * (l.links + 3) ≤ work

abbrev pub Plans : ℕ → List ℕ → Meaning → Result Loading LoadFault → Type 0
Plans work ws m (Ok l) = Planned work ws m l
Plans work ws m (Err e) = load work ws m ≡ Err e

-- an accepted load: the words show what the machine takes, at its start
pub record TakenIn (old ws : List ℕ) (m : Meaning) (l : Loading) (new : List ℕ) : Type 0 where
  pub load : load (length old) ws m ≡ Ok (taken_shown (listed l.load.leads) (fresh l new))
  pub told : told (Ok l.load.found) ≡ outline_of (read ws)
  pub problem : take l.lands new ≡ ws
  pub copied : copy (listed l.load.leads) (fresh l new) ≡ m
  pub placed : Placed (listed l.load.leads) (fresh l new)
  pub tidy : Tidy (fresh l new)
  pub starts : shown (fresh l new) ≡ start
  pub carries : Carries (taken_shown (listed l.load.leads) (fresh l new)) (shape_of l)
  pub behind : drop l.base new ≡ drop l.base old

-- a refused load changes no word
abbrev pub Takes : List ℕ → List ℕ → Meaning → Result Loading LoadFault → List ℕ → Type 0
Takes old ws m (Ok l) new = TakenIn old ws m l new
Takes old ws m (Err e) new = (load (length old) ws m ≡ Err e) × (new ≡ old)
