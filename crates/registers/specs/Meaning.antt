-- What a register means: its five answers at every number.
use Rattle.std.specs.Prelude.{◌≡◌, ℕ, ◌<◌, ◌≤◌, cond, List, [], length, Some, None, Ok, Err, Option, Result, nat_lt, slice_index, slice_index_or}
use Rattle.words.specs.declared.faults.SchemaFault.{SchemaFault}
use Rattle.register_files.specs.Register.{Row, File, read}

pub record Meaning : Type 0 where
  pub kinds : ℕ
  pub links : ℕ
  pub ends : ℕ → Option (ℕ × ℕ)
  pub count : ℕ → ℕ
  pub follow : ℕ → ℕ → Option ℕ

-- an answer that is there
abbrev pub Given : {X : Type 0} → Option X → Type 0
Given (Some x) = Unit {0}
Given None = ⊥

-- What every register keeps to: an unknown kind counts 0; the known links are those that have ends;
-- an unknown link or an uncounted record leads to nothing.
pub record Lawful (m : Meaning) : Type 0 where
  pub unknown_kind : (k : ℕ) → m.kinds ≤ k → m.count k ≡ 0
  pub known_link : (l : ℕ) → l < m.links → Given (m.ends l)
  pub unknown_link : (l : ℕ) → m.links ≤ l → m.ends l ≡ None
  pub leads_unknown : (l r : ℕ) → m.links ≤ l → m.follow l r ≡ None
  pub leads_uncounted : (l r : ℕ) (e : ℕ × ℕ) → m.ends l ≡ Some e → m.count e.0 ≤ r → m.follow l r ≡ None

abbrev pub no_row : Row
no_row = record { from = 0; to = 0; leads = [] }

abbrev pub row_at : File → ℕ → Row
row_at f l = slice_index_or f.links l no_row

-- the answers of a register file
abbrev pub answers : File → Meaning
answers f = record {
  kinds = length f.counts;
  links = length f.links;
  ends = λ l. cond (nat_lt l (length f.links)) (Some ((row_at f l).from, (row_at f l).to)) None;
  count = λ k. slice_index f.counts k;
  follow = λ l r. cond (nat_lt l (length f.links)) (cond (nat_lt r (length (row_at f l).leads)) (Some (slice_index (row_at f l).leads r)) None) None;
}

-- a file with no kinds
abbrev pub no_file : File
no_file = record { counts = []; links = []; landings = [] }

abbrev pub or_none : Result File SchemaFault → File
or_none (Ok f) = f
or_none (Err e) = no_file

-- the file in these words
unfoldable pub file : List ℕ → File
file ws = or_none (read ws)
