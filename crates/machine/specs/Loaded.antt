-- What load took from a problem and a source.
use Rattle.std.specs.Prelude.{ℕ, List}

-- What load took: the target's kinds, links and rules, the source's kinds and links, the maps, the source's counts and where its links lead.
pub record Loaded : Type 0 where
  pub target_kinds : ℕ
  pub links : ℕ
  pub from : ℕ → ℕ
  pub to : ℕ → ℕ
  pub rules : ℕ
  pub first : ℕ → ℕ
  pub left : ℕ → List ℕ
  pub right : ℕ → List ℕ
  pub source_kinds : ℕ
  pub source_links : ℕ
  pub source_from : ℕ → ℕ
  pub source_to : ℕ → ℕ
  pub kind_map : ℕ → ℕ
  pub link_map : ℕ → List ℕ
  pub count : ℕ → ℕ
  pub lead : ℕ → ℕ → ℕ
  pub capacity : ℕ
