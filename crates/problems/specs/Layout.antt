-- Which problems there are, and how they are laid out in words.
use Rattle.std.specs.Prelude.{◌≡◌, ℕ, ◌+◌, ◌*◌, ◌<◌, ◌≤◌, List, [], ◌∷◌, ◌++◌, map, length, Ok, slice_index_or}
use Rattle.std.specs.List.{flat_map, AllByRecursion}
use Rattle.words.specs.Tags.{tagged}
use Rattle.words.specs.Numbered.{numbered, Each}
use Rattle.problems.specs.Problem.{Link, Rule, Problem, no_link, begins, stops, read}
use Rattle.words.specs.declared.tags.Tag.TheVariants as tag

abbrev pub link_words : Link → List ℕ
link_words l = tagged tag.Link (l.from * 256 + l.to) ∷ []

abbrev pub rule_words : Rule → List ℕ
rule_words r = tagged tag.Rule (r.first * 65536 + length r.left * 256 + length r.right) ∷ (map (tagged tag.Step) r.left ++ map (tagged tag.Step) r.right)

abbrev pub kind_words : ℕ → ℕ → List ℕ
kind_words n k = tagged tag.KindMap (n * 256 + k) ∷ []

abbrev pub map_words : ℕ → List ℕ → List ℕ
map_words n q = tagged tag.LinkMap (n * 256 + length q) ∷ map (tagged tag.Step) q

abbrev pub schema_words : ℕ → ℕ → List Link → List ℕ
schema_words side k ls = tagged tag.Schema (side * 256 + k) ∷ flat_map link_words ls

abbrev pub before_end : Problem → List ℕ
before_end p =
    schema_words 0 p.source_kinds p.source_links
    ++ (schema_words 1 p.target_kinds p.target_links
    ++ (flat_map rule_words p.rules
    ++ (numbered kind_words 0 p.kind_map ++ numbered map_words 0 p.link_map)))

abbrev pub layout : Problem → List ℕ
layout p = before_end p ++ tagged tag.End (length (before_end p)) ∷ []

pub record GoodLink (kinds : ℕ) (l : Link) : Type 0 where
  pub from_known : l.from < kinds
  pub to_known : l.to < kinds

pub record GoodSchema (k : ℕ) (ls : List Link) : Type 0 where
  pub some : 0 < k
  pub few : k ≤ 32
  pub few_links : length ls ≤ 64
  pub known : AllByRecursion (GoodLink k) ls

-- a path walks from a kind to a kind: each link leaves the kind reached
abbrev pub Walks : List Link → ℕ → List ℕ → ℕ → Type 0
Walks ts kind [] end = kind ≡ end
Walks ts kind (g ∷ gs) end = (g < length ts) × ((slice_index_or ts g no_link).from ≡ kind) × Walks ts (slice_index_or ts g no_link).to gs end

-- both paths walk from the first kind to one kind
pub record GoodRule (kinds : ℕ) (ts : List Link) (r : Rule) : Type 0 where
  pub known : r.first < kinds
  pub left_short : length r.left ≤ 64
  pub right_short : length r.right ≤ 64
  pub end : ℕ
  pub left_walks : Walks ts r.first r.left end
  pub right_walks : Walks ts r.first r.right end

-- the path of the source link n runs between the mapped kinds of its ends
pub record GoodMap (ss : List Link) (km : List ℕ) (ts : List Link) (n : ℕ) (q : List ℕ) : Type 0 where
  pub short : length q ≤ 64
  pub walks : Walks ts (begins ss km n) q (stops ss km n)

pub record WellFormed (p : Problem) : Type 0 where
  pub source : GoodSchema p.source_kinds p.source_links
  pub target : GoodSchema p.target_kinds p.target_links
  pub few_rules : length p.rules ≤ 128
  pub rules : AllByRecursion (GoodRule p.target_kinds p.target_links) p.rules
  pub kinds_full : length p.kind_map ≡ p.source_kinds
  pub kinds : AllByRecursion (λ k. k < p.target_kinds) p.kind_map
  pub maps_full : length p.link_map ≡ length p.source_links
  pub maps : Each (GoodMap p.source_links p.kind_map p.target_links) 0 p.link_map

-- accepted exactly if the words are the layout of a well-formed problem
abbrev pub ReadsLayouts : Type 0
ReadsLayouts = (ws : List ℕ) (p : Problem) → (read ws ≡ Ok p → (ws ≡ layout p) × WellFormed p) × ((ws ≡ layout p) × WellFormed p → read ws ≡ Ok p)

-- so no two files are read as one problem
abbrev pub ReadsOnce : Type 0
ReadsOnce = (ws vs : List ℕ) (p : Problem) → read ws ≡ Ok p → read vs ≡ Ok p → ws ≡ vs
