-- Which register files there are, and how they are laid out in words.
use Rattle.std.specs.Prelude.{◌≡◌, ℕ, ◌+◌, ◌*◌, ◌<◌, ◌≤◌, List, [], ◌∷◌, ◌++◌, map, length, Ok, slice_index}
use Rattle.std.specs.List.{flat_map, AllByRecursion}
use Rattle.words.specs.Tags.{tagged}
use Rattle.words.specs.Numbered.{Each}
use Rattle.register_files.specs.Register.{Row, File, read}
use Rattle.words.specs.declared.tags.Tag.TheVariants as tag

-- a link: its ends, then a record word for each record of its from kind
abbrev pub link_words : Row → List ℕ
link_words l = tagged tag.RegisterLink (l.from * 256 + l.to) ∷ map (tagged tag.Record) l.leads

-- the landings of a source kind: how many, then a record word for each
abbrev pub landing_words : Row → List ℕ
landing_words l = tagged tag.Landings (length l.leads * 65536 + l.from * 256 + l.to) ∷ map (tagged tag.Record) l.leads

-- all words but the end
abbrev pub before_end : File → List ℕ
before_end f = (tagged tag.Register (length f.counts) ∷ map (tagged tag.Count) f.counts) ++ (flat_map link_words f.links ++ flat_map landing_words f.landings)

-- the words of a register file
abbrev pub layout : File → List ℕ
layout f = before_end f ++ tagged tag.End (length (before_end f)) ∷ []

-- each record of the from kind leads to a counted record of the to kind
pub record GoodLink (cs : List ℕ) (l : Row) : Type 0 where
  pub from_known : l.from < length cs
  pub to_known : l.to < length cs
  pub full : length l.leads ≡ slice_index cs l.from
  pub counted : AllByRecursion (λ r. r < slice_index cs l.to) l.leads

-- the landings of the source kind n
pub record GoodLanding (cs : List ℕ) (n : ℕ) (l : Row) : Type 0 where
  pub numbered : l.from ≡ n
  pub to_known : l.to < length cs
  pub short : length l.leads < 4096
  pub counted : AllByRecursion (λ r. r < slice_index cs l.to) l.leads

-- within every limit
pub record WellFormed (f : File) : Type 0 where
  pub few_kinds : length f.counts ≤ 32
  pub small : AllByRecursion (λ c. c < 65536) f.counts
  pub few_links : length f.links ≤ 64
  pub links : AllByRecursion (GoodLink f.counts) f.links
  pub few_landings : length f.landings ≤ 32
  pub landings : Each (GoodLanding f.counts) 0 f.landings

-- accepted exactly if the words are the layout of a well-formed file
abbrev pub ReadsLayouts : Type 0
ReadsLayouts = (ws : List ℕ) (f : File) → (read ws ≡ Ok f → (ws ≡ layout f) × WellFormed f) × ((ws ≡ layout f) × WellFormed f → read ws ≡ Ok f)
