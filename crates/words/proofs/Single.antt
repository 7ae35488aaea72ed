-- One word: what a reading of it tells, and which words are read.
use Rattle.std.proofs.Common.{◌≡◌, ℕ, ◌<◌, ◌≤◌, List, length, get_or, Ok, arith, lit≤}
use Rattle.std.proofs.lemmas.Bool.Decides.{nat_tests}
use Rattle.words.specs.declared.tags.Tag.{Tag}
use Rattle.words.specs.Tags.{tagged, size}
use Rattle.words.specs.Words.{word}
use Rattle.words.specs.declared.tags.Tag.TheVariants as tag

size_fits : (t : Tag) → size t ≤ 268435456
size_fits tag.Schema = lit≤ tt
size_fits tag.Link = lit≤ tt
size_fits tag.Rule = lit≤ tt
size_fits tag.Step = lit≤ tt
size_fits tag.KindMap = lit≤ tt
size_fits tag.LinkMap = lit≤ tt
size_fits tag.End = lit≤ tt
size_fits tag.Register = lit≤ tt
size_fits tag.Count = lit≤ tt
size_fits tag.RegisterLink = lit≤ tt
size_fits tag.Record = lit≤ tt
size_fits tag.Landings = lit≤ tt
size_fits tag.Fault = lit≤ tt

-- the word with that tag and those fields stands at the place
pub record Stood (t : Tag) (ws : List ℕ) (at v : ℕ) : Type 0 where
  pub inside : at < length ws
  pub same : get_or ws at 0 ≡ tagged t v
  pub small : v < size t

pub word_told : (t : Tag) (ws : List ℕ) (at v : ℕ) → word t ws at ≡ Ok v → Stood t ws at v
word_told t ws at v e = record { inside = grind (arith, nat_tests); same = grind (arith, nat_tests); small = grind (arith, nat_tests) }

pub word_read : (t : Tag) (ws : List ℕ) (at v : ℕ) → Stood t ws at v → word t ws at ≡ Ok v
word_read t ws at v s = let h = size_fits t in grind (arith, nat_tests)
