-- The token at a place: a word's fields by name, and its path as a part of the words.
use Rattle.std.specs.Prelude.{ℕ, ◌+◌, ◌/◌, ◌%◌, cond, List, length, take, drop, Some, None, Ok, Err, Option, Result, nat_lt, slice_index}
use Rattle.words.specs.declared.faults.WordFault.{WordFault}
use Rattle.words.specs.declared.faults.WordFault.TheVariants.{Missing, Wrong}
use Rattle.words.specs.declared.tags.Tag.{Tag}
use Rattle.words.specs.declared.tags.Tag.TheVariants as tag
use Rattle.words.specs.declared.tokens.Token.{Token}
use Rattle.words.specs.declared.tokens.Token.TheVariants.{Schema, Link, Rule, Step, KindMap, LinkMap, End, Register, Count, RegisterLink, Record, Landings, Fault}
use Rattle.words.specs.Tags.{tag_of}
use Rattle.words.specs.Words.{tag, word, then}

-- a token without its references: the parts of the words in their place
pub data Shown : Type 0 where
  schema : ℕ → ℕ → Shown
  link : ℕ → ℕ → Shown
  rule : ℕ → List ℕ → List ℕ → ℕ → Shown
  step : ℕ → Shown
  kind_map : ℕ → ℕ → Shown
  link_map : ℕ → List ℕ → ℕ → Shown
  end : ℕ → Shown
  register : ℕ → Shown
  count : ℕ → Shown
  register_link : ℕ → ℕ → Shown
  one_record : ℕ → Shown
  landings : ℕ → ℕ → ℕ → Shown
  fault : ℕ → ℕ → ℕ → Shown

abbrev pub shown : Token → Shown
shown (Schema side kinds) = schema side kinds
shown (Link from to) = link from to
shown (Rule first left right place) = rule first left.now right.now place
shown (Step g) = step g
shown (KindMap source target) = kind_map source target
shown (LinkMap l path place) = link_map l path.now place
shown (End n) = end n
shown (Register n) = register n
shown (Count n) = count n
shown (RegisterLink from to) = register_link from to
shown (Record r) = one_record r
shown (Landings records source target) = landings records source target
shown (Fault layer n place) = fault layer n place

abbrev pub told : Result Token WordFault → Result Shown WordFault
told (Ok t) = Ok (shown t)
told (Err e) = Err e

-- the part of the words that begins at a place
abbrev pub part : List ℕ → ℕ → ℕ → List ℕ
part ws at n = take n (drop at ws)

-- a token whose last word stands before that place, or the first word that is not there
abbrev pub within : List ℕ → ℕ → Shown → Result Shown WordFault
within ws far t = cond (nat_lt (length ws) far) (Err (Missing (length ws))) (Ok t)

-- the token of a tag with those fields
abbrev pub token_of : Tag → List ℕ → ℕ → ℕ → Result Shown WordFault
token_of tag.Schema ws at v = Ok (schema (v / 256) (v % 256))
token_of tag.Link ws at v = Ok (link (v / 256) (v % 256))
token_of tag.Rule ws at v =
    within ws (at + 1 + v / 256 % 256 + v % 256) (rule (v / 65536) (part ws (at + 1) (v / 256 % 256)) (part ws (at + 1 + v / 256 % 256) (v % 256)) at)
token_of tag.Step ws at v = Ok (step v)
token_of tag.KindMap ws at v = Ok (kind_map (v / 256) (v % 256))
token_of tag.LinkMap ws at v = within ws (at + 1 + v % 256) (link_map (v / 256) (part ws (at + 1) (v % 256)) at)
token_of tag.End ws at v = Ok (end v)
token_of tag.Register ws at v = Ok (register v)
token_of tag.Count ws at v = Ok (count v)
token_of tag.RegisterLink ws at v = Ok (register_link (v / 256) (v % 256))
token_of tag.Record ws at v = Ok (one_record v)
token_of tag.Landings ws at v = Ok (landings (v / 65536) (v / 256 % 256) (v % 256))
token_of tag.Fault ws at v = Ok (fault (v / 16777216) (v / 65536 % 256) (v % 65536))

abbrev pub tagged_token : Option Tag → List ℕ → ℕ → Result Shown WordFault
tagged_token (Some t) ws at = then (word t ws at) (token_of t ws at)
tagged_token None ws at = Err (Wrong at)

-- the token at a place
abbrev pub token : List ℕ → ℕ → Result Shown WordFault
token ws at = cond (nat_lt at (length ws)) (tagged_token (tag_of (tag (slice_index ws at))) ws at) (Err (Missing at))
