-- Words on file: a tag in bits 31 to 28, and fields below.
use Rattle.std.specs.Prelude.{ℕ, ◌+◌, ◌*◌, cond, List, [], ◌∷◌, Some, None, Option, Result, ◌==◌, ok_or}
use Rattle.words.specs.declared.tags.Tag.{Tag}
use Rattle.words.specs.declared.tags.UnknownTag.{UnknownTag}
use Rattle.words.specs.declared.tags.Tag.TheVariants.{Schema, Link, Rule, Step, KindMap, LinkMap, End, Register, Count, RegisterLink, Record, Landings, Fault}

-- the number of a tag
abbrev pub number : Tag → ℕ
number Schema = 1
number Link = 2
number Rule = 3
number Step = 4
number KindMap = 5
number LinkMap = 6
number End = 7
number Register = 8
number Count = 9
number RegisterLink = 10
number Record = 11
number Landings = 12
number Fault = 15

-- the tag of a number
abbrev pub tag_in : ℕ → List Tag → Option Tag
tag_in n [] = None
tag_in n (t ∷ ts) = cond (n == number t) (Some t) (tag_in n ts)

abbrev pub tag_of : ℕ → Option Tag
tag_of n =
    tag_in n (Schema ∷ Link ∷ Rule ∷ Step ∷ KindMap ∷ LinkMap ∷ End ∷ Register ∷ Count ∷ RegisterLink ∷ Record ∷ Landings ∷ Fault ∷ [])

-- the same, or the number that no tag has
abbrev pub tag_from : ℕ → Result Tag UnknownTag
tag_from n = ok_or (tag_of n) (record { 0 = n })

-- the fields of a word lie below this: the bits above them have no field and are zero
abbrev pub size : Tag → ℕ
size Schema = 65536
size Link = 65536
size Rule = 16777216
size Step = 256
size KindMap = 65536
size LinkMap = 65536
size End = 268435456
size Register = 256
size Count = 65536
size RegisterLink = 65536
size Record = 65536
size Landings = 268435456
size Fault = 268435456

-- the word of a tag with those fields
abbrev pub tagged : Tag → ℕ → ℕ
tagged t v = number t * 268435456 + v
