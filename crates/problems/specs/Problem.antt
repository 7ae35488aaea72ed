-- The problem file: what it holds, and how it is read.
use Rattle.std.specs.Prelude.{ℕ, zero, suc, ◌+◌, ◌/◌, ◌%◌, cond, ◌&&◌, ◌||◌, nat_lt, List, [], ◌∷◌, length, Ok, Err, Result, ◌==◌, nat_le, slice_index, slice_index_or}
use Rattle.words.specs.declared.faults.WordFault.TheVariants.{Wrong, Limit}
use Rattle.words.specs.declared.faults.SchemaFault.{SchemaFault}
use Rattle.words.specs.declared.faults.SchemaFault.TheVariants.{Words, Unknown, Unjoined}
use Rattle.words.specs.Words.{word, starts, then, worded, end}
use Rattle.words.specs.Items.{items, one_word, sizes}
use Rattle.words.specs.declared.tags.Tag.TheVariants as tag

pub record Link : Type 0 where
  pub from : ℕ
  pub to : ℕ

pub record Rule : Type 0 where
  pub first : ℕ
  pub left : List ℕ
  pub right : List ℕ

pub record Problem : Type 0 where
  pub source_kinds : ℕ
  pub source_links : List Link
  pub target_kinds : ℕ
  pub target_links : List Link
  pub rules : List Rule
  pub kind_map : List ℕ
  pub link_map : List (List ℕ)

abbrev pub no_link : Link
no_link = record { from = 0; to = 0 }

-- the kinds of a schema whose word has those fields
abbrev pub schema_of : ℕ → ℕ → ℕ → Result ℕ SchemaFault
schema_of side at v =
    cond (v / 256 == side)
    (cond (nat_lt 0 (v % 256) && nat_le (v % 256) 32) (Ok (v % 256)) (Err (Words (Limit at))))
    (Err (Words (Wrong at)))

abbrev pub schema : ℕ → List ℕ → ℕ → Result ℕ SchemaFault
schema side ws at = then (worded (word tag.Schema ws at)) (schema_of side at)

abbrev pub link_of : ℕ → ℕ → ℕ → ℕ → Result Link SchemaFault
link_of kinds room at v =
    cond (room == 0) (Err (Words (Limit at)))
    (cond (nat_lt (v / 256) kinds && nat_lt (v % 256) kinds) (Ok (record { from = v / 256; to = v % 256 })) (Err (Unknown at)))

abbrev pub link : ℕ → List ℕ → ℕ → ℕ → Result Link SchemaFault
link kinds ws room at = then (worded (word tag.Link ws at)) (link_of kinds room at)

abbrev pub links : ℕ → List ℕ → ℕ → Result (List Link) SchemaFault
links kinds ws at = items one_word (λ room p. starts tag.Link ws p) (link kinds ws) 64 at

-- a step leaves the kind reached
abbrev pub step_of : List Link → ℕ → ℕ → ℕ → Result ℕ SchemaFault
step_of ts kind at g = cond (nat_lt g (length ts)) (cond ((slice_index_or ts g no_link).from == kind) (Ok g) (Err (Unjoined at))) (Err (Unknown at))

abbrev pub step : List Link → List ℕ → ℕ → ℕ → Result ℕ SchemaFault
step ts ws kind at = then (worded (word tag.Step ws at)) (step_of ts kind at)

-- a path of that length from a kind: its links, and the kind reached
abbrev pub path : List Link → List ℕ → ℕ → ℕ → ℕ → Result (List ℕ × ℕ) SchemaFault
path ts ws zero kind at = Ok ([], kind)
path ts ws (suc n) kind at =
    then (step ts ws kind at) (λ g. then (path ts ws n (slice_index_or ts g no_link).to (at + 1)) (λ x. Ok (g ∷ x.0, x.1)))

-- two paths that end at one kind
abbrev pub meeting : ℕ → ℕ → List ℕ × ℕ → List ℕ × ℕ → Result Rule SchemaFault
meeting first at l r = cond (l.1 == r.1) (Ok (record { first = first; left = l.0; right = r.0 })) (Err (Unjoined at))

abbrev pub paths : List Link → List ℕ → ℕ → ℕ → ℕ → ℕ → Result Rule SchemaFault
paths ts ws at first n m =
    then (path ts ws n first (at + 1)) (λ l. then (path ts ws m first (at + 1 + n)) (meeting first (at + n + m) l))

abbrev pub rule_of : ℕ → List Link → List ℕ → ℕ → ℕ → ℕ → Result Rule SchemaFault
rule_of kinds ts ws room at v =
    cond (room == 0 || (nat_lt 64 (v / 256 % 256) || nat_lt 64 (v % 256))) (Err (Words (Limit at)))
    (cond (nat_lt (v / 65536) kinds) (paths ts ws at (v / 65536) (v / 256 % 256) (v % 256)) (Err (Unknown at)))

abbrev pub rule : ℕ → List Link → List ℕ → ℕ → ℕ → Result Rule SchemaFault
rule kinds ts ws room at = then (worded (word tag.Rule ws at)) (rule_of kinds ts ws room at)

abbrev pub rule_size : Rule → ℕ
rule_size r = 1 + length r.left + length r.right

abbrev pub rules : ℕ → List Link → List ℕ → ℕ → Result (List Rule) SchemaFault
rules kinds ts ws at = items rule_size (λ room p. starts tag.Rule ws p) (rule kinds ts ws) 128 at

-- the kind map of a source kind, which is n less those left
abbrev pub kind_of : ℕ → ℕ → ℕ → ℕ → ℕ → Result ℕ SchemaFault
kind_of n kinds left at v = cond (v / 256 + left == n && nat_lt (v % 256) kinds) (Ok (v % 256)) (Err (Unknown at))

abbrev pub kind_mapped : ℕ → ℕ → List ℕ → ℕ → ℕ → Result ℕ SchemaFault
kind_mapped n kinds ws left at = then (worded (word tag.KindMap ws at)) (kind_of n kinds left at)

abbrev pub kind_maps : ℕ → ℕ → List ℕ → ℕ → Result (List ℕ) SchemaFault
kind_maps n kinds ws at = items one_word (λ left p. nat_lt 0 left) (kind_mapped n kinds ws) n at

-- the target kinds of the ends of a source link
abbrev pub begins : List Link → List ℕ → ℕ → ℕ
begins ss km n = slice_index km (slice_index_or ss n no_link).from

abbrev pub stops : List Link → List ℕ → ℕ → ℕ
stops ss km n = slice_index km (slice_index_or ss n no_link).to

-- a path that ends at a kind
abbrev pub arriving : ℕ → ℕ → List ℕ × ℕ → Result (List ℕ) SchemaFault
arriving stop at x = cond (x.1 == stop) (Ok x.0) (Err (Unjoined at))

-- the link map of a source link, which is the length of ss less those left
abbrev pub map_of : List Link → List ℕ → List Link → List ℕ → ℕ → ℕ → ℕ → Result (List ℕ) SchemaFault
map_of ss km ts ws left at v =
    cond (nat_lt 64 (v % 256)) (Err (Words (Limit at)))
    (cond (v / 256 + left == length ss)
    (then (path ts ws (v % 256) (begins ss km (v / 256)) (at + 1)) (arriving (stops ss km (v / 256)) (at + v % 256)))
    (Err (Unknown at)))

abbrev pub link_mapped : List Link → List ℕ → List Link → List ℕ → ℕ → ℕ → Result (List ℕ) SchemaFault
link_mapped ss km ts ws left at = then (worded (word tag.LinkMap ws at)) (map_of ss km ts ws left at)

abbrev pub path_size : List ℕ → ℕ
path_size p = 1 + length p

abbrev pub link_maps : List Link → List ℕ → List Link → List ℕ → ℕ → Result (List (List ℕ)) SchemaFault
link_maps ss km ts ws at = items path_size (λ left p. nat_lt 0 left) (link_mapped ss km ts ws) (length ss) at

-- a schema and its links
abbrev pub whole_schema : ℕ → List ℕ → ℕ → Result (ℕ × List Link) SchemaFault
whole_schema side ws at = then (schema side ws at) (λ k. then (links k ws (at + 1)) (λ ls. Ok (k, ls)))

-- what is left to read behind the link maps, the kind maps, the rules, the schemas
abbrev pub behind_maps : List ℕ → ℕ × List Link → ℕ × List Link → List Rule → List ℕ → List (List ℕ) → ℕ → Result Problem SchemaFault
behind_maps ws s t rs km lm at =
    then (worded (end ws at)) (λ _. Ok (record { source_kinds = s.0; source_links = s.1; target_kinds = t.0; target_links = t.1; rules = rs; kind_map = km; link_map = lm }))

abbrev pub behind_kinds : List ℕ → ℕ × List Link → ℕ × List Link → List Rule → ℕ → List ℕ → Result Problem SchemaFault
behind_kinds ws s t rs at km =
    then (link_maps s.1 km t.1 ws (at + sizes one_word km)) (λ lm. behind_maps ws s t rs km lm (at + sizes one_word km + sizes path_size lm))

abbrev pub behind_rules : List ℕ → ℕ × List Link → ℕ × List Link → ℕ → List Rule → Result Problem SchemaFault
behind_rules ws s t at rs = then (kind_maps s.0 t.0 ws (at + sizes rule_size rs)) (behind_kinds ws s t rs (at + sizes rule_size rs))

abbrev pub behind_schemas : List ℕ → ℕ × List Link → ℕ × List Link → ℕ → Result Problem SchemaFault
behind_schemas ws s t at = then (rules t.0 t.1 ws at) (behind_rules ws s t at)

-- a problem file
abbrev pub read : List ℕ → Result Problem SchemaFault
read ws =
    then (whole_schema 0 ws 0) (λ s.
    then (whole_schema 1 ws (1 + length s.1)) (λ t.
    behind_schemas ws s t (1 + length s.1 + 1 + length t.1)))
