-- The register file: what it holds, and how it is read.
use Rattle.std.specs.Prelude.{ℕ, ◌+◌, ◌/◌, ◌%◌, cond, ◌&&◌, List, length, Ok, Err, Result, ◌==◌, nat_lt, slice_index}
use Rattle.words.specs.declared.faults.WordFault.TheVariants.{Limit}
use Rattle.words.specs.declared.faults.SchemaFault.{SchemaFault}
use Rattle.words.specs.declared.faults.SchemaFault.TheVariants.{Words, Unknown}
use Rattle.words.specs.Words.{word, starts, then, worded, end}
use Rattle.words.specs.Items.{items, run, sizes}
use Rattle.words.specs.declared.tags.Tag.TheVariants as tag

-- a link, or the landings of a source kind: its ends, and where each record leads
pub record Row : Type 0 where
  pub from : ℕ
  pub to : ℕ
  pub leads : List ℕ

pub record File : Type 0 where
  pub counts : List ℕ
  pub links : List Row
  pub landings : List Row

-- a count of records
abbrev pub count : List ℕ → ℕ → Result ℕ SchemaFault
count ws at = worded (word tag.Count ws at)

-- a record word, which names one of m records
abbrev pub counted : ℕ → List ℕ → ℕ → Result ℕ SchemaFault
counted m ws at = then (worded (word tag.Record ws at)) (λ v. cond (nat_lt v m) (Ok v) (Err (Unknown at)))

-- the records that follow the word at a place
abbrev pub row : List ℕ → List ℕ → ℕ → ℕ → ℕ → ℕ → Result Row SchemaFault
row cs ws at n from to = then (run (counted (slice_index cs to) ws) n (at + 1)) (λ rs. Ok (record { from = from; to = to; leads = rs }))

-- a link; there is room for that many
abbrev pub link : List ℕ → List ℕ → ℕ → ℕ → Result Row SchemaFault
link cs ws room at =
    then (worded (word tag.RegisterLink ws at)) (λ v.
    cond (room == 0) (Err (Words (Limit at)))
    (cond (nat_lt (v / 256) (length cs) && nat_lt (v % 256) (length cs))
    (row cs ws at (slice_index cs (v / 256)) (v / 256) (v % 256))
    (Err (Unknown at))))

-- the landings of a source kind, which is 32 less the room
abbrev pub landing : List ℕ → List ℕ → ℕ → ℕ → Result Row SchemaFault
landing cs ws room at =
    then (worded (word tag.Landings ws at)) (λ v.
    cond (room == 0) (Err (Words (Limit at)))
    (cond (v / 256 % 256 + room == 32 && nat_lt (v % 256) (length cs))
    (row cs ws at (v / 65536) (v / 256 % 256) (v % 256))
    (Err (Unknown at))))

-- the words of a row
abbrev pub span : Row → ℕ
span l = 1 + length l.leads

-- the counts
abbrev pub counts_of : List ℕ → Result (List ℕ) SchemaFault
counts_of ws = then (worded (word tag.Register ws 0)) (λ n. cond (nat_lt 32 n) (Err (Words (Limit 0))) (run (count ws) n 1))

-- the links
abbrev pub links_of : List ℕ → List ℕ → Result (List Row) SchemaFault
links_of cs ws = items span (λ room p. starts tag.RegisterLink ws p) (link cs ws) 64 (1 + length cs)

-- the landings
abbrev pub landings_of : List ℕ → List ℕ → ℕ → Result (List Row) SchemaFault
landings_of cs ws at = items span (λ room p. starts tag.Landings ws p) (landing cs ws) 32 at

-- what is left to read behind the landings, the links, the counts
abbrev pub behind_landings : List ℕ → List ℕ → List Row → List Row → Result File SchemaFault
behind_landings ws cs ls ms =
    then (worded (end ws (1 + length cs + sizes span ls + sizes span ms))) (λ _. Ok (record { counts = cs; links = ls; landings = ms }))

abbrev pub behind_links : List ℕ → List ℕ → List Row → Result File SchemaFault
behind_links ws cs ls = then (landings_of cs ws (1 + length cs + sizes span ls)) (behind_landings ws cs ls)

abbrev pub behind_counts : List ℕ → List ℕ → Result File SchemaFault
behind_counts ws cs = then (links_of cs ws) (behind_links ws cs)

-- a register file
abbrev pub read : List ℕ → Result File SchemaFault
read ws = then (counts_of ws) (behind_counts ws)
