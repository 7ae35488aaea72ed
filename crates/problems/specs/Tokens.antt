-- The tokens of rules and link maps, by their numbers.
use Rattle.std.specs.Prelude.{ℕ, ◌+◌, cond, List, [], map, length, get_or, Some, None, Ok, Err, Option, Result, nat_lt, slice_index, slice_index_or}
use Rattle.words.specs.declared.faults.SchemaFault.{SchemaFault}
use Rattle.words.specs.declared.faults.WordFault.{WordFault}
use Rattle.words.specs.declared.tokens.Token.{Token}
use Rattle.words.specs.Items.{places, sizes, one_word}
use Rattle.words.specs.Tags.{tagged}
use Rattle.words.specs.Tokens.{Shown, shown, rule, link_map, token}
use Rattle.problems.specs.Problem.{Rule, Problem, rule_size, path_size}
use Rattle.words.specs.declared.tags.Tag.TheVariants as tag

abbrev pub shown_token : Option Token → Option Shown
shown_token (Some t) = Some (shown t)
shown_token None = None

abbrev pub unless_refused : Result Shown WordFault → Option Shown
unless_refused (Ok t) = Some t
unless_refused (Err e) = None

-- the token at the i-th of those places
abbrev pub token_in : List ℕ → List ℕ → ℕ → Option Shown
token_in ws ps i = cond (nat_lt i (length ps)) (unless_refused (token ws (slice_index ps i))) None

abbrev pub no_rule : Rule
no_rule = record { first = 0; left = []; right = [] }

-- the places of the rules and of the link maps of a problem
abbrev pub rules_at : Problem → ℕ
rules_at p = 1 + length p.source_links + 1 + length p.target_links

abbrev pub maps_at : Problem → ℕ
maps_at p = rules_at p + sizes rule_size p.rules + sizes one_word p.kind_map

-- the token of the i-th rule: its first kind, the words of its steps, its place
abbrev pub rule_token : Result Problem SchemaFault → ℕ → Option Shown
rule_token (Ok p) i =
    cond (nat_lt i (length p.rules))
    (Some (rule (get_or p.rules i no_rule).first (map (tagged tag.Step) (get_or p.rules i no_rule).left) (map (tagged tag.Step) (get_or p.rules i no_rule).right) (slice_index (places rule_size (rules_at p) p.rules) i)))
    None
rule_token (Err e) i = None

-- the token of the link map of the i-th source link
abbrev pub map_token : Result Problem SchemaFault → ℕ → Option Shown
map_token (Ok p) i =
    cond (nat_lt i (length p.link_map))
    (Some (link_map i (map (tagged tag.Step) (slice_index_or p.link_map i [])) (slice_index (places path_size (maps_at p) p.link_map) i)))
    None
map_token (Err e) i = None
