-- Words that stand as a rule or a link map are laid out are read as its token.
use Rattle.std.proofs.Common.{◌≡◌, ℕ, ◌+◌, ◌/◌, ◌%◌, ◌<◌, ◌≤◌, true, false, cond, ltb, List, [], ◌∷◌, ◌++◌, length, get_or, take, drop, Some, Ok, Err, refl, ap, ◌∙◌, arith, length-append, length-drop}
use Rattle.std.proofs.lemmas.List.{take_at}
use Rattle.std.proofs.lemmas.Bool.Decides.{nat_tests}
use Rattle.words.specs.declared.faults.WordFault.TheVariants.{Missing}
use Rattle.words.specs.declared.tags.Tag.{Tag}
use Rattle.words.specs.Words.{then}
use Rattle.words.specs.Tags.{tagged, number, size, tag_of}
use Rattle.words.specs.Tokens.{Shown, rule, link_map, part, within, token_of, tagged_token, token}
use Rattle.words.proofs.Single.{Stood, word_read}
use Rattle.words.proofs.Standing.{Stands, front, back, stands_stood}
use Rattle.words.specs.declared.tags.Tag.TheVariants as tag

stands_part : (ws : List ℕ) (a b n : ℕ) (xs : List ℕ) → length xs ≡ n → Stands ws a xs b → part ws a n ≡ xs
stands_part ws a b n xs l s = ap (take n) s.here ∙ take_at xs (drop b ws) n l

stands_inside : (ws : List ℕ) (a b w : ℕ) (xs : List ℕ) → Stands ws a (w ∷ xs) b → b ≤ length ws
stands_inside ws a b w xs s =
    let h = ap length s.here in let k = length-append xs (drop b ws) in let i = length-drop a ws in let j = length-drop b ws in
    let f = s.far in omega arith

-- a word that stands is read as the token of its tag
token_is : (t : Tag) (ws : List ℕ) (at v : ℕ) → tag_of (number t) ≡ Some t → v < 268435456 → Stood t ws at v → token ws at ≡ token_of t ws at v
token_is t ws at v k h s =
    let i : ltb at (length ws) ≡ true = let j = s.inside in grind (arith, nat_tests) in
    let q : get_or ws at 0 / 268435456 ≡ number t = omega (arith, s.same) in
    ap (λ c. cond c (tagged_token (tag_of (get_or ws at 0 / 268435456)) ws at) (Err (Missing at))) i
    ∙ ap (λ n. tagged_token (tag_of n) ws at) q
    ∙ ap (λ o. tagged_token o ws at) k
    ∙ ap (λ r. then r (token_of t ws at)) (word_read t ws at v s)

within_ok : (ws : List ℕ) (far : ℕ) (t : Shown) → far ≤ length ws → within ws far t ≡ Ok t
within_ok ws far t h = let z : ltb (length ws) far ≡ false = grind (arith, nat_tests) in ap (λ c. cond c (Err (Missing (length ws))) (Ok t)) z

pub rule_tokened : (ws : List ℕ) (at b v : ℕ) (xs ys : List ℕ) → v < size tag.Rule → length xs ≡ v / 256 % 256 → length ys ≡ v % 256 → Stands ws at (tagged tag.Rule v ∷ (xs ++ ys)) b
    → token ws at ≡ Ok (rule (v / 65536) xs ys at)
rule_tokened ws at b v xs ys h n m s =
    let k = back ws at b (tagged tag.Rule v ∷ []) (xs ++ ys) s in
    let right : Stands ws (at + 1 + v / 256 % 256) ys b = rw n at (back ws (at + 1) b xs ys k) in
    let far : at + 1 + v / 256 % 256 + v % 256 ≤ length ws = let i = stands_inside ws at b (tagged tag.Rule v) (xs ++ ys) s in let f = right.far in omega arith in
    token_is tag.Rule ws at v refl (omega arith) (stands_stood tag.Rule ws at b v (xs ++ ys) h s)
    ∙ within_ok ws (at + 1 + v / 256 % 256 + v % 256) (rule (v / 65536) (part ws (at + 1) (v / 256 % 256)) (part ws (at + 1 + v / 256 % 256) (v % 256)) at) far
    ∙ ap (λ l. Ok (rule (v / 65536) l (part ws (at + 1 + v / 256 % 256) (v % 256)) at)) (stands_part ws (at + 1) (at + 1 + length xs) (v / 256 % 256) xs n (front ws (at + 1) b xs ys k))
    ∙ ap (λ r. Ok (rule (v / 65536) xs r at)) (stands_part ws (at + 1 + v / 256 % 256) b (v % 256) ys m right)

pub map_tokened : (ws : List ℕ) (at b v : ℕ) (xs : List ℕ) → v < size tag.LinkMap → length xs ≡ v % 256 → Stands ws at (tagged tag.LinkMap v ∷ xs) b → token ws at ≡ Ok (link_map (v / 256) xs at)
map_tokened ws at b v xs h n s =
    let k = back ws at b (tagged tag.LinkMap v ∷ []) xs s in
    let far : at + 1 + v % 256 ≤ length ws = let i = stands_inside ws at b (tagged tag.LinkMap v) xs s in let f = k.far in omega arith in
    token_is tag.LinkMap ws at v refl (omega arith) (stands_stood tag.LinkMap ws at b v xs h s)
    ∙ within_ok ws (at + 1 + v % 256) (link_map (v / 256) (part ws (at + 1) (v % 256)) at) far
    ∙ ap (λ l. Ok (link_map (v / 256) l at)) (stands_part ws (at + 1) b (v % 256) xs n k)
