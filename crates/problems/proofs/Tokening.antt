-- The tokens of an accepted problem's rules and link maps.
use Rattle.std.proofs.Common.{◌≡◌, ℕ, suc, ◌+◌, ◌-◌, ◌*◌, ◌/◌, ◌%◌, ◌<◌, Bool, true, false, cond, ltb, List, [], ◌∷◌, map, length, get_or, Some, None, Ok, sym, refl, ap, ◌∙◌, arith}
use Rattle.std.proofs.lemmas.List.{length-map}
use Rattle.std.proofs.lemmas.Bool.Decides.{nat_tests}
use Rattle.bounded.specs.Listed.{listed}
use Rattle.words.specs.Items.{places}
use Rattle.words.specs.Tags.{tagged}
use Rattle.words.specs.Words.{starts}
use Rattle.words.specs.Tokens.{Shown, rule, link_map, token}
use Rattle.words.proofs.Items.{items_at}
use Rattle.words.proofs.Laid.{ok_same}
use Rattle.words.proofs.Tokening.{rule_tokened, map_tokened}
use Rattle.problems.specs.declared.Found.{Found}
use Rattle.problems.specs.Problem.{Rule, Problem, rule_size, path_size, read}
use Rattle.problems.specs.Problem as problem
use Rattle.problems.specs.Shown.{told, outline_of}
use Rattle.problems.specs.Tokens.{unless_refused, token_in, no_rule, rules_at, maps_at, rule_token, map_token}
use Rattle.problems.proofs.Laying.{rule_told, map_told}
use Rattle.problems.proofs.Problems.{problem_told}
use Rattle.problems.proofs.Layouts.{read_layout}
use Rattle.problems.proofs.Accepting.{outline_ok}
use Rattle.words.specs.declared.tags.Tag.TheVariants as tag

places_length : {X : Type 0} (size : X → ℕ) (xs : List X) (at : ℕ) → length (places size at xs) ≡ length xs
places_length size [] at = refl
places_length size (x ∷ xs) at = ap suc (places_length size xs (at + size x))

-- what is read at each place is the token of the item that stands there
by_places : {X : Type 0} (size : X → ℕ) (ws : List ℕ) (at i : ℕ) (xs : List X) (t : Shown) → (i < length xs → token ws (get_or (places size at xs) i 0) ≡ Ok t)
    → token_in ws (places size at xs) i ≡ cond (ltb i (length xs)) (Some t) None
by_places size ws at i xs t each =
    ap (λ n. cond (ltb i n) (unless_refused (token ws (get_or (places size at xs) i 0))) None) (places_length size xs at) ∙ by (ltb i (length xs)) refl
  where
    by : (b : Bool) → ltb i (length xs) ≡ b → cond b (unless_refused (token ws (get_or (places size at xs) i 0))) None ≡ cond b (Some t) None
    by true e = ap unless_refused (each (grind (arith, nat_tests)))
    by false e = refl

module _ (ws : List ℕ) (p : Problem) (e : read ws ≡ Ok p) (i : ℕ) where
  rule_there : i < length p.rules → token ws (get_or (places rule_size (rules_at p) p.rules) i 0)
      ≡ Ok (rule (get_or p.rules i no_rule).first (map (tagged tag.Step) (get_or p.rules i no_rule).left) (map (tagged tag.Step) (get_or p.rules i no_rule).right) (get_or (places rule_size (rules_at p) p.rules) i 0))
  rule_there h =
      let q = get_or (places rule_size (rules_at p) p.rules) i 0 in
      let r = get_or p.rules i no_rule in
      let s = rule_told p.target_kinds p.target_links ws (128 - i) q r
      (items_at rule_size (λ room q. starts tag.Rule ws q) (problem.rule p.target_kinds p.target_links ws) 128 (rules_at p) i p.rules no_rule (problem_told ws p e).ruled h) in
      let g = s.good in
      let few = (read_layout ws p e).1.target.few in
      let v = r.first * 65536 + length r.left * 256 + length r.right in
      let vf : v / 65536 ≡ r.first = omega (arith, g.left_short, g.right_short) in
      let vl : length (map (tagged tag.Step) r.left) ≡ v / 256 % 256 = length-map r.left (tagged tag.Step) ∙ omega (arith, g.left_short, g.right_short) in
      let vr : length (map (tagged tag.Step) r.right) ≡ v % 256 = length-map r.right (tagged tag.Step) ∙ omega (arith, g.right_short) in
      rule_tokened ws q (q + rule_size r) v (map (tagged tag.Step) r.left) (map (tagged tag.Step) r.right) (omega (arith, g.known, g.left_short, g.right_short)) vl vr s.laid
      ∙ ap (λ f. Ok (rule f (map (tagged tag.Step) r.left) (map (tagged tag.Step) r.right) q)) vf

  map_there : i < length p.link_map → token ws (get_or (places path_size (maps_at p) p.link_map) i 0)
      ≡ Ok (link_map i (map (tagged tag.Step) (get_or p.link_map i [])) (get_or (places path_size (maps_at p) p.link_map) i 0))
  map_there h =
      let ss = p.source_links in
      let km = p.kind_map in
      let ts = p.target_links in
      let w = (read_layout ws p e).1 in
      let few = w.source.few_links in
      let full = w.maps_full in
      let q = get_or (places path_size (maps_at p) p.link_map) i 0 in
      let g = get_or p.link_map i [] in
      let s = map_told ss km ts ws i (length ss - i) q g (omega arith)
      (items_at path_size (λ left q. ltb 0 left) (problem.link_mapped ss km ts ws) (length ss) (maps_at p) i p.link_map [] (problem_told ws p e).linked h) in
      let short = s.good.short in
      let v = i * 256 + length g in
      let vi : v / 256 ≡ i = omega arith in
      let vr : length (map (tagged tag.Step) g) ≡ v % 256 = length-map g (tagged tag.Step) ∙ omega arith in
      map_tokened ws q (q + path_size g) v (map (tagged tag.Step) g) (omega arith) vr s.laid
      ∙ ap (λ n. Ok (link_map n (map (tagged tag.Step) g) q)) vi

-- the places that the code keeps are those of the problem that was read
module _ (ws : List ℕ) (f : Found) (t : told (Ok f) ≡ outline_of (read ws)) (i : ℕ) where
  pub rule_kept : token_in ws (listed f.rules) i ≡ rule_token (read ws) i
  rule_kept =
      let x = outline_ok (read ws) _ t in
      let same = ok_same (sym (t ∙ ap outline_of x.1)) in
      ap (λ s. token_in ws s.rules i) same ∙ by_places rule_size ws (rules_at x.0) i x.0.rules _ (rule_there ws x.0 x.1 i) ∙ ap (λ r. rule_token r i) (sym x.1)

  pub map_kept : token_in ws (listed f.link_maps) i ≡ map_token (read ws) i
  map_kept =
      let x = outline_ok (read ws) _ t in
      let same = ok_same (sym (t ∙ ap outline_of x.1)) in
      ap (λ s. token_in ws s.link_maps i) same ∙ by_places path_size ws (maps_at x.0) i x.0.link_map _ (map_there ws x.0 x.1 i) ∙ ap (λ r. map_token r i) (sym x.1)
