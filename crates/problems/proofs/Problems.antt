-- What an accepted problem file says of its parts.
use Rattle.std.proofs.Common.{◌≡◌, ℕ, ◌+◌, List, length, Ok, ap, ◌∙◌, arith}
use Rattle.std.proofs.lemmas.Bool.Decides.{nat_tests}
use Rattle.words.specs.Words.{worded, then, end}
use Rattle.words.proofs.Inverse.{then_ok, worded_ok}
use Rattle.words.specs.Items.{sizes, one_word}
use Rattle.words.proofs.Laid.{ok_same}
use Rattle.problems.specs.Problem.{Link, Problem, rules, rule_size, path_size, whole_schema, kind_maps, link_maps, behind_schemas, behind_rules, behind_kinds, behind_maps, read}
use Rattle.problems.specs.Tokens.{rules_at, maps_at}

pub record ProblemRead (ws : List ℕ) (p : Problem) : Type 0 where
  pub sourced : whole_schema 0 ws 0 ≡ Ok (p.source_kinds, p.source_links)
  pub targeted : whole_schema 1 ws (1 + length p.source_links) ≡ Ok (p.target_kinds, p.target_links)
  pub ruled : rules p.target_kinds p.target_links ws (rules_at p) ≡ Ok p.rules
  pub kinded : kind_maps p.source_kinds p.target_kinds ws (rules_at p + sizes rule_size p.rules) ≡ Ok p.kind_map
  pub linked : link_maps p.source_links p.kind_map p.target_links ws (maps_at p) ≡ Ok p.link_map
  pub closed : end ws (maps_at p + sizes path_size p.link_map) ≡ Ok (maps_at p + sizes path_size p.link_map)

-- an end that was read tells its place
end_closed : (ws : List ℕ) (at q : ℕ) → worded (end ws at) ≡ Ok q → end ws at ≡ Ok at
end_closed ws at q e = let w = worded_ok (end ws at) q e in w ∙ ap Ok (same ws at q w)
  where
    same : (ws : List ℕ) (at q : ℕ) → end ws at ≡ Ok q → q ≡ at
    same ws at q e = grind (arith, nat_tests)

pub problem_told : (ws : List ℕ) (p : Problem) → read ws ≡ Ok p → ProblemRead ws p
problem_told ws p e =
    let s = then_ok (whole_schema 0 ws 0) (λ s. then (whole_schema 1 ws (1 + length s.1)) (λ t. behind_schemas ws s t (1 + length s.1 + 1 + length t.1))) p e in
    let t = then_ok (whole_schema 1 ws (1 + length s.0.1)) (λ t. behind_schemas ws s.0 t (1 + length s.0.1 + 1 + length t.1)) p s.2 in
    let at = 1 + length s.0.1 + 1 + length t.0.1 in
    let r = then_ok (rules t.0.0 t.0.1 ws at) (behind_rules ws s.0 t.0 at) p t.2 in
    let a2 = at + sizes rule_size r.0 in
    let k = then_ok (kind_maps s.0.0 t.0.0 ws a2) (behind_kinds ws s.0 t.0 r.0 a2) p r.2 in
    let a3 = a2 + sizes one_word k.0 in
    let l = then_ok (link_maps s.0.1 k.0 t.0.1 ws a3) (λ lm. behind_maps ws s.0 t.0 r.0 k.0 lm (a3 + sizes path_size lm)) p k.2 in
    let d = then_ok (worded (end ws (a3 + sizes path_size l.0))) (λ _. Ok (record { source_kinds = s.0.0; source_links = s.0.1; target_kinds = t.0.0; target_links = t.0.1; rules = r.0; kind_map = k.0; link_map = l.0 })) p l.2 in
    let same : p ≡ record { source_kinds = s.0.0; source_links = s.0.1; target_kinds = t.0.0; target_links = t.0.1; rules = r.0; kind_map = k.0; link_map = l.0 } = ok_same d.2 in
    rw same (record {
      sourced = s.1;
      targeted = t.1;
      ruled = r.1;
      kinded = k.1;
      linked = l.1;
      closed = end_closed ws (a3 + sizes path_size l.0) d.0 d.1;
    })

pub problem_made : (ws : List ℕ) (p : Problem) → ProblemRead ws p → read ws ≡ Ok p
problem_made ws p r =
    let s : ℕ × List Link = (p.source_kinds, p.source_links) in
    let t : ℕ × List Link = (p.target_kinds, p.target_links) in
    let a2 = rules_at p + sizes rule_size p.rules in
    ap (λ x. then x (λ s. then (whole_schema 1 ws (1 + length s.1)) (λ t. behind_schemas ws s t (1 + length s.1 + 1 + length t.1)))) r.sourced
    ∙ ap (λ x. then x (λ t. behind_schemas ws s t (1 + length p.source_links + 1 + length t.1))) r.targeted
    ∙ ap (λ x. then x (behind_rules ws s t (rules_at p))) r.ruled
    ∙ ap (λ x. then x (behind_kinds ws s t p.rules a2)) r.kinded
    ∙ ap (λ x. then x (λ lm. behind_maps ws s t p.rules p.kind_map lm (maps_at p + sizes path_size lm))) r.linked
    ∙ ap (λ x. then (worded x) (λ _. Ok (record { source_kinds = p.source_kinds; source_links = p.source_links; target_kinds = p.target_kinds; target_links = p.target_links; rules = p.rules; kind_map = p.kind_map; link_map = p.link_map }))) r.closed
