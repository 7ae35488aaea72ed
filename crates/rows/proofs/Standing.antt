-- The paths of the problem in a table's own words are those that the machine walks, and their links are known.
use Rattle.std.proofs.Common.{◌≡◌, ℕ, zero, suc, ◌+◌, ◌<◌, cond, ltb, List, [], ◌∷◌, map, length, get_or, take, Some, None, Ok, Option, Result, sym, refl, ap, ◌∙◌, subst, inl, inr, arith}
use Rattle.std.specs.List.{AllByRecursion}
use Rattle.std.proofs.lemmas.Nat.{mod-mul-add}
use Rattle.std.proofs.ByRecursion.{All-weaker}
use Rattle.std.proofs.lemmas.List.{get_or_past}
use Rattle.std.proofs.lemmas.Bool.Decides.{leb_tells}
use Rattle.words.specs.declared.faults.SchemaFault.{SchemaFault}
use Rattle.words.specs.declared.tags.Tag.TheVariants as tag
use Rattle.words.specs.Numbered.{Each}
use Rattle.words.specs.Tags.{tagged}
use Rattle.words.specs.Tokens.{Shown}
use Rattle.problems.specs.declared.Found.{Found}
use Rattle.problems.specs.Layout.{Walks, GoodRule, GoodMap, WellFormed}
use Rattle.problems.specs.Problem.{Link, Problem, no_link, read}
use Rattle.problems.specs.Shown as outline
use Rattle.problems.specs.Tokens.{no_rule, rule_token, map_token}
use Rattle.problems.proofs.Layouts.{read_layout}
use Rattle.machine.specs.Loaded.{Loaded}
use Rattle.machine.specs.Loading.{taken}
use Rattle.machine.specs.Walking.{walk}
use Rattle.machine.specs.Checking.{rule_effect}
use Rattle.rows.specs.Layout.{Raw, Shape, Same, Tidy, shown}
use Rattle.rows.specs.Walks.{links, Named}
use Rattle.rows.proofs.Bridge.{same_problem}
use Rattle.rows.proofs.Named.{Below, walk_comes, sides_named}
use Rattle.rows.specs.Standing.{Stands, parts_in, linked, path_in, rule_of}

-- the words of steps, and their links again
abbrev pub step_words : List ℕ → List ℕ
step_words = map (tagged tag.Step)

pub untagged : (ls : List ℕ) → Below 268435456 ls → links (step_words ls) ≡ ls
untagged [] b = refl
untagged (l ∷ ls) b = rw (mod-mul-add 4 268435456 l b.0, untagged ls b.1)

-- the links of a path that walks are links of the schema
walks_below : (ts : List Link) (kind : ℕ) (gs : List ℕ) (end : ℕ) → Walks ts kind gs end → Below (length ts) gs
walks_below ts kind [] end w = tt
walks_below ts kind (g ∷ gs) end w = (w.0, walks_below ts (get_or ts g no_link).to gs end w.2)

-- what holds of each element and of the default holds of any
everywhere : {X : Type 0} (P : X → Type 0) (d : X) (xs : List X) → P d → AllByRecursion P xs → (i : ℕ) → P (get_or xs i d)
everywhere P d [] h a i = h
everywhere P d (x ∷ xs) h a zero = a.0
everywhere P d (x ∷ xs) h a (suc i) = everywhere P d xs h a.1 i

maps_below : (ss : List Link) (km : List ℕ) (ts : List Link) (n : ℕ) (qs : List (List ℕ)) → Each (GoodMap ss km ts) n qs → AllByRecursion (Below (length ts)) qs
maps_below ss km ts n [] a = tt
maps_below ss km ts n (q ∷ qs) a = (walks_below ts _ q _ a.0.walks, maps_below ss km ts (n + 1) qs a.1)

module _ (p : Problem) (w : WellFormed p) (i : ℕ) where
  rule_below : Below (length p.target_links) (get_or p.rules i no_rule).left × Below (length p.target_links) (get_or p.rules i no_rule).right
  rule_below =
      everywhere (λ q. Below (length p.target_links) q.left × Below (length p.target_links) q.right) no_rule p.rules (tt, tt)
      (All-weaker (GoodRule p.target_kinds p.target_links) (λ q. Below (length p.target_links) q.left × Below (length p.target_links) q.right) (λ q g. (walks_below _ _ _ _ g.left_walks, walks_below _ _ _ _ g.right_walks)) p.rules w.rules)
      i

  map_below : Below (length p.target_links) (get_or p.link_map i [])
  map_below = everywhere (Below (length p.target_links)) [] p.link_map tt (maps_below _ _ _ 0 p.link_map w.maps) i

  -- so their words have those links
  short : (ls : List ℕ) → Below (length p.target_links) ls → links (step_words ls) ≡ ls
  short ls b = untagged ls (All-weaker (λ l. l < length p.target_links) (λ l. l < 268435456) (λ l h. omega (arith, w.target.few_links)) ls b)

rule_tokened : (p : Problem) (w : WellFormed p) (i : ℕ) →
    linked (parts_in (rule_token (Ok p) i)) ≡ cond (ltb i (length p.rules)) (Some ((get_or p.rules i no_rule).first, (get_or p.rules i no_rule).left, (get_or p.rules i no_rule).right)) None
rule_tokened p w i =
    let b = rule_below p w i in
    elim (leb_tells (suc i) (length p.rules)) [
      | inl t ↦ rw (t.0, short p w i (get_or p.rules i no_rule).left b.0, short p w i (get_or p.rules i no_rule).right b.1)
      | inr t ↦ rw t.0
    ]

map_tokened : (p : Problem) (w : WellFormed p) (i : ℕ) → path_in (linked (parts_in (map_token (Ok p) i))) ≡ get_or p.link_map i []
map_tokened p w i = elim (leb_tells (suc i) (length p.link_map)) [
  | inl t ↦ rw (t.0, short p w i _ (map_below p w i))
  | inr t ↦ rw (t.0, get_or_past p.link_map i [] (omega (arith, t.1)))
]

module _ (L : Loaded) (r : Raw) (f : Found) (st : Stands L r f) (i : ℕ) where
  well : WellFormed st.problem
  well = (read_layout (take r.shape.lands r.ws) st.problem st.reads).1

  -- the links of a path of the problem
  known : (g : Loaded → List ℕ) → Below (length st.problem.target_links) (g (taken st.problem st.source r.shape.capacity)) → Below r.shape.links (g L)
  known g b =
      let e : length st.problem.target_links ≡ r.shape.links = sym (ap (λ (M : Loaded). M.links) st.takes) ∙ st.links in
      subst (λ (M : Loaded). Below r.shape.links (g M)) (sym st.takes) (subst (λ n. Below n (g (taken st.problem st.source r.shape.capacity))) e b)

  pub rule_links : Below r.shape.links (L.left i) × Below r.shape.links (L.right i)
  rule_links = let b = rule_below st.problem well i in (known (λ M. M.left i) b.0, known (λ M. M.right i) b.1)

  pub map_links : Below r.shape.links (L.link_map i)
  map_links = known (λ M. M.link_map i) (map_below st.problem well i)

  -- what is told of the problem that was read
  told : (token : Result Problem SchemaFault → ℕ → Option Shown) (o : Option Shown) →
      (outline.told (Ok f) ≡ outline.outline_of (read (take r.shape.lands r.ws)) → o ≡ token (read (take r.shape.lands r.ws)) i) → o ≡ token (Ok st.problem) i
  told token o tells = tells (st.told ∙ ap outline.outline_of (sym st.reads)) ∙ ap (λ x. token x i) st.reads

  pub rule_stands : (o : Option Shown) → (outline.told (Ok f) ≡ outline.outline_of (read (take r.shape.lands r.ws)) → o ≡ rule_token (read (take r.shape.lands r.ws)) i) →
      linked (parts_in o) ≡ rule_of L i
  rule_stands o tells =
      ap (λ (x : Option Shown). linked (parts_in x)) (told rule_token o tells) ∙ rule_tokened st.problem well i ∙ sym (ap (λ (M : Loaded). rule_of M i) st.takes)

  pub map_stands : (o : Option Shown) → (outline.told (Ok f) ≡ outline.outline_of (read (take r.shape.lands r.ws)) → o ≡ map_token (read (take r.shape.lands r.ws)) i) →
      path_in (linked (parts_in o)) ≡ L.link_map i
  map_stands o tells =
      ap (λ (x : Option Shown). path_in (linked (parts_in x))) (told map_token o tells) ∙ map_tokened st.problem well i ∙ sym (ap (λ (M : Loaded). M.link_map i) st.takes)

  -- what a check of the rule finds names what is there
  pub rule_named : Tidy r → (e : ℕ) → e < r.given → Named r (rule_effect L (shown r) e i)
  rule_named tidy e h =
      let k = rule_links in
      sides_named r tidy (walk (shown r).held e (L.left i)) (walk (shown r).held e (L.right i)) (walk_comes r tidy (L.left i) e h k.0) (walk_comes r tidy (L.right i) e h k.1)

-- a call leaves the problem standing
pub same_stands : (L : Loaded) (a b : Raw) (f : Found) → Same a b → Stands L a f → Stands L b f
same_stands L a b f e st = record {
  problem = st.problem;
  source = st.source;
  reads = ap (λ (h : Shape). read (take h.lands b.ws)) e.shape ∙ ap read (same_problem a b e) ∙ st.reads;
  told = st.told;
  takes = st.takes ∙ ap (λ (h : Shape). taken st.problem st.source h.capacity) (sym e.shape);
  links = st.links ∙ ap (λ (h : Shape). h.links) (sym e.shape);
}
