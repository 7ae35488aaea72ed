-- What the outline of a problem says of the words of its links and kind maps.
use Rattle.std.proofs.Common.{◌≡◌, ℕ, suc, ◌+◌, ◌/◌, ◌%◌, ◌<◌, ◌≤◌, Bool, true, false, cond, ltb, List, length, get_or, take, Some, None, Ok, sym, refl, ap, ◌∙◌, inl, inr, arith, length-take}
use Rattle.std.proofs.lemmas.Bool.{lt-ltb, ltb-true}
use Rattle.std.proofs.lemmas.Bool.Decides.{leb_tells}
use Rattle.std.proofs.lemmas.List.{get_or-take}
use Rattle.words.specs.Items.{sized, got}
use Rattle.words.specs.Words.{then, fields}
use Rattle.words.proofs.Inverse.{then_ok}
use Rattle.words.proofs.Laid.{ok_same}
use Rattle.problems.specs.declared.Found.{Found}
use Rattle.problems.specs.declared.Schema.{Schema}
use Rattle.problems.specs.Problem.{Link, Problem, schema, links, whole_schema, kind_maps, no_link}
use Rattle.problems.specs.Seen.{Mapped, ends_of}
use Rattle.problems.specs.Shown.{source_of, target_of}
use Rattle.problems.proofs.Layouts.{read_layout}
use Rattle.problems.proofs.Paths.{link_inside, link_from}
use Rattle.problems.proofs.Mapping.{map_inside, map_is}
use Rattle.problems.proofs.Problems.{ProblemRead, problem_told}
use Rattle.machine.specs.Loaded.{Loaded}
use Rattle.rows.specs.Layout.{Raw}
use Rattle.rows.specs.Standing.{Stands}

-- the links of a schema that was read
pub schema_read : (side : ℕ) (ws : List ℕ) (at k : ℕ) (ls : List Link) → whole_schema side ws at ≡ Ok (k, ls) → links k ws (at + 1) ≡ Ok ls
schema_read side ws at k ls e =
    let a = then_ok (schema side ws at) (λ k. then (links k ws (at + 1)) (λ ls. Ok (k, ls))) (k, ls) e in
    let b = then_ok (links a.0 ws (at + 1)) (λ ls. Ok (a.0, ls)) (k, ls) a.2 in
    let h = ok_same b.2 in
    ap (λ x. links x.0 ws (at + 1)) h ∙ b.1 ∙ ap (λ x. Ok x.1) (sym h)

-- the word of a link
module _ (kinds : ℕ) (ws : List ℕ) (at : ℕ) (ls : List Link) (e : links kinds ws at ≡ Ok ls) (l : ℕ) (h : l < length ls) where
  pub link_in : at + l < length ws
  link_in = link_inside kinds ws at (length ls) l (ap sized e) h

  pub link_ends : (fields (get_or ws (at + l) 0) / 256 ≡ (get_or ls l no_link).from) × (fields (get_or ws (at + l) 0) % 256 ≡ (get_or ls l no_link).to)
  link_ends =
      let x = link_from kinds ws at (length ls) l (fields (get_or ws (at + l) 0)) (ap sized e) h refl in
      let g = ap got e in
      (x.0 ∙ ap (λ ls. (get_or ls l no_link).from) g, x.1 ∙ ap (λ ls. (get_or ls l no_link).to) g)

-- what a test chose
module _ {X : Type 0} (b : Bool) (y : X) where
  pub told_some : (x : X) → Some x ≡ cond b (Some y) None → (b ≡ true) × (x ≡ y)
  told_some x p = go b p
    where
      go : (c : Bool) → Some x ≡ cond c (Some y) None → (c ≡ true) × (x ≡ y)
      go true e = (refl, cc)
      go false e = absurd (let z : ◌≡◌ {A = ℕ} 0 1 = cc in omega arith)

  pub told_none : None ≡ cond b (Some y) None → b ≡ false
  told_none p = go b p
    where
      go : (c : Bool) → None ≡ cond c (Some y) None → c ≡ false
      go true e = absurd (let z : ◌≡◌ {A = ℕ} 0 1 = cc in omega arith)
      go false e = refl

module _ (L : Loaded) (r : Raw) (f : Found) (st : Stands L r f) where
  abbrev ws : List ℕ
  ws = take r.shape.lands r.ws

  abbrev p : Problem
  p = st.problem

  parts : ProblemRead ws p
  parts = problem_told ws p st.reads

  source_told : f.source ≡ source_of p
  source_told = let e = ok_same (sym st.told) in ap (λ s. s.source) e

  target_told : f.target ≡ target_of p
  target_told = let e = ok_same (sym st.told) in ap (λ s. s.target) e

  -- the problem's words are the first of the table's
  known : (i : ℕ) → i < length ws → (i < length r.ws) × (get_or r.ws i 0 ≡ get_or ws i 0)
  known i h =
      let n = length-take r.shape.lands r.ws in
      (omega arith, sym (get_or-take r.shape.lands r.ws i 0 (omega arith)))

  -- the links of one of the two schemas
  module _ (s : Schema) (ls : List Link) (e : links s.kinds ws s.place ≡ Ok ls) (n : s.links ≡ length ls) where
    ends : (l : ℕ) → l < s.links → ((get_or ls l no_link).from ≡ fields (get_or r.ws (s.place + l) 0) / 256) × ((get_or ls l no_link).to ≡ fields (get_or r.ws (s.place + l) 0) % 256)
    ends l h =
        let k : l < length ls = omega arith in
        let w = (known (s.place + l) (link_in s.kinds ws s.place ls e l k)).1 in
        let x = link_ends s.kinds ws s.place ls e l k in
        (sym (ap (λ v. fields v / 256) w ∙ x.0), sym (ap (λ v. fields v % 256) w ∙ x.1))

  source_read : links f.source.kinds ws f.source.place ≡ Ok p.source_links
  source_read = ap (λ (s : Schema). links s.kinds ws s.place) source_told ∙ schema_read 0 ws 0 p.source_kinds p.source_links parts.sourced

  target_read : links f.target.kinds ws f.target.place ≡ Ok p.target_links
  target_read = ap (λ (s : Schema). links s.kinds ws s.place) target_told ∙ schema_read 1 ws (1 + length p.source_links) p.target_kinds p.target_links parts.targeted

  pub source_links_are : f.source.links ≡ L.source_links
  source_links_are = ap (λ (s : Schema). s.links) source_told ∙ sym (ap (λ (M : Loaded). M.source_links) st.takes)

  pub source_few : f.source.links ≤ 64
  source_few = let n = ap (λ (s : Schema). s.links) source_told in omega (arith, n, (read_layout ws p st.reads).1.source.few_links)

  pub target_links_are : f.target.links ≡ L.links
  target_links_are = ap (λ (s : Schema). s.links) target_told ∙ sym (ap (λ (M : Loaded). M.links) st.takes)

  pub source_kinds_are : f.source.kinds ≡ L.source_kinds
  source_kinds_are = ap (λ (s : Schema). s.kinds) source_told ∙ sym (ap (λ (M : Loaded). M.source_kinds) st.takes)

  -- the ends of a link, as load took them
  module _ (l : ℕ) where
    source_ends_are : ends_of f.source r.ws l ≡ cond (ltb l L.source_links) (Some (L.source_from l, L.source_to l)) None
    source_ends_are = rw (← source_links_are) (elim (leb_tells (suc l) f.source.links) [
      | inl t ↦ (
          let e = ends f.source p.source_links source_read (ap (λ (s : Schema). s.links) source_told) l t.1 in
          rw t.0 (λ j. Some (sym (ap (λ (M : Loaded). M.source_from l) st.takes ∙ e.0) j, sym (ap (λ (M : Loaded). M.source_to l) st.takes ∙ e.1) j)))
      | inr t ↦ rw t.0 refl
    ])

    target_ends_are : ends_of f.target r.ws l ≡ cond (ltb l L.links) (Some (L.from l, L.to l)) None
    target_ends_are = rw (← target_links_are) (elim (leb_tells (suc l) f.target.links) [
      | inl t ↦ (
          let e = ends f.target p.target_links target_read (ap (λ (s : Schema). s.links) target_told) l t.1 in
          rw t.0 (λ j. Some (sym (ap (λ (M : Loaded). M.from l) st.takes ∙ e.0) j, sym (ap (λ (M : Loaded). M.to l) st.takes ∙ e.1) j)))
      | inr t ↦ rw t.0 refl
    ])

    pub ends_some : (e : ℕ × ℕ) → Some e ≡ ends_of f.source r.ws l → (l < L.source_links) × (e ≡ (L.source_from l, L.source_to l))
    ends_some e n = let t = told_some (ltb l L.source_links) _ e (n ∙ source_ends_are) in (ltb-true l L.source_links t.0, t.1)

    pub source_ends : l < L.source_links → ends_of f.source r.ws l ≡ Some (L.source_from l, L.source_to l)
    source_ends h = source_ends_are ∙ rw (lt-ltb l L.source_links h) refl

    pub target_ends : l < L.links → ends_of f.target r.ws l ≡ Some (L.from l, L.to l)
    target_ends h = target_ends_are ∙ rw (lt-ltb l L.links h) refl

  -- the word of a kind map
  module _ (k : ℕ) (h : k < f.source.kinds) where
    kinded : kind_maps p.source_kinds p.target_kinds ws f.maps ≡ Ok p.kind_map
    kinded = let e = ok_same (sym st.told) in ap (kind_maps p.source_kinds p.target_kinds ws) (ap (λ s. s.maps) e) ∙ parts.kinded

    mapped : Mapped p.source_kinds p.target_kinds ws f.maps
    mapped = kinded ∙ ap Ok (sym (ap got kinded))

    there : k < p.source_kinds
    there = let e = ap (λ (s : Schema). s.kinds) source_told in omega (arith, e)

    pub map_in : f.maps + k < length r.ws
    map_in = (known (f.maps + k) (map_inside p.source_kinds p.target_kinds ws f.maps k mapped there)).0

    pub map_kind : L.kind_map k ≡ fields (get_or r.ws (f.maps + k) 0) % 256
    map_kind = ap (λ (M : Loaded). M.kind_map k) st.takes ∙ sym (ap (λ v. fields v % 256) (known (f.maps + k) (map_inside p.source_kinds p.target_kinds ws f.maps k mapped there)).1
        ∙ map_is p.source_kinds p.target_kinds ws f.maps k _ mapped there refl ∙ ap (λ ks. get_or ks k 0) (ap got kinded))
