-- Links and paths.
use Rattle.std.proofs.Common.{◌≡◌, ℕ, zero, suc, ◌+◌, ◌-◌, ◌*◌, ◌/◌, ◌%◌, ◌<◌, ◌≤◌, cond, ◌&&◌, eqb, ltb, List, [], ◌∷◌, length, get_or, Ok, Err, Result, sym, refl, ap, ◌∙◌, arith}
use Rattle.std.proofs.lemmas.Bool.{and_parts}
use Rattle.std.proofs.lemmas.Bool.Decides.{nat_tests}
use Rattle.words.specs.declared.faults.WordFault.TheVariants.{Limit}
use Rattle.words.specs.declared.faults.SchemaFault.{SchemaFault}
use Rattle.words.specs.declared.faults.SchemaFault.TheVariants.{Words, Unknown, Unjoined}
use Rattle.words.specs.Words.{word, worded, then, starts}
use Rattle.words.proofs.Inverse.{err_ok, then_ok, worded_ok, if_ok, else_ok}
use Rattle.words.proofs.Single.{word_told}
use Rattle.words.specs.Items.{sized, got, one_word}
use Rattle.problems.specs.Problem.{Link, no_link, link_of, link, links, step_of, step, path}
use Rattle.problems.specs.Seen.{Linked, links_got, stepped, reached}
use Rattle.words.proofs.Items.{items_at, places_one}
use Rattle.words.specs.declared.tags.Tag.TheVariants as tag

pub got_known : {A E : Type 0} (r : Result (List A) E) (n : ℕ) → sized r ≡ Ok n → (r ≡ Ok (got r)) × (length (got r) ≡ n)
got_known (Ok xs) n e = (refl, cc)
got_known (Err e) n p = absurd (err_ok p)

-- what an accepted link says
pub record LinkRead (kinds : ℕ) (ws : List ℕ) (room at : ℕ) (l : Link) : Type 0 where
  pub roomy : 0 < room
  pub head : word tag.Link ws at ≡ Ok (l.from * 256 + l.to)
  pub narrow : l.to < 256
  pub from_known : l.from < kinds
  pub to_known : l.to < kinds

pub link_told : (kinds : ℕ) (ws : List ℕ) (room at : ℕ) (l : Link) → link kinds ws room at ≡ Ok l → LinkRead kinds ws room at l
link_told kinds ws room at l e =
    let x = then_ok (worded (word tag.Link ws at)) (link_of kinds room at) l e in
    let v = x.0 in
    let y = else_ok (eqb room 0) (cond (ltb (v / 256) kinds && ltb (v % 256) kinds) (Ok (record { from = v / 256; to = v % 256 })) (Err (Unknown at))) (Words (Limit at)) l x.2 in
    let z = if_ok (ltb (v / 256) kinds && ltb (v % 256) kinds) (Ok (record { from = v / 256; to = v % 256 })) (Unknown at) l y.1 in
    let b = and_parts (ltb (v / 256) kinds) (ltb (v % 256) kinds) z.0 in
    let h : l ≡ record { from = v / 256; to = v % 256 } = let q = z.1 in cc in
    let p : l.from ≡ v / 256 = ap (λ r. r.from) h in
    let t : l.to ≡ v % 256 = ap (λ r. r.to) h in
    let s : v ≡ l.from * 256 + l.to = omega arith in
    record {
      roomy = grind (arith, nat_tests);
      head = worded_ok (word tag.Link ws at) v x.1 ∙ ap Ok s;
      narrow = omega arith;
      from_known = rw p (grind (arith, nat_tests));
      to_known = rw t (grind (arith, nat_tests));
    }

-- each link stands at its place
pub link_at : (kinds : ℕ) (ws : List ℕ) (at n g : ℕ) → Linked kinds ws at n → g < n
    → LinkRead kinds ws (64 - g) (at + g) (get_or (links_got kinds ws at) g no_link)
link_at kinds ws at n g k h =
    let x = got_known (links kinds ws at) n k in
    let q = places_one (links_got kinds ws at) at g (omega arith) in
    link_told kinds ws (64 - g) (at + g) (get_or (links_got kinds ws at) g no_link)
    (ap (link kinds ws (64 - g)) (sym q) ∙ items_at one_word (λ room p. starts tag.Link ws p) (link kinds ws) 64 at g (links_got kinds ws at) no_link x.0 (omega arith))

pub linked_length : (kinds : ℕ) (ws : List ℕ) (at n : ℕ) → Linked kinds ws at n → length (links_got kinds ws at) ≡ n
linked_length kinds ws at n k = (got_known (links kinds ws at) n k).1

pub link_inside : (kinds : ℕ) (ws : List ℕ) (at n g : ℕ) → Linked kinds ws at n → g < n → at + g < length ws
link_inside kinds ws at n g k h = (word_told tag.Link ws (at + g) _ (link_at kinds ws at n g k h).head).inside

pub link_from : (kinds : ℕ) (ws : List ℕ) (at n g v : ℕ) → Linked kinds ws at n → g < n → v ≡ get_or ws (at + g) 0 % 268435456
    → (v / 256 ≡ (get_or (links_got kinds ws at) g no_link).from) × (v % 256 ≡ (get_or (links_got kinds ws at) g no_link).to)
link_from kinds ws at n g v k h e =
    let r = link_at kinds ws at n g k h in
    let s = word_told tag.Link ws (at + g) ((get_or (links_got kinds ws at) g no_link).from * 256 + (get_or (links_got kinds ws at) g no_link).to) r.head in
    (omega (arith, s.same, s.small, r.narrow), omega (arith, s.same, s.small, r.narrow))

-- a path, step by step
reached_more : (g : ℕ) (r : Result (List ℕ × ℕ) SchemaFault) → reached (then r (λ x. Ok (g ∷ x.0, x.1))) ≡ reached r
reached_more g (Ok x) = refl
reached_more g (Err e) = refl

left_one : (n k : ℕ) → k < n → n - k ≡ suc (n - (k + 1))
left_one n k h = omega arith

module _ (ts : List Link) (ws : List ℕ) where
  pub path_step : (n k kind to p g : ℕ) → k < n → step ts ws kind p ≡ Ok g → to ≡ (get_or ts g no_link).to
      → reached (path ts ws (n - (k + 1)) to (p + 1)) ≡ reached (path ts ws (n - k) kind p)
  path_step n k kind to p g h e q =
      ap (λ t. reached (path ts ws (n - (k + 1)) t (p + 1))) q
      ∙ sym (ap (λ m. reached (path ts ws m kind p)) (left_one n k h)
      ∙ ap (λ r. reached (then r (λ g. then (path ts ws (n - (k + 1)) (get_or ts g no_link).to (p + 1)) (λ x. Ok (g ∷ x.0, x.1))))) e
      ∙ reached_more g (path ts ws (n - (k + 1)) (get_or ts g no_link).to (p + 1)))

  pub path_stop : (n k kind p : ℕ) (y : SchemaFault) → k < n → step ts ws kind p ≡ Err y → reached (path ts ws (n - k) kind p) ≡ Err y
  path_stop n k kind p y h e =
      ap (λ m. reached (path ts ws m kind p)) (left_one n k h)
      ∙ ap (λ r. reached (then r (λ g. then (path ts ws (n - (k + 1)) (get_or ts g no_link).to (p + 1)) (λ x. Ok (g ∷ x.0, x.1))))) e

  pub step_told : (kind p g : ℕ) → step ts ws kind p ≡ Ok g → (word tag.Step ws p ≡ Ok g) × (g < length ts) × ((get_or ts g no_link).from ≡ kind)
  step_told kind p g e =
      let x = then_ok (worded (word tag.Step ws p)) (step_of ts kind p) g e in
      let y = if_ok (ltb x.0 (length ts)) (cond (eqb (get_or ts x.0 no_link).from kind) (Ok x.0) (Err (Unjoined p))) (Unknown p) g x.2 in
      let z = if_ok (eqb (get_or ts x.0 no_link).from kind) (Ok x.0) (Unjoined p) g y.1 in
      let s : x.0 ≡ g = let q = z.1 in cc in
      let a : x.0 < length ts = grind (arith, nat_tests) in
      let b : (get_or ts x.0 no_link).from ≡ kind = grind (arith, nat_tests) in
      (worded_ok (word tag.Step ws p) x.0 x.1 ∙ ap Ok s, rw s at a, ap (λ h. (get_or ts h no_link).from) (sym s) ∙ b)

  pub stepped_ok : (kind p to : ℕ) → stepped ts ws kind p ≡ Ok to → (g : ℕ) × (step ts ws kind p ≡ Ok g) × (to ≡ (get_or ts g no_link).to)
  stepped_ok kind p to e = let x = then_ok (step ts ws kind p) (λ g. Ok (get_or ts g no_link).to) to e in (x.0, x.1, let q = x.2 in cc)

  pub stepped_err : (kind p : ℕ) (y : SchemaFault) → stepped ts ws kind p ≡ Err y → step ts ws kind p ≡ Err y
  stepped_err kind p y e = leading (step ts ws kind p) y e
    where
      leading : (r : Result ℕ SchemaFault) (y : SchemaFault) → then r (λ g. Ok (get_or ts g no_link).to) ≡ Err y → r ≡ Err y
      leading (Ok g) y e = absurd (err_ok (sym e))
      leading (Err z) y e = cc

  -- an accepted path, its first step and its rest
  pub path_split : (n kind p : ℕ) (x : List ℕ × ℕ) → path ts ws (suc n) kind p ≡ Ok x
      → (g : ℕ) × (y : List ℕ × ℕ) × (step ts ws kind p ≡ Ok g) × (path ts ws n (get_or ts g no_link).to (p + 1) ≡ Ok y) × (x ≡ (g ∷ y.0, y.1))
  path_split n kind p x e =
      let a = then_ok (step ts ws kind p) (λ g. then (path ts ws n (get_or ts g no_link).to (p + 1)) (λ x. Ok (g ∷ x.0, x.1))) x e in
      let b = then_ok (path ts ws n (get_or ts a.0 no_link).to (p + 1)) (λ x. Ok (a.0 ∷ x.0, x.1)) x a.2 in
      (a.0, b.0, a.1, b.1, let q = b.2 in cc)

  pub path_length : (n kind p : ℕ) (x : List ℕ × ℕ) → path ts ws n kind p ≡ Ok x → length x.0 ≡ n
  path_length zero kind p x e = let h : x ≡ ([], kind) = cc in ap (λ t. length t.0) h
  path_length (suc n) kind p x e =
      let s = path_split n kind p x e in
      ap (λ t. length t.0) s.4 ∙ ap suc (path_length n (get_or ts s.0 no_link).to (p + 1) s.1 s.3)

  pub path_inside : (n kind p : ℕ) (x : List ℕ × ℕ) → p ≤ length ws → path ts ws n kind p ≡ Ok x → p + n ≤ length ws
  path_inside zero kind p x h e = omega arith
  path_inside (suc n) kind p x h e =
      let s = path_split n kind p x e in
      let w = (word_told tag.Step ws p s.0 (step_told kind p s.0 s.2).0).inside in
      let k = path_inside n (get_or ts s.0 no_link).to (p + 1) s.1 (omega arith) s.3 in
      omega arith

  pub reached_ok : (r : Result (List ℕ × ℕ) SchemaFault) (k : ℕ) → reached r ≡ Ok k → (x : List ℕ × ℕ) × (r ≡ Ok x) × (x.1 ≡ k)
  reached_ok (Ok x) k e = (x, refl, cc)
  reached_ok (Err y) k e = absurd (err_ok e)
