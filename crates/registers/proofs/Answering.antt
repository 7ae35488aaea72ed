-- The answers of a held register are those of its file.
use Rattle.std.proofs.Common.{◌≡◌, ℕ, ◌+◌, ◌-◌, ◌*◌, ◌/◌, ◌%◌, ◌<◌, ◌≤◌, Bool, true, false, cond, ltb, List, [], length, get_or, Some, None, Ok, Err, Result, slice_get, sym, refl, ap, ◌∙◌, ⊎_elim, arith}
use Rattle.std.proofs.lemmas.List.{get_or_past}
use Rattle.std.proofs.lemmas.Option.{slice_get_within, slice_get-get_or, get_or_from_slice_get}
use Rattle.std.proofs.lemmas.Bool.{cases_lt}
use Rattle.std.proofs.lemmas.Bool.Decides.{nat_tests}
use Rattle.words.specs.declared.faults.SchemaFault.{SchemaFault}
use Rattle.words.specs.Words.{starts}
use Rattle.register_files.specs.Register.{Row, File, link, span, read}
use Rattle.words.specs.Items.{places}
use Rattle.register_files.specs.Outline.{outline_of}
use Rattle.registers.specs.Meaning.{Lawful, no_row, row_at, no_file, or_none, file, answers}
use Rattle.words.proofs.Inverse.{err_ok}
use Rattle.registers.proofs.WrittenLists.{some_none}
use Rattle.words.proofs.Single.{Stood, word_told}
use Rattle.words.proofs.Items.{run_at, run_length, items_at}
use Rattle.register_files.proofs.Parts.{LinkRead, link_told, count_stood, counts_told, counted_told}
use Rattle.register_files.proofs.Files.{FileRead, read_told, places_length}
use Rattle.words.specs.declared.tags.Tag.TheVariants as tag

pub file_none : file [] ≡ no_file
unfolding file
file_none = refl

made_by : (r : Result File SchemaFault) (k n : ℕ) (ps : List ℕ) → outline_of r ≡ Ok (k, n, ps) → (r ≡ Ok (or_none r)) × (k ≡ length (or_none r).counts) × (ps ≡ places span (1 + k) (or_none r).links)
made_by (Ok f) k n ps e =
    let h : ◌≡◌ {A = ℕ × ℕ × List ℕ} (length f.counts, length f.links, places span (1 + length f.counts) f.links) (k, n, ps) = cc in
    (refl, ap (λ t. t.0) (sym h), ap (λ t. t.2) (sym h) ∙ ap (λ j. places span (1 + j) f.links) (ap (λ t. t.0) h))
made_by (Err y) k n ps e = absurd (err_ok e)

pub file_made : (ws : List ℕ) (k n : ℕ) (ps : List ℕ) → outline_of (read ws) ≡ Ok (k, n, ps)
    → (read ws ≡ Ok (file ws)) × (k ≡ length (file ws).counts) × (ps ≡ places span (1 + k) (file ws).links)
unfolding file
file_made ws k n ps e = made_by (read ws) k n ps e

kinds_by : (r : Result File SchemaFault) → 0 < length (or_none r).counts → r ≡ Ok (or_none r)
kinds_by (Ok f) h = refl
kinds_by (Err y) h = absurd (omega arith)

links_by : (r : Result File SchemaFault) → 0 < length (or_none r).links → r ≡ Ok (or_none r)
links_by (Ok f) h = refl
links_by (Err y) h = absurd (omega arith)

pub with_kinds : (ws : List ℕ) → 0 < length (file ws).counts → FileRead ws (file ws)
unfolding file
with_kinds ws h = read_told ws (file ws) (kinds_by (read ws) h)

pub with_links : (ws : List ℕ) → 0 < length (file ws).links → FileRead ws (file ws)
unfolding file
with_links ws h = read_told ws (file ws) (links_by (read ws) h)

-- a count stands behind the first word
pub held_count : (ws : List ℕ) (k : ℕ) → k < length (file ws).counts → Stood tag.Count ws (1 + k) (get_or (file ws).counts k 0)
held_count ws k h = count_stood ws (file ws).counts k (with_kinds ws (omega arith)).counted h

-- a link stands at its place
pub held_link : (ws : List ℕ) (l kinds p : ℕ) (ps : List ℕ) → l < length (file ws).links → kinds ≡ length (file ws).counts → ps ≡ places span (1 + kinds) (file ws).links → p ≡ get_or ps l 0
    → LinkRead (file ws).counts ws (64 - l) p (row_at (file ws) l)
held_link ws l kinds p ps h b e q =
    let r = with_links ws (omega arith) in
    let s : get_or (places span (1 + length (file ws).counts) (file ws).links) l 0 ≡ p =
    ap (λ j. get_or (places span (1 + j) (file ws).links) l 0) (sym b) ∙ ap (λ t. get_or t l 0) (sym e) ∙ sym q in
    link_told (file ws).counts ws (64 - l) p (row_at (file ws) l)
    (ap (link (file ws).counts ws (64 - l)) (sym s) ∙ items_at span (λ room p. starts tag.RegisterLink ws p) (link (file ws).counts ws) 64 (1 + length (file ws).counts) l (file ws).links no_row r.linked (omega arith))

-- and its records behind it
pub link_length : (cs ws : List ℕ) (room at : ℕ) (l : Row) → LinkRead cs ws room at l → length l.leads ≡ get_or cs l.from 0
link_length cs ws room at l r = run_length _ _ _ _ r.each

pub link_lead : (cs ws : List ℕ) (room at : ℕ) (l : Row) (k : ℕ) → LinkRead cs ws room at l → k < get_or cs l.from 0 → Stood tag.Record ws (at + 1 + k) (get_or l.leads k 0)
link_lead cs ws room at l k r h = (counted_told _ ws (at + 1 + k) (get_or l.leads k 0) (run_at _ _ (at + 1) k l.leads 0 r.each h)).0

pub link_stood : (cs ws : List ℕ) (room at : ℕ) (l : Row) → LinkRead cs ws room at l → Stood tag.RegisterLink ws at (l.from * 256 + l.to)
link_stood cs ws room at l r = word_told tag.RegisterLink ws at (l.from * 256 + l.to) r.head

-- the same, as the code asks
module _ (ws : List ℕ) (kinds : ℕ) (ps : List ℕ) (kinded : kinds ≡ length (file ws).counts) (placed : ps ≡ places span (1 + kinds) (file ws).links) where
  pub links_are : length ps ≡ length (file ws).links
  links_are = ap length placed ∙ places_length (file ws).links (1 + kinds)

  -- a link that has a place is known, and one that has none is not
  link_got : (l p : ℕ) → slice_get ps l ≡ Some p → (l < length ps) × (p ≡ get_or ps l 0)
  link_got l p e = (slice_get_within ps l p e, sym (get_or_from_slice_get ps l p 0 e))

  pub link_past : (l : ℕ) → slice_get ps l ≡ None → length (file ws).links ≤ l
  link_past l e =
      let n = links_are in
      ⊎_elim (λ (h : l < length ps). absurd (some_none (sym (slice_get-get_or ps l 0 h) ∙ e))) (λ (h : length ps ≤ l). omega arith) (cases_lt l (length ps))

  pub count_is : (k : ℕ) → k < kinds → get_or ws (1 + k) 0 % 268435456 ≡ (answers (file ws)).count k
  count_is k h = let s = held_count ws k (omega arith) in omega (arith, s.same, s.small)

  pub count_none : (k : ℕ) → kinds ≤ k → 0 ≡ (answers (file ws)).count k
  count_none k h = sym (get_or_past (file ws).counts k 0 (omega arith))

  link_here : (l : ℕ) → l < length ps → LinkRead (file ws).counts ws (64 - l) (get_or ps l 0) (row_at (file ws) l)
  link_here l h = held_link ws l kinds (get_or ps l 0) ps (omega (arith, links_are)) kinded placed refl

  pub link_inside : (l : ℕ) → l < length ps → get_or ps l 0 < length ws
  link_inside l h = (link_stood _ _ _ _ _ (link_here l h)).inside

  from_small : (l : ℕ) → l < length ps → ((row_at (file ws) l).from < 256) × ((row_at (file ws) l).to < 256)
  from_small l h =
      let n = links_are in
      let r = link_here l h in
      let few = (counts_told ws (file ws).counts (with_links ws (omega arith)).counted).few in
      (omega (arith, r.from_known), omega (arith, r.to_known))

  ends_are : (l : ℕ) → l < length ps
      → Some (get_or ws (get_or ps l 0) 0 % 268435456 / 256, get_or ws (get_or ps l 0) 0 % 268435456 % 256) ≡ (answers (file ws)).ends l
  ends_are l h =
      let n = links_are in
      let s = link_stood _ _ _ _ _ (link_here l h) in
      let b = from_small l h in
      let p : get_or ws (get_or ps l 0) 0 % 268435456 / 256 ≡ (row_at (file ws) l).from = omega (arith, s.same, s.small, b.0, b.1) in
      let q : get_or ws (get_or ps l 0) 0 % 268435456 % 256 ≡ (row_at (file ws) l).to = omega (arith, s.same, s.small, b.0, b.1) in
      let t : ltb l (length (file ws).links) ≡ true = grind (arith, nat_tests) in
      ap (λ x. Some (x, get_or ws (get_or ps l 0) 0 % 268435456 % 256)) p ∙ ap (λ x. Some ((row_at (file ws) l).from, x)) q
      ∙ sym (ap (λ b. cond b (Some ((row_at (file ws) l).from, (row_at (file ws) l).to)) None) t)

  pub ends_got : (l p : ℕ) → slice_get ps l ≡ Some p → Some (get_or ws p 0 % 268435456 / 256, get_or ws p 0 % 268435456 % 256) ≡ (answers (file ws)).ends l
  ends_got l p g = let q = link_got l p g in rw q.1 (ends_are l q.0)

  -- a link that has ends is known, and they are its ends
  pub ends_told : (l : ℕ) (x : ℕ × ℕ) → Some x ≡ (answers (file ws)).ends l → (l < length ps) × (x.0 ≡ (row_at (file ws) l).from)
  ends_told l x e = by (ltb l (length (file ws).links)) refl e
    where
      by : (b : Bool) → ltb l (length (file ws).links) ≡ b → Some x ≡ cond b (Some ((row_at (file ws) l).from, (row_at (file ws) l).to)) None → (l < length ps) × (x.0 ≡ (row_at (file ws) l).from)
      by true t e = let h : x ≡ ((row_at (file ws) l).from, (row_at (file ws) l).to) = cc in (let n = links_are in grind (arith, nat_tests), ap (λ y. y.0) h)
      by false t e = absurd (let z : ◌≡◌ {A = ℕ} 0 1 = cc in omega arith)

  leads_are : (l : ℕ) → l < length ps → length (row_at (file ws) l).leads ≡ (answers (file ws)).count (row_at (file ws) l).from
  leads_are l h = link_length _ _ _ _ _ (link_here l h)

  pub follow_none : (l r : ℕ) → l < length ps → (answers (file ws)).count (row_at (file ws) l).from ≤ r → None ≡ (answers (file ws)).follow l r
  follow_none l r h n =
      let e = links_are in
      let m = leads_are l h in
      let t : ltb r (length (row_at (file ws) l).leads) ≡ false = grind (arith, nat_tests) in
      let u : ltb l (length (file ws).links) ≡ true = grind (arith, nat_tests) in
      sym (ap (λ b. cond b (cond (ltb r (length (row_at (file ws) l).leads)) (Some (get_or (row_at (file ws) l).leads r 0)) None) None) u
      ∙ ap (λ b. cond b (Some (get_or (row_at (file ws) l).leads r 0)) None) t)

  lead_inside : (l r : ℕ) → l < length ps → r < (answers (file ws)).count (row_at (file ws) l).from → get_or ps l 0 + 1 + r < length ws
  lead_inside l r h n = (link_lead _ _ _ _ _ r (link_here l h) n).inside

  follow_is : (l r : ℕ) → l < length ps → r < (answers (file ws)).count (row_at (file ws) l).from
      → Some (get_or ws (get_or ps l 0 + 1 + r) 0 % 268435456) ≡ (answers (file ws)).follow l r
  follow_is l r h n =
      let e = links_are in
      let m = leads_are l h in
      let s = link_lead _ _ _ _ _ r (link_here l h) n in
      let p : get_or ws (get_or ps l 0 + 1 + r) 0 % 268435456 ≡ get_or (row_at (file ws) l).leads r 0 = omega (arith, s.same, s.small) in
      let t : ltb r (length (row_at (file ws) l).leads) ≡ true = grind (arith, nat_tests) in
      let u : ltb l (length (file ws).links) ≡ true = grind (arith, nat_tests) in
      ap Some p
      ∙ sym (ap (λ b. cond b (cond (ltb r (length (row_at (file ws) l).leads)) (Some (get_or (row_at (file ws) l).leads r 0)) None) None) u
      ∙ ap (λ b. cond b (Some (get_or (row_at (file ws) l).leads r 0)) None) t)

  pub follow_inside : (l r n p : ℕ) (x : ℕ × ℕ) → slice_get ps l ≡ Some p → Some x ≡ (answers (file ws)).ends l → n ≡ (answers (file ws)).count x.0 → r < n → p + 1 + r < length ws
  follow_inside l r n p x g e c h =
      let t = ends_told l x e in
      let q : n ≡ (answers (file ws)).count (row_at (file ws) l).from = c ∙ ap (answers (file ws)).count t.1 in
      rw (link_got l p g).1 (lead_inside l r t.0 (omega arith))

  pub follow_gives : (l r n p : ℕ) (x : ℕ × ℕ) → slice_get ps l ≡ Some p → Some x ≡ (answers (file ws)).ends l → n ≡ (answers (file ws)).count x.0 → r < n
      → Some (get_or ws (p + 1 + r) 0 % 268435456) ≡ (answers (file ws)).follow l r
  follow_gives l r n p x g e c h =
      let t = ends_told l x e in
      let q : n ≡ (answers (file ws)).count (row_at (file ws) l).from = c ∙ ap (answers (file ws)).count t.1 in
      rw (link_got l p g).1 (follow_is l r t.0 (omega arith))

  pub follow_stops : (l r n : ℕ) (x : ℕ × ℕ) → Some x ≡ (answers (file ws)).ends l → n ≡ (answers (file ws)).count x.0 → n ≤ r → None ≡ (answers (file ws)).follow l r
  follow_stops l r n x e c h =
      let t = ends_told l x e in
      let q : n ≡ (answers (file ws)).count (row_at (file ws) l).from = c ∙ ap (answers (file ws)).count t.1 in
      follow_none l r t.0 (omega arith)

  pub held_lawful : Lawful (answers (file ws))
  held_lawful = record {
    unknown_kind = λ k h. sym (count_none k (omega arith));
    known_link = λ l h. let t : ltb l (length (file ws).links) ≡ true = grind (arith, nat_tests) in rw t tt;
    unknown_link = λ l h. grind (arith, nat_tests);
    leads_unknown = λ l r h. grind (arith, nat_tests);
    leads_uncounted = λ l r e q h. sym (follow_stops l r ((answers (file ws)).count e.0) e (sym q) refl h);
  }
