-- A register that passes the tests: its file is well-formed and has its meaning.
use Rattle.std.proofs.Common.{◌≡◌, ℕ, zero, suc, ◌+◌, ◌*◌, ◌<◌, ◌≤◌, true, false, cond, not, ◌&&◌, ◌||◌, ltb, length, get_or, Some, None, Option, unwrap_or, sym, refl, ap, ◌∙◌, subst, ⊎_elim, arith}
use Rattle.std.proofs.lemmas.List.{get_or_past}
use Rattle.std.proofs.lemmas.Bool.{false≢true, not-false, not_from_true, ltb-true, ltb-false, lt-ltb, le-ltb, and_parts, and_from, or_parts, or_from, cases_lt, cond-true, cond-false}
use Rattle.register_files.specs.Register.{Row}
use Rattle.register_files.specs.Layout.{GoodLink, WellFormed}
use Rattle.registers.specs.Meaning.{Meaning, Lawful, no_row, row_at, answers}
use Rattle.registers.specs.Writing.{upto, lowest, crowded, large, astray, strays, broken_by, broken, lead, row_by, row_of, file_of}
use Rattle.registers.specs.Parts.{LeadsFit, Writable, row_words, links_words}
use Rattle.registers.proofs.WrittenLists.{some_none, none_told, none_from, lowest_told, upto_length, upto_at, upto_all}
use Rattle.registers.proofs.WrittenParts.{row_length, links_none, links_step}

-- a link that is not broken
pub record Joined (m : Meaning) (l from to : ℕ) : Type 0 where
  pub from_known : from < m.kinds
  pub to_known : to < m.kinds
  pub leads : (r : ℕ) → r < m.count from → (m.follow l r ≡ Some (lead m l r)) × (lead m l r < m.count to)

astray_told : (n : ℕ) (o : Option ℕ) → astray n o ≡ false → (o ≡ Some (unwrap_or o 0)) × (unwrap_or o 0 < n)
astray_told n None e = absurd (false≢true (sym e))
astray_told n (Some r) e = (refl, ltb-true r n (not-false (ltb r n) e))

astray_made : (n : ℕ) (o : Option ℕ) → (o ≡ Some (unwrap_or o 0)) × (unwrap_or o 0 < n) → astray n o ≡ false
astray_made n None h = absurd (some_none (sym h.0))
astray_made n (Some r) h = not_from_true (ltb r n) (lt-ltb r n h.1)

ends_by : (m : Meaning) (l : ℕ) (o : Option (ℕ × ℕ)) → broken_by m l o ≡ false → (from : ℕ) × (to : ℕ) × (Some (from, to) ≡ o)
ends_by m l None e = absurd (false≢true (sym e))
ends_by m l (Some e) b = (e.0, e.1, refl)

module _ (m : Meaning) (l : ℕ) where
  pub ends_told : broken m l ≡ false → (from : ℕ) × (to : ℕ) × (Some (from, to) ≡ m.ends l)
  ends_told b = ends_by m l (m.ends l) b

  pub link_told : (from to : ℕ) → Some (from, to) ≡ m.ends l → broken m l ≡ false → Joined m l from to
  link_told from to e b =
      let h = or_parts (not (ltb from m.kinds && ltb to m.kinds)) (strays m l from to) (ap (broken_by m l) e ∙ b) in
      let k = and_parts (ltb from m.kinds) (ltb to m.kinds) (not-false _ h.0) in
      record {
        from_known = ltb-true _ _ k.0;
        to_known = ltb-true _ _ k.1;
        leads = λ r q. astray_told (m.count to) (m.follow l r) (none_told (λ j. astray (m.count to) (m.follow l j)) (m.count from) h.1 r q);
      }

  pub link_made : (from to : ℕ) → Some (from, to) ≡ m.ends l → Joined m l from to → broken m l ≡ false
  link_made from to e j =
      sym (ap (broken_by m l) e)
      ∙ or_from _ _ (not_from_true _ (and_from _ _ (lt-ltb from m.kinds j.from_known) (lt-ltb to m.kinds j.to_known)))
      (none_from (λ r. astray (m.count to) (m.follow l r)) (m.count from) (λ r q. astray_made (m.count to) (m.follow l r) (j.leads r q)))

pub writable : (m : Meaning) → large m ≡ false → lowest (broken m) m.links ≡ None → Writable m
writable m h k =
    let a = or_parts (ltb 32 m.kinds) (ltb 64 m.links || crowded m) h in
    let b = or_parts (ltb 64 m.links) (crowded m) a.1 in
    record {
      few_kinds = ltb-false _ _ a.0;
      few_links = ltb-false _ _ b.0;
      small = λ j q. let s = ltb-false 65535 (m.count j) (none_told (λ i. ltb 65535 (m.count i)) m.kinds b.1 j q) in omega arith;
      unbroken = lowest_told (broken m) m.links k;
    }

-- what the words of a link ask
module _ (m : Meaning) (w : Writable m) (l from to : ℕ) (h : l < m.links) (e : Some (from, to) ≡ m.ends l) where
  joined_here : Joined m l from to
  joined_here = link_told m l from to e (w.unbroken l h)

  pub ends_fit : (from < 32) × (to < 32)
  ends_fit = let j = joined_here in (omega (arith, w.few_kinds, j.from_known), omega (arith, w.few_kinds, j.to_known))

  pub leads_fit : LeadsFit m l (m.count from)
  leads_fit r q = let j = joined_here in omega (arith, (j.leads r q).1, w.small to j.to_known)

  row_fits : length (row_words m l) ≤ 65536
  row_fits = let j = joined_here in omega (arith, row_length m l from to e, w.small from j.from_known)

links_fit : (m : Meaning) → Writable m → (n : ℕ) → n ≤ m.links → length (links_words m n) ≤ n * 65536
links_fit m w zero h = rw (links_none m) (omega arith)
links_fit m w (suc n) h =
    let t = ends_told m n (w.unbroken n (omega arith)) in
    omega (arith, links_step m n, row_fits m w n t.0 t.1 (omega arith) t.2, links_fit m w n (omega arith))

-- the number of words fits the field of the end
pub file_fits : (m : Meaning) → Writable m → 1 + m.kinds + length (links_words m m.links) < 268435456
file_fits m w = omega (arith, w.few_kinds, w.few_links, links_fit m w m.links (omega arith))

-- two meanings with the same answers
same_meaning : (a b : Meaning) → a.kinds ≡ b.kinds → a.links ≡ b.links → ((l : ℕ) → a.ends l ≡ b.ends l) → ((k : ℕ) → a.count k ≡ b.count k)
    → ((l r : ℕ) → a.follow l r ≡ b.follow l r) → a ≡ b
same_meaning a b p q e c f = λ i. record { kinds = p i; links = q i; ends = λ l. e l i; count = λ k. c k i; follow = λ l r. f l r i }

module _ (m : Meaning) (w : Writable m) where
  good_row : (l : ℕ) → l < m.links → GoodLink (upto m.count m.kinds) (row_of m l)
  good_row l h =
      let t = ends_told m l (w.unbroken l h) in
      let from : ℕ = t.0 in
      let to : ℕ = t.1 in
      let j = link_told m l from to t.2 (w.unbroken l h) in
      let k = upto_length m.count m.kinds in
      subst (λ o. GoodLink (upto m.count m.kinds) (row_by m l o)) t.2 (record {
        from_known = omega (arith, j.from_known);
        to_known = omega (arith, j.to_known);
        full = upto_length (lead m l) (m.count from) ∙ sym (upto_at m.count m.kinds from 0 j.from_known);
        counted = upto_all (lead m l) (λ r. r < get_or (upto m.count m.kinds) to 0) (m.count from)
            (λ r q. rw (upto_at m.count m.kinds to 0 j.to_known) (j.leads r q).1);
      })

  pub well_formed : WellFormed (file_of m)
  well_formed =
      let k = upto_length m.count m.kinds in
      let n = upto_length (row_of m) m.links in
      record {
        few_kinds = omega (arith, w.few_kinds);
        small = upto_all m.count (λ c. c < 65536) m.kinds w.small;
        few_links = omega (arith, w.few_links);
        links = upto_all (row_of m) (GoodLink (upto m.count m.kinds)) m.links good_row;
        few_landings = omega arith;
        landings = tt;
      }

  row_here : (l from to : ℕ) → l < m.links → Some (from, to) ≡ m.ends l → row_at (file_of m) l ≡ row_by m l (Some (from, to))
  row_here l from to h e = upto_at (row_of m) m.links l no_row h ∙ ap (row_by m l) (sym e)

  known : (l : ℕ) → l < m.links → ltb l (length (file_of m).links) ≡ true
  known l h = let n = upto_length (row_of m) m.links in lt-ltb l (length (upto (row_of m) m.links)) (omega arith)

  unknown : (l : ℕ) → m.links ≤ l → ltb l (length (file_of m).links) ≡ false
  unknown l h = let n = upto_length (row_of m) m.links in le-ltb l (length (upto (row_of m) m.links)) (omega arith)

  module _ (law : Lawful m) where
    ends_same : (l : ℕ) → (answers (file_of m)).ends l ≡ m.ends l
    ends_same l = ⊎_elim
        (λ (h : l < m.links).
        let t = ends_told m l (w.unbroken l h) in
        cond-true _ _ None (known l h) ∙ ap (λ (r : Row). Some (r.from, r.to)) (row_here l t.0 t.1 h t.2) ∙ t.2)
        (λ (h : m.links ≤ l). cond-false _ _ None (unknown l h) ∙ sym (law.unknown_link l h))
        (cases_lt l m.links)

    count_same : (k : ℕ) → (answers (file_of m)).count k ≡ m.count k
    count_same k = ⊎_elim
        (λ (h : k < m.kinds). upto_at m.count m.kinds k 0 h)
        (λ (h : m.kinds ≤ k). get_or_past (upto m.count m.kinds) k 0 (let n = upto_length m.count m.kinds in omega arith) ∙ sym (law.unknown_kind k h))
        (cases_lt k m.kinds)

    leads_same : (l r from to : ℕ) → Some (from, to) ≡ m.ends l → l < m.links
        → cond (ltb r (length (upto (lead m l) (m.count from)))) (Some (get_or (upto (lead m l) (m.count from)) r 0)) None ≡ m.follow l r
    leads_same l r from to e h =
        let j = link_told m l from to e (w.unbroken l h) in
        let n = upto_length (lead m l) (m.count from) in
        ⊎_elim
        (λ (q : r < m.count from). cond-true _ _ None (lt-ltb r (length (upto (lead m l) (m.count from))) (omega arith))
        ∙ ap Some (upto_at (lead m l) (m.count from) r 0 q) ∙ sym (j.leads r q).0)
        (λ (q : m.count from ≤ r). cond-false _ _ None (le-ltb r (length (upto (lead m l) (m.count from))) (omega arith))
        ∙ sym (law.leads_uncounted l r (from, to) (sym e) q))
        (cases_lt r (m.count from))

    follow_same : (l r : ℕ) → (answers (file_of m)).follow l r ≡ m.follow l r
    follow_same l r = ⊎_elim
        (λ (h : l < m.links).
        let t = ends_told m l (w.unbroken l h) in
        cond-true _ _ None (known l h)
        ∙ ap (λ (x : Row). cond (ltb r (length x.leads)) (Some (get_or x.leads r 0)) None) (row_here l t.0 t.1 h t.2)
        ∙ leads_same l r t.0 t.1 t.2 h)
        (λ (h : m.links ≤ l). cond-false _ _ None (unknown l h) ∙ sym (law.leads_unknown l r h))
        (cases_lt l m.links)

    pub answers_same : answers (file_of m) ≡ m
    answers_same = same_meaning (answers (file_of m)) m (upto_length m.count m.kinds) (upto_length (row_of m) m.links) ends_same count_same follow_same
