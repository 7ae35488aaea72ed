-- Words after a run of writes, one by one.
use Rattle.std.proofs.Common.{◌≡◌, ℕ, zero, suc, ◌+◌, ◌-◌, ◌*◌, ◌<◌, ◌≤◌, cond, ◌&&◌, eqb, ltb, leb, ◌⊎◌, List, map, length, replicate, get_or, set, sym, refl, ◌∙◌, inl, inr, ap, arith, rules}
use Rattle.std.proofs.lemmas.List.{length-set, get_or-set_same, get_or-set_other}
use borrow.Rule.Slice.PartMut.{mid_of, put_mid}
use Rattle.std.proofs.lemmas.List.{ext_get_or, length-map, get_or-map, places}
use Rattle.std.proofs.lemmas.Bool.{cases_lt}
use Rattle.std.proofs.lemmas.Bool.Decides.{nat_tests, eqb_tells, leb_tells}
use Rattle.rows.specs.Layout.{place, word}
use Rattle.rows.specs.Writes.{changed, changed_rows, emptied}
use Rattle.rows.proofs.Places.{same_row, same_column, place_fits}

-- a write, wherever it is read
pub get_d_set : (ws : List ℕ) (i v x : ℕ) → i < length ws → get_or (set ws i v) x 0 ≡ cond (eqb x i) v (get_or ws x 0)
get_d_set ws i v x h = elim (eqb_tells x i) [ inl q ↦ rw (q.0, q.1) (get_or-set_same ws i v 0 h) | inr q ↦ rw q.0 (get_or-set_other ws i x v 0 q.1) ]

module _ (f : ℕ → ℕ) where
  pub length_changed : (ws : List ℕ) (at n : ℕ) → length (changed f ws at n) ≡ length ws
  length_changed ws at zero = refl
  length_changed ws at (suc n) = length-set (changed f ws at n) (at + n) (f (get_or (changed f ws at n) (at + n) 0)) ∙ length_changed ws at n

  pub get_d_changed : (ws : List ℕ) (at n x : ℕ) → at + n ≤ length ws → get_or (changed f ws at n) x 0 ≡ cond (leb at x && ltb x (at + n)) (f (get_or ws x 0)) (get_or ws x 0)
  get_d_changed ws at zero x h = grind (arith, nat_tests)
  get_d_changed ws at (suc n) x h =
      let l = length_changed ws at n in
      let w = get_d_set (changed f ws at n) (at + n) (f (get_or (changed f ws at n) (at + n) 0)) x (omega arith) in
      let i = get_d_changed ws at n x (omega arith) in
      elim (eqb_tells x (at + n)) [
        | inl q ↦ (let z : get_or (changed f ws at n) (at + n) 0 ≡ get_or ws x 0 = (let j = get_d_changed ws at n (at + n) (omega arith) in rw (← q.1) (rw (← q.1) at j ∙ grind (arith, nat_tests))) in
            w ∙ rw (q.0, z) (grind (arith, nat_tests)))
        | inr q ↦ w ∙ rw (q.0, i) (grind (arith, nat_tests))
      ]

  -- a word that is not among them
  pub changed_kept : (ws : List ℕ) (at n x : ℕ) → at + n ≤ length ws → (x < at) ⊎ (at + n ≤ x) → get_or (changed f ws at n) x 0 ≡ get_or ws x 0
  changed_kept ws at n x h (inl a) = get_d_changed ws at n x h ∙ grind (arith, nat_tests)
  changed_kept ws at n x h (inr a) = get_d_changed ws at n x h ∙ grind (arith, nat_tests)

  -- as a part of the words that was written
  pub in_part : (ws ys : List ℕ) (at k n : ℕ) → at + n ≤ length ws → k ≡ n → length ys ≡ n → ((i : ℕ) → i < n → get_or ys i 0 ≡ f (get_or ws (at + i) 0)) → put_mid at k ws ys ≡ changed f ws at n
  in_part ws ys at k n h m l e =
      let size : length (put_mid at k ws ys) ≡ length ws = search (rules, places) in
      ext_get_or 0 (put_mid at k ws ys) (changed f ws at n) (size ∙ sym (length_changed ws at n)) (λ x hx.
      elim (cases_lt x at) [
        | inl a ↦ (let g : get_or (put_mid at k ws ys) x 0 ≡ get_or ws x 0 = search (rules, places) in g ∙ sym (changed_kept ws at n x h (inl a)))
        | inr a ↦ elim (cases_lt x (at + n)) [
          | inl b ↦ (
              let g : get_or (put_mid at k ws ys) x 0 ≡ get_or ys (x - at) 0 = search (rules, places) in
              let o = e (x - at) (omega arith) in
              let s : at + (x - at) ≡ x = omega arith in
              g ∙ o ∙ ap (λ i. f (get_or ws i 0)) s ∙ sym (get_d_changed ws at n x h ∙ grind (arith, nat_tests)))
          | inr b ↦ (let g : get_or (put_mid at k ws ys) x 0 ≡ get_or ws x 0 = search (rules, places) in g ∙ sym (changed_kept ws at n x h (inr b)))
        ]
      ])

  -- the first m cells of entry e
  pub word_changed : (ws : List ℕ) (base links e m x y : ℕ) → place base links e 3 + m ≤ length ws → m ≤ links → y < links + 3 →
      word (changed f ws (place base links e 3) m) base links x y ≡ cond (eqb x e && (leb 3 y && ltb y (3 + m))) (f (word ws base links x y)) (word ws base links x y)
  unfolding word
  word_changed ws base links e m x y h hm hy =
      let w = get_d_changed ws (place base links e 3) m (place base links x y) h in
      elim (leb_tells (place base links e 3) (place base links x y)) [
        | inl a ↦ elim (leb_tells (suc (place base links x y)) (place base links e 3 + m)) [
          | inl b ↦ (
              let q : place base links x y ≡ place base links e (place base links x y - place base links e 0) = omega arith in
              let c = same_row base links e (place base links x y - place base links e 0) x y (omega arith) hy q in
              let d = same_column base links e (place base links x y - place base links e 0) x y (omega arith) hy q in
              w ∙ grind (arith, nat_tests))
          | inr b ↦ w ∙ elim (eqb_tells x e) [ inl c ↦ grind (arith, nat_tests) | inr c ↦ grind (arith, nat_tests) ]
        ]
        | inr a ↦ w ∙ elim (eqb_tells x e) [ inl c ↦ grind (arith, nat_tests) | inr c ↦ grind (arith, nat_tests) ]
      ]

  -- the cells of the first n entries
  module _ (ws : List ℕ) (base links : ℕ) where
    pub length_rows : (n : ℕ) → length (changed_rows f ws base links n) ≡ length ws
    length_rows zero = refl
    length_rows (suc n) = length_changed (changed_rows f ws base links n) (place base links n 3) links ∙ length_rows n

    row_fits : (n : ℕ) → base + suc n * (links + 3) ≤ length ws → place base links n 3 + links ≤ length (changed_rows f ws base links n)
    row_fits n h = omega (arith, place_fits base links (suc n) (length ws) n (links + 2) h (omega arith) (omega arith), length_rows n)

    fewer_rows : (n : ℕ) → base + suc n * (links + 3) ≤ length ws → base + n * (links + 3) ≤ length ws
    fewer_rows n h = omega (arith, place_fits base links (suc n) (length ws) n 0 h (omega arith) (omega arith))

    pub rows_low : (n i : ℕ) → base + n * (links + 3) ≤ length ws → i < base → get_or (changed_rows f ws base links n) i 0 ≡ get_or ws i 0
    rows_low zero i h b = refl
    rows_low (suc n) i h b = changed_kept (changed_rows f ws base links n) (place base links n 3) links i (row_fits n h) (inl (omega arith)) ∙ rows_low n i (fewer_rows n h) b

    pub word_rows : (n x y : ℕ) → base + n * (links + 3) ≤ length ws → y < links + 3 →
        word (changed_rows f ws base links n) base links x y ≡ cond (ltb x n && leb 3 y) (f (word ws base links x y)) (word ws base links x y)
    word_rows zero x y h hy = grind (arith, nat_tests)
    word_rows (suc n) x y h hy =
        let w = word_changed (changed_rows f ws base links n) base links n links x y (row_fits n h) (omega arith) hy in
        let i = word_rows n x y (fewer_rows n h) hy in
        elim (eqb_tells x n) [ inl q ↦ grind (arith, nat_tests) | inr q ↦ grind (arith, nat_tests) ]

-- a part of the words that was changed, or emptied
module _ (ws ys : List ℕ) (at k n : ℕ) (h : at + n ≤ length ws) (m : k ≡ n) where
  size : length (mid_of at k ws) ≡ n
  size = search (rules, places)

  pub changed_part : (f : ℕ → ℕ) → ys ≡ map f (mid_of at k ws) → put_mid at k ws ys ≡ changed f ws at n
  changed_part f e = in_part f ws ys at k n h m (rw e (length-map (mid_of at k ws) f ∙ size))
      (λ i l. let t = size in rw e (get_or-map f (mid_of at k ws) i 0 0 (omega arith) ∙ ap f (search (rules, places))))

  pub emptied_part : ys ≡ replicate (length (mid_of at k ws)) 0 → put_mid at k ws ys ≡ changed emptied ws at n
  emptied_part e = in_part emptied ws ys at k n h m (let t = size in rw e (search (rules, places))) (λ i l. let t = size in rw e (search (rules, places)))
