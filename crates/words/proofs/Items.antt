-- Items, read one by one.
use Rattle.std.proofs.Common.{◌≡◌, ℕ, zero, suc, ◌+◌, ◌-◌, ◌<◌, ◌≤◌, Bool, true, false, cond, ltb, List, [], ◌∷◌, ◌++◌, length, get_or, Ok, Err, Result, sym, refl, ap, ◌∙◌, append_assoc, append-nil, add-zero, add_assoc, arith, length-append}
use Rattle.std.proofs.lemmas.Bool.Decides.{nat_tests}
use Rattle.words.specs.declared.faults.SchemaFault.{SchemaFault}
use Rattle.words.specs.Words.{then}
use Rattle.words.specs.Items.{items, one_word, run, sizes, sized, behind, outlined, places, prepended, ended}
use Rattle.words.proofs.Inverse.{err_ok, then_ok}

pub behind_ok : {X : Type 0} (size : X → ℕ) (at next : ℕ) (r : Result X SchemaFault) → behind size at r ≡ Ok next → (l : X) × (r ≡ Ok l) × (next ≡ at + size l)
behind_ok size at next (Ok l) e = (l, refl, cc)
behind_ok size at next (Err y) e = absurd (err_ok e)

behind_err : {X : Type 0} (size : X → ℕ) (at : ℕ) (y : SchemaFault) (r : Result X SchemaFault) → behind size at r ≡ Err y → r ≡ Err y
behind_err size at y (Ok l) e = absurd (err_ok (sym e))
behind_err size at y (Err z) e = cc

left_one : (n k : ℕ) → k < n → n - k ≡ suc (n - (k + 1))
left_one n k h = omega arith

outlined_more : {X : Type 0} (size : X → ℕ) (at : ℕ) (l : X) (r : Result (List X) SchemaFault)
    → outlined size at (then r (λ ls. Ok (l ∷ ls))) ≡ prepended (at ∷ []) (outlined size (at + size l) r)
outlined_more size at l (Ok ls) = ap (λ e. Ok (at ∷ places size (at + size l) ls, e)) (sym (add_assoc at (size l) (sizes size ls)))
outlined_more size at l (Err e) = refl

prepended_twice : (ps qs : List ℕ) (r : Result (List ℕ × ℕ) SchemaFault) → prepended (ps ++ qs) r ≡ prepended ps (prepended qs r)
prepended_twice ps qs (Ok x) = ap (λ y. Ok (y, x.1)) (append_assoc ps qs x.0)
prepended_twice ps qs (Err e) = refl

-- what accepted items say
items_parts : {X : Type 0} (b : Bool) (r : Result X SchemaFault) (g : X → Result (List X) SchemaFault) (l : X) (ls : List X)
    → cond b (then r (λ x. then (g x) (λ xs. Ok (x ∷ xs)))) (Ok []) ≡ Ok (l ∷ ls) → (b ≡ true) × (r ≡ Ok l) × (g l ≡ Ok ls)
items_parts false r g l ls e = absurd (cc)
items_parts true r g l ls e =
    let x = then_ok r (λ x. then (g x) (λ xs. Ok (x ∷ xs))) (l ∷ ls) e in
    let y = then_ok (g x.0) (λ xs. Ok (x.0 ∷ xs)) (l ∷ ls) x.2 in
    let p : x.0 ≡ l = cc in
    let q : y.0 ≡ ls = cc in
    (refl, x.1 ∙ ap Ok p, ap g (sym p) ∙ y.1 ∙ ap Ok q)

items_empty : {X : Type 0} (b : Bool) (r : Result X SchemaFault) (xs : List X) → cond b (then r (λ l. Ok [])) (Ok []) ≡ Ok xs → xs ≡ []
items_empty true (Ok l) xs e = cc
items_empty true (Err y) xs e = absurd (err_ok e)
items_empty false r xs e = cc

module _ {X : Type 0} (size : X → ℕ) (more : ℕ → ℕ → Bool) (f : ℕ → ℕ → Result X SchemaFault) where
  -- a turn: an item, and what stands behind it
  items_turned : (n c at next : ℕ) → more (n - c) at ≡ true → c < n → behind size at (f (n - c) at) ≡ Ok next
      → (l : X) × (items size more f (n - c) at ≡ then (items size more f (n - (c + 1)) next) (λ ls. Ok (l ∷ ls))) × (next ≡ at + size l)
  unfolding items
  items_turned n c at next s h b =
      let x = behind_ok size at next (f (n - c) at) b in
      let m : n - c ≡ suc (n - (c + 1)) = left_one n c h in (
        x.0,
        ap (λ k. items size more f k at) m
            ∙ ap (λ k. cond k (then (f (suc (n - (c + 1))) at) (λ l. then (items size more f (n - (c + 1)) (at + size l)) (λ ls. Ok (l ∷ ls)))) (Ok [])) (ap (λ k. more k at) (sym m) ∙ s)
            ∙ ap (λ r. then r (λ l. then (items size more f (n - (c + 1)) (at + size l)) (λ ls. Ok (l ∷ ls)))) (ap (λ k. f k at) (sym m) ∙ x.1)
            ∙ ap (λ p. then (items size more f (n - (c + 1)) p) (λ ls. Ok (x.0 ∷ ls))) (sym x.2),
        x.2,
      )

  pub items_more : (n c at next : ℕ) → more (n - c) at ≡ true → c < n → behind size at (f (n - c) at) ≡ Ok next
      → outlined size at (items size more f (n - c) at) ≡ prepended (at ∷ []) (outlined size next (items size more f (n - (c + 1)) next))
  items_more n c at next s h b =
      let t = items_turned n c at next s h b in
      ap (outlined size at) t.1
      ∙ outlined_more size at t.0 (items size more f (n - (c + 1)) next)
      ∙ ap (λ p. prepended (at ∷ []) (outlined size p (items size more f (n - (c + 1)) next))) (sym t.2)

  stop_at : (m at : ℕ) (y : SchemaFault) → more m at ≡ true → f m at ≡ Err y → items size more f m at ≡ Err y
  unfolding items
  stop_at zero at y s e = ap (λ k. cond k (then (f 0 at) (λ l. Ok [])) (Ok [])) s ∙ ap (λ r. then r (λ l. Ok [])) e
  stop_at (suc m) at y s e =
      ap (λ k. cond k (then (f (suc m) at) (λ l. then (items size more f m (at + size l)) (λ ls. Ok (l ∷ ls)))) (Ok [])) s
      ∙ ap (λ r. then r (λ l. then (items size more f m (at + size l)) (λ ls. Ok (l ∷ ls)))) e

  pub items_stop : (m at : ℕ) (y : SchemaFault) → more m at ≡ true → behind size at (f m at) ≡ Err y → outlined size at (items size more f m at) ≡ Err y
  items_stop m at y s b = ap (outlined size at) (stop_at m at y s (behind_err size at y (f m at) b))

  pub items_none : (m at : ℕ) → more m at ≡ false → items size more f m at ≡ Ok []
  unfolding items
  items_none zero at s = ap (λ k. cond k (then (f 0 at) (λ l. Ok [])) (Ok [])) s
  items_none (suc m) at s = ap (λ k. cond k (then (f (suc m) at) (λ l. then (items size more f m (at + size l)) (λ ls. Ok (l ∷ ls)))) (Ok [])) s

  pub items_done : (m at : ℕ) (ps : List ℕ) → more m at ≡ false → prepended ps (outlined size at (items size more f m at)) ≡ Ok (ps, at)
  items_done m at ps s = ap (λ r. prepended ps (outlined size at r)) (items_none m at s) ∙ simp (append-nil, add-zero)

  -- one more place is kept behind those that there are
  pub items_push : (n at next : ℕ) (ps : List ℕ) → more (n - length ps) at ≡ true → length ps < n → behind size at (f (n - length ps) at) ≡ Ok next
      → prepended (ps ++ at ∷ []) (outlined size next (items size more f (n - length (ps ++ at ∷ [])) next)) ≡ prepended ps (outlined size at (items size more f (n - length ps) at))
  items_push n at next ps s h b =
      ap (λ k. prepended (ps ++ at ∷ []) (outlined size next (items size more f (n - k) next))) (length-append ps (at ∷ []))
      ∙ prepended_twice ps (at ∷ []) (outlined size next (items size more f (n - (length ps + 1)) next))
      ∙ ap (prepended ps) (sym (items_more n (length ps) at next s h b))

  pub items_zero : (at : ℕ) (xs : List X) → items size more f zero at ≡ Ok xs → xs ≡ []
  unfolding items
  items_zero at xs e = items_empty (more 0 at) (f 0 at) xs e

  pub items_split : (m at : ℕ) (l : X) (ls : List X) → items size more f (suc m) at ≡ Ok (l ∷ ls)
      → (more (suc m) at ≡ true) × (f (suc m) at ≡ Ok l) × (items size more f m (at + size l) ≡ Ok ls)
  unfolding items
  items_split m at l ls e = items_parts (more (suc m) at) (f (suc m) at) (λ l. items size more f m (at + size l)) l ls e

  -- each row was read at its place
  pub items_at : (m at k : ℕ) (xs : List X) (d : X) → items size more f m at ≡ Ok xs → k < length xs → f (m - k) (get_or (places size at xs) k 0) ≡ Ok (get_or xs k d)
  items_at zero at k xs d e h = absurd (let z = ap length (items_zero at xs e) in omega arith)
  items_at (suc m) at k [] d e h = absurd (omega arith)
  items_at (suc m) at zero (l ∷ ls) d e h = let q : suc m - 0 ≡ suc m = omega arith in ap (λ j. f j at) q ∙ (items_split m at l ls e).1
  items_at (suc m) at (suc k) (l ∷ ls) d e h =
      let q : suc m - suc k ≡ m - k = omega arith in
      ap (λ j. f j (get_or (places size (at + size l) ls) k 0)) q ∙ items_at m (at + size l) k ls d (items_split m at l ls e).2 (omega arith)

  pub items_length : (m at : ℕ) (xs : List X) → items size more f m at ≡ Ok xs → length xs ≤ m
  items_length zero at xs e = let z = ap length (items_zero at xs e) in omega arith
  items_length (suc m) at [] e = omega arith
  items_length (suc m) at (l ∷ ls) e = let h = items_length m (at + size l) ls (items_split m at l ls e).2 in omega arith

-- how many, where no places are kept
pub plus : {E : Type 0} → ℕ → Result ℕ E → Result ℕ E
plus c (Ok n) = Ok (c + n)
plus c (Err e) = Err e

plus_more : {X E : Type 0} (c : ℕ) (l : X) (r : Result (List X) E) → plus c (sized (then r (λ ls. Ok (l ∷ ls)))) ≡ plus (c + 1) (sized r)
unfolding plus
plus_more c l (Ok ls) = ap Ok (omega arith)
plus_more c l (Err e) = refl

pub plus_none : {E : Type 0} (r : Result ℕ E) → plus 0 r ≡ r
unfolding plus
plus_none (Ok n) = ap Ok (omega arith)
plus_none (Err e) = refl

module _ {X : Type 0} (size : X → ℕ) (more : ℕ → ℕ → Bool) (f : ℕ → ℕ → Result X SchemaFault) where
  pub count_turn : (n c at next : ℕ) → more (n - c) at ≡ true → c < n → behind size at (f (n - c) at) ≡ Ok next
      → plus (c + 1) (sized (items size more f (n - (c + 1)) next)) ≡ plus c (sized (items size more f (n - c) at))
  count_turn n c at next s h b =
      let t = items_turned size more f n c at next s h b in
      sym (ap (λ r. plus c (sized r)) t.1 ∙ plus_more c t.0 (items size more f (n - (c + 1)) next))

  pub count_stop : (m c at : ℕ) (y : SchemaFault) → more m at ≡ true → behind size at (f m at) ≡ Err y → plus c (sized (items size more f m at)) ≡ Err y
  unfolding plus
  count_stop m c at y s b = ap (λ r. plus c (sized r)) (stop_at size more f m at y s (behind_err size at y (f m at) b))

  pub count_done : (m c at : ℕ) → more m at ≡ false → plus c (sized (items size more f m at)) ≡ Ok c
  unfolding plus
  count_done m c at s = ap (λ r. plus c (sized r)) (items_none size more f m at s) ∙ ap Ok (add-zero c)

pub prepended_none : (r : Result (List ℕ × ℕ) SchemaFault) → prepended [] r ≡ r
prepended_none (Ok x) = refl
prepended_none (Err e) = refl

ended_more : {X : Type 0} (size : X → ℕ) (at : ℕ) (l : X) (r : Result (List X) SchemaFault) → ended size at (then r (λ ls. Ok (l ∷ ls))) ≡ ended size (at + size l) r
ended_more size at l (Ok ls) = ap Ok (sym (add_assoc at (size l) (sizes size ls)))
ended_more size at l (Err e) = refl

module _ {X : Type 0} (size : X → ℕ) (more : ℕ → ℕ → Bool) (f : ℕ → ℕ → Result X SchemaFault) where
  pub ended_turn : (n c at next : ℕ) → more (n - c) at ≡ true → c < n → behind size at (f (n - c) at) ≡ Ok next
      → ended size next (items size more f (n - (c + 1)) next) ≡ ended size at (items size more f (n - c) at)
  ended_turn n c at next s h b =
      let t = items_turned size more f n c at next s h b in
      sym (
      ap (ended size at) t.1
      ∙ ended_more size at t.0 (items size more f (n - (c + 1)) next)
      ∙ ap (λ p. ended size p (items size more f (n - (c + 1)) next)) (sym t.2))

  pub ended_stop : (m at : ℕ) (y : SchemaFault) → more m at ≡ true → behind size at (f m at) ≡ Err y → ended size at (items size more f m at) ≡ Err y
  ended_stop m at y s b = ap (ended size at) (stop_at size more f m at y s (behind_err size at y (f m at) b))

  pub ended_done : (m at : ℕ) → more m at ≡ false → ended size at (items size more f m at) ≡ Ok at
  ended_done m at s = ap (ended size at) (items_none size more f m at s) ∙ ap Ok (add-zero at)

pub more_left : (n k : ℕ) → k < n → ltb 0 (n - k) ≡ true
more_left n k h = grind (arith, nat_tests)

pub none_left : (n k : ℕ) → n ≤ k → ltb 0 (n - k) ≡ false
none_left n k h = grind (arith, nat_tests)

-- where there is always more, none is left out
module _ {X : Type 0} (size : X → ℕ) (more : ℕ → ℕ → Bool) (f : ℕ → ℕ → Result X SchemaFault) (always : (m at : ℕ) → more (suc m) at ≡ true) where
  not_none : (m at : ℕ) → items size more f (suc m) at ≡ Ok [] → ⊥
  unfolding items
  not_none m at e =
      let a = ap (λ k. cond k (then (f (suc m) at) (λ x. then (items size more f m (at + size x)) (λ xs. Ok (x ∷ xs)))) (Ok [])) (sym (always m at)) ∙ e in
      let x = then_ok (f (suc m) at) (λ x. then (items size more f m (at + size x)) (λ xs. Ok (x ∷ xs))) [] a in
      let y = then_ok (items size more f m (at + size x.0)) (λ xs. Ok (x.0 ∷ xs)) [] x.2 in
      let q = y.2 in
      cc

  pub items_full : (m at : ℕ) (xs : List X) → items size more f m at ≡ Ok xs → length xs ≡ m
  items_full zero at xs e = ap length (items_zero size more f at xs e)
  items_full (suc m) at [] e = absurd (not_none m at e)
  items_full (suc m) at (x ∷ xs) e = ap suc (items_full m (at + size x) xs (items_split size more f m at x xs e).2)

pub more_one : (m : ℕ) → ltb 0 (suc m) ≡ true
more_one m = grind (arith, nat_tests)

-- exactly so many items of one word
pub places_one : {X : Type 0} (xs : List X) (at k : ℕ) → k < length xs → get_or (places one_word at xs) k 0 ≡ at + k
places_one [] at k h = absurd (omega arith)
places_one (x ∷ xs) at zero h = sym (add-zero at)
places_one (x ∷ xs) at (suc k) h = places_one xs (at + 1) k (omega arith) ∙ omega arith

pub sizes_one : {X : Type 0} (xs : List X) → sizes one_word xs ≡ length xs
sizes_one [] = refl
sizes_one (x ∷ xs) = let h = sizes_one xs in omega arith

module _ {X : Type 0} (f : ℕ → Result X SchemaFault) where
  pub run_length : (n at : ℕ) (xs : List X) → run f n at ≡ Ok xs → length xs ≡ n
  run_length n at xs e = items_full one_word (λ left p. ltb 0 left) (λ left p. f p) (λ m p. more_one m) n at xs e

  pub run_at : (n at k : ℕ) (xs : List X) (d : X) → run f n at ≡ Ok xs → k < n → f (at + k) ≡ Ok (get_or xs k d)
  run_at n at k xs d e h =
      let l = run_length n at xs e in
      ap f (sym (places_one xs at k (omega arith))) ∙ items_at one_word (λ left p. ltb 0 left) (λ left p. f p) n at k xs d e (omega arith)

  pub run_turn : (n k p : ℕ) (x : X) → k < n → f p ≡ Ok x → ended one_word (p + 1) (run f (n - (k + 1)) (p + 1)) ≡ ended one_word p (run f (n - k) p)
  run_turn n k p x h e = ended_turn one_word (λ left p. ltb 0 left) (λ left p. f p) n k p (p + 1) (more_left n k h) h (ap (behind one_word p) e)

  pub run_stop : (n k p : ℕ) (y : SchemaFault) → k < n → f p ≡ Err y → ended one_word p (run f (n - k) p) ≡ Err y
  run_stop n k p y h e = ended_stop one_word (λ left p. ltb 0 left) (λ left p. f p) (n - k) p y (more_left n k h) (ap (behind one_word p) e)

  pub run_done : (n k p : ℕ) → n ≤ k → ended one_word p (run f (n - k) p) ≡ Ok p
  run_done n k p h = ended_done one_word (λ left p. ltb 0 left) (λ left p. f p) (n - k) p (none_left n k h)
