-- What was written is read back, and what was read is written again as it stood.
use Rattle.std.proofs.Common.{◌≡◌, ℕ, ◌<◌, ◌≤◌, Bool, true, false, ltb, leb, List, [], ◌++◌, length, get_or, take, drop, Some, None, Ok, Err, Option, Result, unwrap_or, sym, refl, ap, ◌∙◌, arith}
use Rattle.std.proofs.ByRecursion.{All-get_or}
use Rattle.std.proofs.lemmas.List.{take_at}
use Rattle.std.proofs.lemmas.Bool.{lt-ltb, le-ltb, le-leb, lt-leb, leb-false, or_from, cond-true}
use Rattle.register_files.specs.Register.{File}
use Rattle.register_files.specs.Layout.{GoodLink, WellFormed, layout}
use Rattle.register_files.proofs.Layouts.{read_layout, layout_read}
use Rattle.registers.specs.declared.writing.WriteFault.{WriteFault}
use Rattle.registers.specs.declared.writing.WriteFault.TheVariants.{Large, Leads, Memory}
use Rattle.registers.specs.Meaning.{Meaning, Lawful, no_row, row_at, answers}
use Rattle.registers.specs.Writing.{upto, lowest, large, broken, lead, row_by, row_of, file_of, unless_refused, words_of, in_room, put, written, ReadBack, SameWords}
use Rattle.registers.specs.Parts.{file_words}
use Rattle.registers.proofs.WrittenLists.{none_from, lowest_from, upto_same}
use Rattle.registers.proofs.WrittenFiles.{Joined, link_made, writable, well_formed, answers_same}

ok_err : {X Y : Type 0} {x : X} {y : Y} → Ok x ≡ Err y → ⊥
ok_err e = let z : ◌≡◌ {A = ℕ} 0 1 = cc in omega arith

words_by : (m : Meaning) (b : Bool) (o : Option ℕ) → large m ≡ b → lowest (broken m) m.links ≡ o → words_of m ≡ unless_refused b o (file_words m)
unfolding file_words
words_by m b o p q = λ i. unless_refused (p i) (q i) (layout (file_of m))

-- the four answers of a write
module _ (m : Meaning) (old : List ℕ) where
  answer_by : (b : Bool) (o : Option ℕ) → large m ≡ b → lowest (broken m) m.links ≡ o → put (unless_refused b o (file_words m)) old ≡ written m old
  answer_by b o p q = sym (ap (λ w. put w old) (words_by m b o p q))

  pub answer_large : large m ≡ true → (Err Large, old) ≡ written m old
  answer_large p = answer_by true (lowest (broken m) m.links) p refl

  pub answer_leads : (l : ℕ) → large m ≡ false → lowest (broken m) m.links ≡ Some l → (Err (Leads l), old) ≡ written m old
  answer_leads l p q = answer_by false (Some l) p q

  answer_room : (b : Bool) → large m ≡ false → lowest (broken m) m.links ≡ None → leb (length (file_words m)) (length old) ≡ b → in_room b (file_words m) old ≡ written m old
  answer_room b p q h = ap (λ c. in_room c (file_words m) old) (sym h) ∙ answer_by false None p q

  pub answer_memory : large m ≡ false → lowest (broken m) m.links ≡ None → length old < length (file_words m) → (Err Memory, old) ≡ written m old
  answer_memory p q h = answer_room false p q (lt-leb _ _ h)

  pub answer_words : (n : ℕ) (out : List ℕ) → large m ≡ false → lowest (broken m) m.links ≡ None → n ≡ length (file_words m) → out ≡ file_words m ++ drop (length (file_words m)) old
      → n ≤ length old → (Ok n, out) ≡ written m old
  answer_words n out p q s t h = (λ i. (Ok (s i), t i)) ∙ answer_room true p q (le-leb _ _ (omega arith))

-- an accepted write passed the tests, and its words stand in front
words_told : (b : Bool) (o : Option ℕ) (xs ws : List ℕ) → Ok ws ≡ unless_refused b o xs → (b ≡ false) × (o ≡ None) × (ws ≡ xs)
words_told true o xs ws e = absurd (ok_err e)
words_told false (Some l) xs ws e = absurd (ok_err e)
words_told false None xs ws e = (refl, refl, cc)

room_told : (b : Bool) (ws old out : List ℕ) (n : ℕ) → (Ok n, out) ≡ in_room b ws old → take n out ≡ ws
room_told true ws old out n e =
    let p : Ok n ≡ Ok (length ws) = ap (λ t. t.0) e in
    let q : n ≡ length ws = cc in
    ap (λ t. take n t.1) e ∙ take_at ws (drop (length ws) old) n (sym q)
room_told false ws old out n e = absurd (ok_err (ap (λ t. t.0) e))

put_told : (w : Result (List ℕ) WriteFault) (old out : List ℕ) (n : ℕ) → (Ok n, out) ≡ put w old → Ok (take n out) ≡ w
put_told (Err e) old out n h = absurd (ok_err (ap (λ t. t.0) h))
put_told (Ok ws) old out n h = ap Ok (room_told (leb (length ws) (length old)) ws old out n h)

pub read_back : (m : Meaning) (r : Result ℕ WriteFault) (out old : List ℕ) → Lawful m → (r, out) ≡ written m old → ReadBack m r out
read_back m r out old law e n h =
    let w = put_told (words_of m) old out n (ap (λ x. (x, out)) (sym h) ∙ e) in
    let t = words_told (large m) (lowest (broken m) m.links) (layout (file_of m)) (take n out) w in
    let g = writable m t.0 t.1 in
    (file_of m, layout_read (take n out) (file_of m) (t.2, well_formed m g), refl, answers_same m g law)

-- the file of the answers of a file is that file
module _ (f : File) (w : WellFormed f) where
  ends_at : (l : ℕ) → l < length f.links → Some ((row_at f l).from, (row_at f l).to) ≡ (answers f).ends l
  ends_at l h = sym (cond-true _ _ None (lt-ltb l (length f.links) h))

  follow_at : (l r : ℕ) → l < length f.links → r < length (row_at f l).leads → (answers f).follow l r ≡ Some (get_or (row_at f l).leads r 0)
  follow_at l r h q = cond-true _ _ None (lt-ltb l (length f.links) h) ∙ cond-true _ _ None (lt-ltb r (length (row_at f l).leads) q)

  lead_at : (l r : ℕ) → l < length f.links → r < length (row_at f l).leads → lead (answers f) l r ≡ get_or (row_at f l).leads r 0
  lead_at l r h q = ap (λ o. unwrap_or o 0) (follow_at l r h q)

  good_at : (l : ℕ) → l < length f.links → GoodLink f.counts (row_at f l)
  good_at l h = All-get_or (GoodLink f.counts) f.links l no_row h w.links

  joined_at : (l : ℕ) → l < length f.links → Joined (answers f) l (row_at f l).from (row_at f l).to
  joined_at l h =
      let j = good_at l h in
      record {
        from_known = j.from_known;
        to_known = j.to_known;
        leads = λ r q.
            let k : r < length (row_at f l).leads = omega (arith, j.full) in
            let e = lead_at l r h k in
            let s = All-get_or (λ x. x < get_or f.counts (row_at f l).to 0) (row_at f l).leads r 0 k j.counted in
            (follow_at l r h k ∙ ap Some (sym e), omega arith);
      }

  unbroken_at : (l : ℕ) → l < length f.links → broken (answers f) l ≡ false
  unbroken_at l h = link_made (answers f) l (row_at f l).from (row_at f l).to (ends_at l h) (joined_at l h)

  not_large : large (answers f) ≡ false
  not_large =
      or_from _ _ (le-ltb 32 (length f.counts) w.few_kinds)
      (or_from _ _ (le-ltb 64 (length f.links) w.few_links)
      (none_from (λ k. ltb 65535 (get_or f.counts k 0)) (length f.counts)
      (λ k h. let s = All-get_or (λ c. c < 65536) f.counts k 0 h w.small in le-ltb 65535 (get_or f.counts k 0) (omega arith))))

  row_again : (l : ℕ) → l < length f.links → row_of (answers f) l ≡ row_at f l
  row_again l h =
      let leads = ap (upto (lead (answers f) l)) (sym (good_at l h).full) ∙ upto_same (lead (answers f) l) (row_at f l).leads 0 (λ r q. lead_at l r h q) in
      ap (row_by (answers f) l) (sym (ends_at l h)) ∙ (λ i. record { from = (row_at f l).from; to = (row_at f l).to; leads = leads i })

  file_again : f.landings ≡ [] → file_of (answers f) ≡ f
  file_again e =
      let counts = upto_same (λ k. get_or f.counts k 0) f.counts 0 (λ k h. refl) in
      let links = upto_same (row_of (answers f)) f.links no_row row_again in
      let landings = sym e in
      λ i. record { counts = counts i; links = links i; landings = landings i }

  words_again : f.landings ≡ [] → words_of (answers f) ≡ Ok (layout f)
  unfolding file_words
  words_again e =
      words_by (answers f) false None not_large (lowest_from (broken (answers f)) (length f.links) unbroken_at) ∙ ap (λ g. Ok (layout g)) (file_again e)

room_again : (b : Bool) (r : Result ℕ WriteFault) (ws out old : List ℕ) → leb (length ws) (length old) ≡ b → length ws ≤ length out
    → (r, out) ≡ in_room b ws old → (r ≡ Ok (length ws)) × (take (length ws) out ≡ ws)
room_again true r ws out old t h e = (ap (λ x. x.0) e, ap (λ x. take (length ws) x.1) e ∙ take_at ws (drop (length ws) old) (length ws) refl)
room_again false r ws out old t h e =
    let p = leb-false (length ws) (length old) t in
    let q = ap (λ x. length x.1) e in
    absurd (omega arith)

pub same_words : (m : Meaning) (r : Result ℕ WriteFault) (out old : List ℕ) → (r, out) ≡ written m old → SameWords m r out
same_words m r out old e ws f a b c h =
    let t = read_layout ws f a in
    let w = ap words_of (sym c) ∙ words_again f t.1 b ∙ ap Ok (sym t.0) in
    room_again (leb (length ws) (length old)) r ws out old refl h (e ∙ ap (λ x. put x old) w)
