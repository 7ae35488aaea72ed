-- The words of a register, part by part.
use Rattle.std.proofs.Common.{◌≡◌, ℕ, zero, suc, ◌+◌, ◌*◌, ◌<◌, ◌≤◌, List, [], ◌∷◌, ◌++◌, map, length, drop, Some, None, Option, sym, refl, ap, ◌∙◌, ⊎_elim, zero-add, add-one, arith, length-append}
use Rattle.std.specs.List.{flat_map, range_with_len, sum_by}
use Rattle.std.specs.Option.{option_map_or}
use Rattle.std.proofs.lemmas.List.FromFn.{sum_by-map-range_with_len_more}
use Rattle.std.proofs.lemmas.List.{append-nil, map-id, length-map, flat_map_more, map_push}
use Rattle.std.proofs.lemmas.Bool.{cases_lt}
use Rattle.words.specs.declared.tags.Tag.{Tag}
use Rattle.words.specs.declared.tags.Tag.TheVariants as tag
use Rattle.words.specs.Tags.{tagged}
use Rattle.register_files.specs.Layout.{link_words, before_end}
use Rattle.registers.specs.Meaning.{Meaning}
use Rattle.registers.specs.Writing.{upto, lead, row_by, row_of, file_of}
use Rattle.registers.specs.Splices.{spliced}
use Rattle.registers.specs.Parts.{file_words, row_words, count_words, record_words, links_words}
use Rattle.registers.proofs.WrittenLists.{upto_length}
use Rattle.registers.proofs.WrittenSplices.{splice_none, splice_then, splice_front}

-- one more word of a list made by count
pub tagged_more : (t : Tag) (f : ℕ → ℕ) (at k v : ℕ) (old mid new : List ℕ) → at ≤ length old → v ≡ f k → mid ≡ spliced at (map (tagged t) (upto f k)) old
    → new ≡ spliced (at + k) (tagged t v ∷ []) mid → new ≡ spliced at (map (tagged t) (upto f (k + 1))) old
unfolding upto
tagged_more t f at k v old mid new h e p q =
    splice_then at (at + k) (map (tagged t) (upto f k)) (tagged t v ∷ []) old mid new h (ap (λ n. at + n) (length-map (upto f k) (tagged t) ∙ upto_length f k)) p q
    ∙ ap (λ x. spliced at (map (tagged t) (upto f k) ++ tagged t x ∷ []) old) e
    ∙ ap (λ l. spliced at l old) (sym (map_push (tagged t) (upto f k) (f k)))
    ∙ ap (λ n. spliced at (map (tagged t) (upto f n)) old) (sym (add-one k))

module _ (m : Meaning) where
  pub links_none : links_words m 0 ≡ []
  unfolding links_words upto
  links_none = refl

  links_suc : (n : ℕ) → links_words m (suc n) ≡ links_words m n ++ row_words m n
  unfolding links_words row_words upto
  links_suc n = sym (flat_map_more link_words [] (upto (row_of m) n) (row_of m n))

  pub links_step : (n : ℕ) → length (links_words m (suc n)) ≡ length (links_words m n) + length (row_words m n)
  links_step n = ap length (links_suc n) ∙ length-append (links_words m n) (row_words m n)

  pub links_length : (n : ℕ) → length (links_words m (n + 1)) ≡ length (links_words m n) + length (row_words m n)
  links_length n = ap (λ k. length (links_words m k)) (add-one n) ∙ links_step n

  pub links_sum : (n : ℕ) → sum_by (λ l. length (row_words m l)) (range_with_len 0 n) ≡ length (links_words m n)
  links_sum n = ap (sum_by (λ l. length (row_words m l))) (sym (map-id (range_with_len 0 n))) ∙ by n
    where
      by : (n : ℕ) → sum_by (λ l. length (row_words m l)) (map (λ l. l) (range_with_len 0 n)) ≡ length (links_words m n)
      by zero = sym (ap length links_none)
      by (suc n) =
          let e = sum_by-map-range_with_len_more (λ l. length (row_words m l)) (λ l. l) 0 n n (zero-add n) in
          let s = links_step n in
          rw add-one at e ∙ ap (λ k. k + length (row_words m n)) (by n) ∙ sym s

  pub links_start : (at : ℕ) (old : List ℕ) → old ≡ spliced at (links_words m 0) old
  unfolding links_words upto
  links_start at old = splice_none at old

  pub links_more : (at b l : ℕ) (old mid new : List ℕ) → at ≤ length old → b ≡ at + length (links_words m l) → mid ≡ spliced at (links_words m l) old
      → new ≡ spliced b (row_words m l) mid → new ≡ spliced at (links_words m (l + 1)) old
  links_more at b l old mid new h e p q =
      splice_then at b (links_words m l) (row_words m l) old mid new h (sym e) p q
      ∙ ap (λ x. spliced at x old) (sym (ap (links_words m) (add-one l) ∙ links_suc l))

  -- there is room for a link among those below n
  pub links_room : (l n : ℕ) → l < n → length (links_words m l) + length (row_words m l) ≤ length (links_words m n)
  links_room l zero h = absurd (omega arith)
  links_room l (suc n) h =
      let q = links_step n in
      ⊎_elim (λ (b : l < n). let r = links_room l n b in omega arith) (λ (b : n ≤ l). let s : l ≡ n = omega arith in rw s (omega arith)) (cases_lt l n)

  -- the words of a link that has ends
  row_parts : (l from to : ℕ) → Some (from, to) ≡ m.ends l
      → row_words m l ≡ (tagged tag.RegisterLink (from * 256 + to) ∷ []) ++ record_words m l (m.count from)
  unfolding row_words record_words
  row_parts l from to e = ap (λ o. link_words (row_by m l o)) (sym e)

  pub link_put : (l at from to n : ℕ) (old mid new : List ℕ) → at ≤ length old → Some (from, to) ≡ m.ends l → n ≡ m.count from
      → mid ≡ spliced at (tagged tag.RegisterLink (from * 256 + to) ∷ []) old → new ≡ spliced (at + 1) (record_words m l n) mid → new ≡ spliced at (row_words m l) old
  link_put l at from to n old mid new h e c p q =
      splice_then at (at + 1) (tagged tag.RegisterLink (from * 256 + to) ∷ []) (record_words m l n) old mid new h refl p q
      ∙ ap (λ k. spliced at ((tagged tag.RegisterLink (from * 256 + to) ∷ []) ++ record_words m l k) old) c
      ∙ ap (λ x. spliced at x old) (sym (row_parts l from to e))

  pub row_length : (l from to : ℕ) → Some (from, to) ≡ m.ends l → length (row_words m l) ≡ 1 + m.count from
  unfolding record_words
  row_length l from to e =
      let n = length-map (upto (lead m l) (m.count from)) (tagged tag.Record) ∙ upto_length (lead m l) (m.count from) in
      ap length (row_parts l from to e) ∙ (omega arith)

  pub row_size : (l : ℕ) (o : Option (ℕ × ℕ)) → o ≡ m.ends l → option_map_or (λ e. 1 + m.count e.0) o 1 ≡ length (row_words m l)
  unfolding row_words
  row_size l (Some e) h = sym (row_length l e.0 e.1 h)
  row_size l None h = ap (λ o. length (link_words (row_by m l o))) h

  file_parts : file_words m
      ≡ (((tagged tag.Register m.kinds ∷ []) ++ count_words m m.kinds) ++ links_words m m.links) ++ tagged tag.End (1 + m.kinds + length (links_words m m.links)) ∷ []
  unfolding file_words count_words links_words
  file_parts =
      let k = upto_length m.count m.kinds in
      let head : List ℕ = tagged tag.Register m.kinds ∷ map (tagged tag.Count) (upto m.count m.kinds) in
      let links : List ℕ = flat_map link_words (upto (row_of m) m.links) in
      let b : before_end (file_of m) ≡ head ++ links =
      ap (λ n. (tagged tag.Register n ∷ map (tagged tag.Count) (upto m.count m.kinds)) ++ (links ++ [])) k ∙ ap (λ l. head ++ l) (append-nil links) in
      let n : length (head ++ links) ≡ 1 + m.kinds + length links =
      length-append head links ∙ ap (λ j. suc j + length links) (length-map (upto m.count m.kinds) (tagged tag.Count) ∙ k) ∙ (omega arith) in
      ap (λ l. l ++ tagged tag.End (length l) ∷ []) b ∙ ap (λ j. (head ++ links) ++ tagged tag.End j ∷ []) n

  counts_length : length (count_words m m.kinds) ≡ m.kinds
  unfolding count_words
  counts_length = length-map (upto m.count m.kinds) (tagged tag.Count) ∙ upto_length m.count m.kinds

  pub file_length : length (file_words m) ≡ m.kinds + length (links_words m m.links) + 2
  file_length = let c = counts_length in ap length file_parts ∙ simp length-append (omega arith)

-- the four parts of a file, each behind the one before
pub file_put : (m : Meaning) (k next : ℕ) (old a b c new : List ℕ) → k ≡ m.kinds → a ≡ spliced 0 (tagged tag.Register k ∷ []) old → b ≡ spliced 1 (count_words m m.kinds) a
    → c ≡ spliced (1 + k) (links_words m m.links) b → next ≡ 1 + k + length (links_words m m.links) → new ≡ spliced next (tagged tag.End next ∷ []) c
    → new ≡ file_words m ++ drop (length (file_words m)) old
file_put m k next old a b c new h p q r e s =
    let n = counts_length m in
    let first : List ℕ = tagged tag.Register k ∷ [] in
    let counts : List ℕ = count_words m m.kinds in
    let links : List ℕ = links_words m m.links in
    let two = splice_then 0 1 first counts old a b (omega arith) refl p q in
    let three = splice_then 0 (1 + k) (first ++ counts) links old b c (omega arith) (omega (arith, length-append first counts)) two r in
    splice_then 0 next ((first ++ counts) ++ links) (tagged tag.End next ∷ []) old c new (omega arith)
    (omega (arith, length-append first counts, length-append (first ++ counts) links)) three s
    ∙ ap (λ j. spliced 0 (((first ++ counts) ++ links) ++ tagged tag.End j ∷ []) old) e
    ∙ ap (λ j. spliced 0 ((((tagged tag.Register j ∷ []) ++ counts) ++ links) ++ tagged tag.End (1 + j + length links) ∷ []) old) h
    ∙ ap (λ x. spliced 0 x old) (sym (file_parts m)) ∙ splice_front (file_words m) old
