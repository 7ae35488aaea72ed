-- The finished file, part by part, as the words of a numbered table have it.
use Rattle.std.proofs.Common.{◌≡◌, ℕ, zero, suc, ◌+◌, ◌*◌, ◌<◌, ◌≤◌, List, [], ◌∷◌, ◌++◌, map, length, get_or, drop, None, Ok, Err, sym, refl, ap, ◌∙◌, arith, length-append}
use Rattle.std.specs.List.{flat_map}
use Rattle.std.proofs.lemmas.List.{append_assoc, length-map}
use Rattle.std.proofs.lemmas.Bool.{le-leb, lt-leb, cond-true, cond-false}
use Rattle.words.specs.declared.faults.Refusal.TheVariants as refusal
use Rattle.words.specs.declared.tags.Tag.TheVariants as tag
use Rattle.words.specs.Tags.{tagged}
use Rattle.problems.specs.declared.Found.{Found}
use Rattle.register_files.specs.Layout.{link_words, landing_words, before_end}
use Rattle.registers.specs.Splices.{spliced}
use Rattle.registers.specs.Writing.{upto}
use Rattle.registers.proofs.WrittenLists.{upto_length}
use Rattle.registers.proofs.WrittenSplices.{splice_then, splice_front}
use Rattle.machine.specs.Loaded.{Loaded}
use Rattle.machine.specs.Loading.{sum}
use Rattle.machine.specs.State.{State, landing}
use Rattle.machine.specs.Finish.{count_of, lead_of, at_of, finished_file, finish_words, put_words}
use Rattle.machine.proofs.Upto.{upto_same}
use Rattle.rows.specs.Layout.{Raw, count}
use Rattle.finishing.specs.Records.{appended, number_in, lead_word, landed_words, landing_part}
use Rattle.finishing.specs.Written.{Writes, count_words, link_part, file_words}
use Rattle.finishing.proofs.Appended.{step_length, appended_none, appended_same, appended_joined}
use Rattle.finishing.proofs.Numbers.{few_records, leads_are, landed_are}
use Rattle.finishing.proofs.Problem.{kinds_are, few_kinds, ends_known}

tagged_length : (t : ℕ → ℕ) (f : ℕ → ℕ) (n : ℕ) → length (map t (upto f n)) ≡ n
tagged_length t f n = length-map (upto f n) t ∙ upto_length f n

pub counts_length : (counts : List ℕ) (n : ℕ) → length (count_words counts n) ≡ n
unfolding count_words
counts_length counts n = tagged_length _ _ n

-- the landings of a source kind take a word for each record, and one
pub landing_length : (b : Raw) (to k : ℕ) → length (landing_part b to k) ≡ 1 + count b.shape k
unfolding landing_part landed_words
landing_length b to k = let n = tagged_length (tagged tag.Record) (λ q. number_in b (landing k q)) (count b.shape k) in omega arith

pub landings_length : (b : Raw) (to : ℕ → ℕ) (n : ℕ) → length (appended (λ k. landing_part b (to k) k) n) ≡ n + sum (count b.shape) n
unfolding sum
landings_length b to zero = appended_none _
landings_length b to (suc n) = let r = landings_length b to n in omega (arith, r, step_length (λ k. landing_part b (to k) k) n, landing_length b (to n) n)

pub landing_put : (b : Raw) (k at n to to' : ℕ) (old mid new : List ℕ) → at ≤ length old → n ≡ count b.shape k → to' ≡ to
    → mid ≡ spliced at (tagged tag.Landings (n * 65536 + k * 256 + to) ∷ []) old → new ≡ spliced (at + 1) (landed_words b k n) mid → new ≡ spliced at (landing_part b to' k) old
unfolding landing_part
landing_put b k at n to to' old mid new h e d p q =
    splice_then at (at + 1) _ _ old mid new h refl p q
    ∙ (λ i. spliced at (tagged tag.Landings (e i * 65536 + k * 256 + sym d i) ∷ landed_words b k (e i)) old)

module _ (L : Loaded) (s : State) (b : Raw) (f : Found) (met : ℕ) (counts : List ℕ) (w : Writes L s b f met counts) where
  abbrev places : ℕ
  places = b.shape.kinds + b.shape.records

  known : (l : ℕ) → l < b.shape.links → l < L.links
  known l h = omega (arith, w.carries.links)

  pub counted : (k : ℕ) → k < L.target_kinds → get_or counts k 0 < 65536
  counted k h = omega (arith, w.listed.counted k h, few_records L s b met counts w.listed k)

  module _ (l : ℕ) (h : l < b.shape.links) where
    from_counted : get_or counts (L.from l) 0 ≡ count_of L s (L.from l)
    from_counted = w.listed.counted (L.from l) (ends_known L b f w.stands l (known l h)).0

    link_is : link_part L s l ≡ (tagged tag.RegisterLink (L.from l * 256 + L.to l) ∷ []) ++ appended (lead_word b (L.from l) l) met
    unfolding link_part
    link_is = ap (λ x. tagged tag.RegisterLink (L.from l * 256 + L.to l) ∷ x) (sym (leads_are L s b met counts w.listed l (known l h)))

    pub link_length : length (link_part L s l) ≡ 1 + get_or counts (L.from l) 0
    unfolding link_part
    link_length = let n = tagged_length (tagged tag.Record) (lead_of L s l) (count_of L s (L.from l)) in omega (arith, from_counted)

    pub leads_length : length (appended (lead_word b (L.from l) l) met) ≡ get_or counts (L.from l) 0
    leads_length = omega (arith, link_length, ap length link_is)

    pub link_put : (at from to : ℕ) (old mid new : List ℕ) → at ≤ length old → L.from l ≡ from → L.to l ≡ to
        → mid ≡ spliced at (tagged tag.RegisterLink (from * 256 + to) ∷ []) old → new ≡ spliced (at + 1) (appended (lead_word b from l) met) mid → new ≡ spliced at (link_part L s l) old
    link_put at from to old mid new k d e p q =
        splice_then at (at + 1) _ _ old mid new k refl p q
        ∙ (λ i. spliced at ((tagged tag.RegisterLink (sym d i * 256 + sym e i) ∷ []) ++ appended (lead_word b (sym d i) l) met) old)
        ∙ ap (λ x. spliced at x old) (sym link_is)

    link_small : length (link_part L s l) ≤ 65536
    link_small = omega (arith, link_length, from_counted, few_records L s b met counts w.listed (L.from l))

  pub links_small : (n : ℕ) → n ≤ b.shape.links → length (appended (link_part L s) n) ≤ n * 65536
  links_small zero h = omega (arith, appended_none (link_part L s))
  links_small (suc n) h = omega (arith, step_length (link_part L s) n, link_small n (omega arith), links_small n (omega arith))

  -- the words of the landings of the source kind k
  landing_is : (k : ℕ) → k < b.shape.kinds → landing_words (record { from = k; to = L.kind_map k; leads = upto (at_of L s k) (L.count k) }) ≡ landing_part b (L.kind_map k) k
  unfolding landing_part
  landing_is k h =
      (λ i. tagged tag.Landings (upto_length (at_of L s k) (L.count k) i * 65536 + k * 256 + L.kind_map k) ∷ sym (landed_are L s b met counts w.listed k (omega (arith, w.carries.kinds))) i)
      ∙ ap (λ n. tagged tag.Landings (n * 65536 + k * 256 + L.kind_map k) ∷ landed_words b k n) (w.carries.counts k h)

  abbrev head : List ℕ
  head = (tagged tag.Register f.target.kinds ∷ []) ++ count_words counts f.target.kinds

  abbrev links : List ℕ
  links = appended (link_part L s) b.shape.links

  abbrev landings : List ℕ
  landings = appended (λ k. landing_part b (L.kind_map k) k) b.shape.kinds

  head_is : tagged tag.Register (length (finished_file L s).counts) ∷ map (tagged tag.Count) (finished_file L s).counts ≡ head
  unfolding count_words
  head_is =
      ap (λ n. tagged tag.Register n ∷ map (tagged tag.Count) (finished_file L s).counts) (upto_length (count_of L s) L.target_kinds)
      ∙ ap (λ x. tagged tag.Register L.target_kinds ∷ map (tagged tag.Count) x) (upto_same (count_of L s) (λ k. get_or counts k 0) L.target_kinds (λ k h. sym (w.listed.counted k h)))
      ∙ ap (λ n. tagged tag.Register n ∷ map (tagged tag.Count) (upto (λ k. get_or counts k 0) n)) (kinds_are L b f w.stands)

  links_are : flat_map link_words (finished_file L s).links ≡ links
  unfolding link_part
  links_are = appended_joined link_words _ L.links ∙ ap (appended _) w.carries.links

  landings_are : flat_map landing_words (finished_file L s).landings ≡ landings
  landings_are = appended_joined landing_words _ L.source_kinds ∙ ap (appended _) w.carries.kinds ∙ appended_same _ _ b.shape.kinds landing_is

  before_is : before_end (finished_file L s) ≡ (head ++ links) ++ landings
  before_is = (λ i. head_is i ++ (links_are i ++ landings_are i)) ∙ sym (append_assoc head links landings)

  before_length : length ((head ++ links) ++ landings) ≡ 1 + f.target.kinds + length links + places
  before_length =
      let n = counts_length counts f.target.kinds in
      let m = landings_length b L.kind_map b.shape.kinds in
      let t = w.listed.fits.total in
      length-append (head ++ links) landings ∙ ap (λ j. j + length landings) (length-append head links) ∙ (omega arith)

  file_parts : file_words L s ≡ ((head ++ links) ++ landings) ++ tagged tag.End (1 + f.target.kinds + length links + places) ∷ []
  unfolding file_words
  file_parts = ap (λ x. x ++ tagged tag.End (length x) ∷ []) before_is ∙ ap (λ n. ((head ++ links) ++ landings) ++ tagged tag.End n ∷ []) before_length

  pub file_length : length (file_words L s) ≡ f.target.kinds + length (appended (link_part L s) b.shape.links) + (b.shape.kinds + b.shape.records) + 2
  file_length = ap length file_parts ∙ length-append ((head ++ links) ++ landings) _ ∙ (let n = before_length in omega arith)

  -- the number of words fits the field of the end
  pub file_small : 1 + f.target.kinds + length (appended (link_part L s) b.shape.links) + (b.shape.kinds + b.shape.records) < 268435456
  file_small =
      let n = links_small b.shape.links (omega arith) in
      let x = w.listed.fits in
      omega (arith, few_kinds L b f w.stands, kinds_are L b f w.stands, x.narrow, x.sorts, x.lot)

  -- the five parts of the file, each behind the one before
  pub file_put : (next end : ℕ) (old m₀ m₁ m₂ m₃ new : List ℕ) → m₀ ≡ spliced 0 (tagged tag.Register f.target.kinds ∷ []) old
      → m₁ ≡ spliced 1 (count_words counts f.target.kinds) m₀
      → m₂ ≡ spliced (1 + f.target.kinds) (appended (link_part L s) b.shape.links) m₁ → next ≡ 1 + f.target.kinds + length (appended (link_part L s) b.shape.links)
      → m₃ ≡ spliced next (appended (λ k. landing_part b (L.kind_map k) k) b.shape.kinds) m₂ → end ≡ next + b.shape.kinds + b.shape.records
      → new ≡ spliced end (tagged tag.End end ∷ []) m₃ → new ≡ file_words L s ++ drop (length (file_words L s)) old
  file_put next end old m₀ m₁ m₂ m₃ new p₀ p₁ p₂ d p₃ e p₄ =
      let n = counts_length counts f.target.kinds in
      let m = before_length in
      let j : end ≡ 1 + f.target.kinds + length links + places = omega arith in
      let two = splice_then 0 1 (tagged tag.Register f.target.kinds ∷ []) (count_words counts f.target.kinds) old m₀ m₁ (omega arith) refl p₀ p₁ in
      let three = splice_then 0 (1 + f.target.kinds) head links old m₁ m₂ (omega arith) (omega arith) two p₂ in
      let four = splice_then 0 next (head ++ links) landings old m₂ m₃ (omega arith) (omega (arith, length-append head links)) three p₃ in
      splice_then 0 end ((head ++ links) ++ landings) (tagged tag.End end ∷ []) old m₃ new (omega arith) (omega arith) four p₄
      ∙ ap (λ i. spliced 0 (((head ++ links) ++ landings) ++ tagged tag.End i ∷ []) old) j
      ∙ ap (λ x. spliced 0 x old) (sym file_parts) ∙ splice_front (file_words L s) old

-- the two answers
module _ (L : Loaded) (s : State) (old : List ℕ) where
  pub file_refused : length old < length (file_words L s) → (Err refusal.Memory, old) ≡ put_words None (finish_words L s) old
  unfolding file_words
  file_refused h = sym (cond-false _ _ (Err refusal.Memory, old) (lt-leb _ _ h))

  pub file_told : (n : ℕ) (new : List ℕ) → length (file_words L s) ≤ length old → n ≡ length (file_words L s) → new ≡ file_words L s ++ drop (length (file_words L s)) old
      → (Ok n, new) ≡ put_words None (finish_words L s) old
  unfolding file_words
  file_told n new h e p = (λ i. (Ok (e i), p i)) ∙ sym (cond-true _ _ (Err refusal.Memory, old) (le-leb _ _ h))
