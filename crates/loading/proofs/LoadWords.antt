-- The words after an accepted load.
use Rattle.std.proofs.Common.{◌≡◌, ℕ, ◌+◌, ◌<◌, ◌≤◌, true, List, ◌++◌, length, get_or, take, drop, Some, None, Ok, sym, refl, ap, ◌∙◌, subst, inl, inr, arith, length-append, length-drop}
use Rattle.std.proofs.lemmas.List.{append_assoc, get_or_append_left, get_or-append-add, take_at, drop_at}
use Rattle.std.proofs.lemmas.Bool.{lt-ltb, le-ltb, cases_lt, cases_Bool}
use Rattle.bounded.specs.Listed.{listed}
use Rattle.registers.specs.Meaning.{Meaning}
use Rattle.registers.specs.Splices.{spliced}
use Rattle.registers.specs.Writing.{upto, lead}
use Rattle.registers.proofs.WrittenLists.{some_none, upto_length, upto_at}
use Rattle.registers.proofs.WrittenSplices.{splice_then, splice_front}
use Rattle.machine.specs.Loading.{sum, source_link, taken}
use Rattle.machine.specs.Promise.{TakenFrom}
use Rattle.machine.specs.State.{Slot, cell, landing, start}
use Rattle.machine.specs.Sweeping.{rank}
use Rattle.machine.proofs.Loads.{taken_from}
use Rattle.rows.specs.Sources.{kinds_of, counts_of, starts_of}
use Rattle.rows.specs.Layout.{Raw, Fits, Tidy, inside, spot, count, decode, shown, kind_of, forward_of, waiting_of}
use Rattle.loading.specs.LoadedWords.{problem_in, problem_of, leaving, lead_words, ends_copied, count_copied, lead_copied, copy_by, copy, PlacedBy, taken_shown}
use Rattle.loading.specs.Taking.{fresh, Planned, TakenIn}
use Rattle.loading.specs.declared.Loading.{Loading}
use Rattle.rows.proofs.Places.{sum_more, inside_true}
use Rattle.rows.proofs.Shown.{same_state, held_in, held_out}
use Rattle.loading.proofs.LoadLists.{sum_same}
use Rattle.loading.proofs.LoadCopies.{leads_length, leads_at}

module _ (old ws : List ℕ) (m : Meaning) (l : Loading) (p : Planned (length old) ws m l) (mid low new : List ℕ)
    (copied_in : mid ≡ spliced 0 ws old) (emptied : low ≡ spliced l.lands (upto (λ i. 0) l.records) mid)
    (led : new ≡ spliced (l.lands + l.records) (lead_words (problem_in ws) m l.load.found.source.links) low) where
  abbrev zeros : List ℕ
  zeros = upto (λ i. 0) l.records

  abbrev leads : List ℕ
  leads = lead_words (problem_in ws) m l.load.found.source.links

  abbrev rest : List ℕ
  rest = drop l.base old

  abbrev r : Raw
  r = fresh l new

  front_length : length (ws ++ zeros) ≡ l.lands + l.records
  front_length = length-append ws zeros ∙ ap (λ n. length ws + n) (upto_length (λ i. 0) l.records) ∙ ap (λ n. n + l.records) (sym p.lands)

  body_length : length ((ws ++ zeros) ++ leads) ≡ l.base
  body_length = length-append (ws ++ zeros) leads ∙ ap (λ n. n + length leads) front_length ∙ ap (λ n. l.lands + l.records + n) (leads_length (problem_in ws) m l.load.found.source.links) ∙ sym p.base

  whole : new ≡ ((ws ++ zeros) ++ leads) ++ rest
  whole =
      let n = p.lands in
      let k = front_length in
      let front = splice_then 0 l.lands ws zeros old mid low (omega arith) (omega arith) copied_in emptied in
      splice_then 0 (l.lands + l.records) (ws ++ zeros) leads old low new (omega arith) (omega arith) front led
      ∙ splice_front ((ws ++ zeros) ++ leads) old ∙ ap (λ n. ((ws ++ zeros) ++ leads) ++ drop n old) body_length

  half : new ≡ (ws ++ zeros) ++ (leads ++ rest)
  half = whole ∙ append_assoc (ws ++ zeros) leads rest

  parts : new ≡ ws ++ (zeros ++ (leads ++ rest))
  parts = half ∙ append_assoc ws zeros (leads ++ rest)

  size : length new ≡ length old
  size =
      let a = ap length whole ∙ length-append ((ws ++ zeros) ++ leads) rest in
      let b = body_length in
      let c = length-drop l.base old in
      let d = p.room in
      omega arith

  problem_kept : take l.lands new ≡ ws
  problem_kept = ap (take l.lands) parts ∙ take_at ws (zeros ++ (leads ++ rest)) l.lands (sym p.lands)

  behind : drop l.base new ≡ rest
  behind = ap (drop l.base) whole ∙ drop_at ((ws ++ zeros) ++ leads) rest l.base body_length

  empty : (j : ℕ) → j < l.records → get_or new (l.lands + j) 0 ≡ 0
  empty j h =
      let n : length zeros ≡ l.records = upto_length (λ i. 0) l.records in
      ap (λ (v : List ℕ). get_or v (l.lands + j) 0) parts ∙ ap (λ (n : ℕ). get_or (ws ++ (zeros ++ (leads ++ rest))) (n + j) 0) p.lands ∙ get_or-append-add ws (zeros ++ (leads ++ rest)) j 0
      ∙ get_or_append_left zeros (leads ++ rest) 0 j (omega arith) ∙ upto_at (λ i. 0) l.records j 0 h

  lead_place : (i : ℕ) → i < l.load.found.source.links → get_or (listed l.load.leads) i 0 ≡ l.lands + l.records + sum (leaving (problem_in ws) m.count) i
  lead_place i h = ap (λ (ks : List ℕ). get_or ks i 0) p.leads ∙ upto_at (λ i. l.lands + l.records + sum (leaving (problem_in ws) m.count) i) l.load.found.source.links i 0 h

  lead_kept : (i q : ℕ) → i < l.load.found.source.links → q < leaving (problem_in ws) m.count i → get_or new (get_or (listed l.load.leads) i 0 + q) 0 ≡ lead m i q
  lead_kept i q h k =
      let f = leaving (problem_in ws) m.count in
      let s = sum_more f l.load.found.source.links i h in
      let n = leads_length (problem_in ws) m l.load.found.source.links in
      let e : get_or (listed l.load.leads) i 0 + q ≡ length (ws ++ zeros) + (sum f i + q) = (let a = lead_place i h in let b = front_length in omega arith) in
      ap (λ (v : List ℕ). get_or v (get_or (listed l.load.leads) i 0 + q) 0) half ∙ ap (λ (n : ℕ). get_or ((ws ++ zeros) ++ (leads ++ rest)) n 0) e ∙ get_or-append-add (ws ++ zeros) (leads ++ rest) (sum f i + q) 0
      ∙ get_or_append_left leads rest 0 (sum f i + q) (omega arith) ∙ leads_at (problem_in ws) m l.load.found.source.links i q h k

  -- the copy of the source answers what the source answers
  same_problem : problem_of r ≡ problem_in ws
  same_problem = ap problem_in problem_kept

  source : TakenFrom m (taken (problem_in ws) m l.capacity)
  source = taken_from (length old) ws m (taken (problem_in ws) m l.capacity) p.load

  count_kept : (k : ℕ) → k < kinds_of l.source → get_or (counts_of l.source) k 0 ≡ m.count k
  count_kept k h = ap (λ (ks : List ℕ). get_or ks k 0) p.counts ∙ upto_at m.count (kinds_of l.source) k 0 h

  count_is : (k : ℕ) → count_copied r k ≡ m.count k
  unfolding count_copied
  count_is k = elim (cases_lt k (kinds_of l.source)) [
    | inl h ↦ (let e = lt-ltb k (kinds_of l.source) h in rw e (count_kept k h))
    | inr h ↦ (let e = le-ltb k (kinds_of l.source) h in rw e (sym (p.lawful.unknown_kind k (omega (arith, source.kinds, p.sourced.kinds, p.kinds)))))
  ]

  ends_is : (i : ℕ) → ends_copied (problem_in ws) i ≡ m.ends i
  unfolding ends_copied
  ends_is i = elim (cases_lt i (length (problem_in ws).source_links)) [
    | inl h ↦ (let e = lt-ltb i (length (problem_in ws).source_links) h in rw e (sym (source.ends i h)))
    | inr h ↦ (let e = le-ltb i (length (problem_in ws).source_links) h in rw e (sym (p.lawful.unknown_link i (omega (arith, source.links)))))
  ]

  follow_is : (i q : ℕ) → lead_copied (problem_in ws) (listed l.load.leads) r i q ≡ m.follow i q
  unfolding lead_copied
  follow_is i q = elim (cases_lt i (length (problem_in ws).source_links)) [
    | inl h ↦ (let e = lt-ltb i (length (problem_in ws).source_links) h in
        let n = count_is (source_link (problem_in ws) i).from in
        elim (cases_lt q (leaving (problem_in ws) (count_copied r) i)) [
          | inl k ↦ (let d = lt-ltb q (leaving (problem_in ws) (count_copied r) i) k in
              rw (e, d) (ap Some (lead_kept i q (omega (arith, p.sourced.links)) (omega arith)) ∙ sym (source.leads i q h (omega arith))))
          | inr k ↦ (let d = le-ltb q (leaving (problem_in ws) (count_copied r) i) k in
              rw (e, d) (sym (p.lawful.leads_uncounted i q ((source_link (problem_in ws) i).from, (source_link (problem_in ws) i).to) (source.ends i h) (omega arith))))
        ])
    | inr h ↦ (let e = le-ltb i (length (problem_in ws).source_links) h in rw e (sym (p.lawful.leads_unknown i q (omega (arith, source.links)))))
  ]

  same_copy : copy_by (problem_in ws) (listed l.load.leads) r ≡ m
  same_copy = λ j. record { kinds = source.kinds j; links = source.links j; ends = λ i. ends_is i j; count = λ k. count_is k j; follow = λ i q. follow_is i q j }

  copied : copy (listed l.load.leads) r ≡ m
  copied = ap (λ q. copy_by q (listed l.load.leads) r) same_problem ∙ same_copy

  taken_is : taken_shown (listed l.load.leads) r ≡ taken (problem_in ws) m l.capacity
  taken_is = λ j. taken (same_problem j) (copied j) l.capacity

  placed : PlacedBy (problem_in ws) (listed l.load.leads) r
  placed i q h k =
      let e = lead_place i (omega (arith, p.sourced.links)) in
      let n = count_is (source_link (problem_in ws) i).from in
      let s = sum_more (leaving (problem_in ws) m.count) l.load.found.source.links i (omega (arith, p.sourced.links)) in
      inr (omega arith, omega (arith, p.base))

  -- the table is at its start
  sums : (n : ℕ) → n ≤ (kinds_of l.source) → sum m.count n ≡ sum (count r.shape) n
  sums n h = sum_same m.count (count r.shape) n (λ i k. sym (count_kept i (omega arith)))

  fits : Fits r
  fits = record {
    below = omega (arith, p.base);
    room = omega (arith, p.room, size);
    few = omega arith;
    small = p.small;
    narrow = p.narrow;
    lot = p.lot;
    sorts = omega (arith, p.kinds, p.sourced.few_kinds);
    stacked = λ k h. ap (λ (ks : List ℕ). get_or ks k 0) p.starts ∙ upto_at (λ k. l.lands + sum m.count k) (kinds_of l.source) k 0 h ∙ ap (λ n. l.lands + n) (sums k (omega arith));
    total = p.records ∙ sums (kinds_of l.source) (omega arith);
  }

  held_none : (t : Slot) → inside r.shape 0 t ≡ true → decode (get_or new (spot r.shape t) 0) ≡ None
  held_none (cell e k) b = let w = inside_true r.shape 0 (cell e k) b in absurd (omega (arith, w.0))
  held_none (landing k q) b =
      let w = inside_true r.shape 0 (landing k q) b in
      let s = fits.stacked k w.0 in
      let n = sum_more (count r.shape) (kinds_of l.source) k w.0 in
      let e : get_or (starts_of l.source) k 0 + q ≡ l.lands + (sum (count r.shape) k + q) = omega arith in
      ap (λ (i : ℕ). decode (get_or new i 0)) e ∙ ap decode (empty (sum (count r.shape) k + q) (omega (arith, fits.total, w.1)))

  starts : shown r ≡ start
  unfolding kind_of forward_of waiting_of
  starts = same_state (shown r) start refl
      (λ e. let h = le-ltb e 0 (omega arith) in rw h refl)
      (λ e. let h = le-ltb e 0 (omega arith) in rw h refl)
      (λ t. elim (cases_Bool (inside r.shape 0 t)) [ inl b ↦ held_in r t b ∙ held_none t b | inr b ↦ sym (held_out r t b) ])
      refl

  tidy : Tidy r
  unfolding rank
  tidy = record {
    fits = fits;
    lower = λ x. let e = ap (λ s. s.forward x) starts in omega arith;
    given = λ t w e. absurd (some_none (sym e ∙ ap (λ s. s.held t) starts));
    queued = refl;
  }

  pub taken_in : TakenIn old ws m l new
  taken_in = record {
    load = p.load ∙ ap Ok (sym taken_is);
    told = p.told;
    problem = problem_kept;
    copied = copied;
    placed = subst (λ q. PlacedBy q (listed l.load.leads) r) (sym same_problem) placed;
    tidy = tidy;
    starts = starts;
    carries = record {
      links = ap (λ q. length q.target_links) same_problem ∙ sym p.links;
      capacity = refl;
      kinds = ap (λ q. q.source_kinds) same_problem ∙ sym (p.kinds ∙ p.sourced.kinds);
      counts = λ k h. count_is k ∙ sym (count_kept k h);
    };
    behind = behind;
  }
