-- The numbers in the words are those of the finished file.
use Rattle.std.proofs.Common.{◌≡◌, ℕ, ◌-◌, ◌<◌, ◌≤◌, cond, eqb, List, [], ◌∷◌, map, Some, Option, sym, ap, ◌∙◌, subst, inl, inr, arith}
use Rattle.std.proofs.lemmas.Bool.{cases_eq, ne_eqb, cond-false}
use Rattle.words.specs.declared.tags.Tag.TheVariants as tag
use Rattle.words.specs.Tags.{tagged}
use Rattle.registers.specs.Writing.{upto}
use Rattle.machine.specs.Loaded.{Loaded}
use Rattle.machine.specs.State.{Slot, cell, landing, State, on}
use Rattle.machine.specs.Sequence.{sequence}
use Rattle.machine.specs.Finish.{number, count_of, lead_of, at_of}
use Rattle.machine.proofs.Entries.{nth_mem, number_below}
use Rattle.machine.proofs.Fill.{some_same}
use Rattle.machine.proofs.Numbering.{In}
use Rattle.machine.proofs.Upto.{upto_same}
use Rattle.rows.specs.Layout.{Raw, shown}
use Rattle.numbering.specs.Listed.{Listed}
use Rattle.finishing.specs.Records.{appended, nth_entry, mark, number_in, Numbered, lead_word, Led, landed_words}
use Rattle.finishing.proofs.Appended.{appended_same}
use Rattle.finishing.proofs.Leads.{map_upto, picked, picked_all}

module _ (L : Loaded) (s : State) (b : Raw) (met : ℕ) (counts : List ℕ) (x : Listed L s b met counts) where
  pub few_records : (k : ℕ) → count_of L s k < 65536
  few_records k = omega (arith, x.few k, x.fits.small)

  -- an entry of the sequence has a number
  entry_numbered : (w : ℕ) → In w (sequence L s) → (w < b.given) × (65536 ≤ mark b w) × (mark b w < 131072)
  entry_numbered w i =
      let m = x.numbers i.0 w i.1 in
      let n = number_below s.kind w (sequence L s) (nth_mem (sequence L s) i.0 w i.1) in
      let f = few_records (s.kind w) in
      (x.known i.0 w i.1, omega arith, omega arith)

  -- and so has what a slot holds, if it is one of the sequence
  module _ (t : Slot) (h : (w : ℕ) × (s.held t ≡ Some w) × In w (sequence L s)) where
    holds : (shown b).held t ≡ Some h.0
    holds = ap (λ (g : Slot → Option ℕ). g t) x.held ∙ h.1

    pub slot_numbered : Numbered b t
    slot_numbered w e = subst (λ v. (v < b.given) × (65536 ≤ mark b v) × (mark b v < 131072)) (some_same h.0 w ((shown b).held t) holds e) (entry_numbered h.0 h.2)

    pub slot_number : number_in b t ≡ on (s.held t) 0 (number L s)
    slot_number =
        ap (λ o. on o 0 (λ w. mark b w - 65536)) holds
        ∙ (let m = x.numbers h.2.0 h.0 h.2.1 in let e : mark b h.0 - 65536 ≡ number L s h.0 = omega arith in e)
        ∙ sym (ap (λ o. on o 0 (number L s)) h.1)

  -- the cells of the i-th entry
  module _ (l : ℕ) (known : l < L.links) where
    abbrev lead : ℕ → ℕ
    lead e = on (s.held (cell e l)) 0 (number L s)

    filled : (i : ℕ) → i < met → s.kind (nth_entry b i) ≡ L.from l → (w : ℕ) × (s.held (cell (nth_entry b i) l) ≡ Some w) × In w (sequence L s)
    filled i h e = x.defined i (nth_entry b i) l (x.slots i h) known e

    kind_is : (e : ℕ) → (shown b).kind e ≡ s.kind e
    kind_is e = ap (λ (g : ℕ → ℕ). g e) x.kinds

    pub led : Led b (L.from l) l met
    led = record {
      room = x.room;
      known = λ i h. x.known i (nth_entry b i) (x.slots i h);
      numbered = λ i h e. slot_numbered (cell (nth_entry b i) l) (filled i h (sym (kind_is (nth_entry b i)) ∙ e));
    }

    lead_is : (i : ℕ) → i < met → lead_word b (L.from l) l i ≡ picked s.kind (L.from l) (λ e. tagged tag.Record (lead e)) (nth_entry b i)
    unfolding lead_word
    lead_is i h =
        ap (λ k. cond (eqb k (L.from l)) (tagged tag.Record (number_in b (cell (nth_entry b i) l)) ∷ []) []) (kind_is (nth_entry b i))
        ∙ elim (cases_eq (s.kind (nth_entry b i)) (L.from l)) [
          | inl e ↦ ap (λ n. cond (eqb (s.kind (nth_entry b i)) (L.from l)) (tagged tag.Record n ∷ []) []) (slot_number (cell (nth_entry b i) l) (filled i h e))
          | inr e ↦ cond-false _ _ [] (ne_eqb _ _ e) ∙ sym (cond-false _ _ [] (ne_eqb _ _ e))
        ]

    pub leads_are : appended (lead_word b (L.from l) l) met ≡ map (tagged tag.Record) (upto (lead_of L s l) (count_of L s (L.from l)))
    leads_are =
        appended_same _ _ met lead_is
        ∙ ap (appended (λ i. picked s.kind (L.from l) (λ e. tagged tag.Record (lead e)) (nth_entry b i))) x.size
        ∙ picked_all s.kind (L.from l) (λ e. tagged tag.Record (lead e)) (sequence L s) (nth_entry b) (λ i h. x.slots i (omega (arith, h, x.size)))
        ∙ sym (map_upto (tagged tag.Record) (lead_of L s l) (count_of L s (L.from l)))

  -- the landings of a source kind
  module _ (k : ℕ) (known : k < L.source_kinds) where
    pub landed_numbered : (q : ℕ) → q < L.count k → Numbered b (landing k q)
    landed_numbered q h = slot_numbered (landing k q) (x.landed k q known h)

    pub landed_are : landed_words b k (L.count k) ≡ map (tagged tag.Record) (upto (at_of L s k) (L.count k))
    unfolding landed_words
    landed_are = ap (map (tagged tag.Record)) (upto_same _ _ (L.count k) (λ q h. slot_number (landing k q) (x.landed k q known h)))
