-- Two complete tables of one load are finished with the same words.
use Rattle.std.proofs.Common.{◌≡◌, ℕ, zero, suc, ◌<◌, Bool, true, false, cond, eqb, List, [], ◌∷◌, map, Some, None, Option, sym, refl, ap, ◌∙◌, inl, inr, arith}
use Rattle.std.proofs.lemmas.Bool.{cases_eq}
use Rattle.words.specs.declared.faults.Refusal.TheVariants as refusal
use Rattle.register_files.specs.Register.{Row}
use Rattle.register_files.specs.Layout.{layout}
use Rattle.registers.specs.Writing.{upto}
use Rattle.machine.specs.Loaded.{Loaded}
use Rattle.machine.specs.State.{Slot, cell, landing, State, start, on, waits}
use Rattle.machine.specs.Sweeping.{renamed}
use Rattle.machine.specs.Calls.{Op}
use Rattle.machine.specs.Readings.{Accepted}
use Rattle.machine.specs.Shift.{Call, calls, next}
use Rattle.machine.specs.Complete.{Complete}
use Rattle.machine.specs.Sequence.{sequence}
use Rattle.machine.specs.Finish.{tally, before, first_or, entry_in, number, entry, count_of, lead_of, at_of, register_file, finish_words, with_capacity, Alike, OneTable, unfinished, FinishAccepts}
use Rattle.machine.proofs.Upto.{upto_same}
use Rattle.machine.proofs.Numbering.{grown_fine}
use Rattle.machine.proofs.Runs.{cond_some, calls_good, calls_kinds, start_good, start_kinds}
use Rattle.machine.proofs.Finished.{complete_when_done}
use Rattle.machine.proofs.Capacity.{Whole, whole_of, accepted_at}
use Rattle.machine.proofs.Own.{Living, held_living}
use Rattle.machine.proofs.Entries.{entry_yes, entry_no, tally_yes, tally_no, entry_each, before_each}
use Rattle.machine.proofs.Twins.{carry, carry_living, round_is, held_same, image, Kept, Each, fine_each, to, kind_kept, test_kept, slot_kept, sequence_same}

-- rows between the same kinds that lead alike
abbrev rows : (ℕ → ℕ) → (ℕ → ℕ) → (ℕ → ℕ → ℕ) → (ℕ → ℕ) → ℕ → List Row
rows from to lead size = upto (λ l. record { from = from l; to = to l; leads = upto (lead l) (size l) })

rows_same : (from to : ℕ → ℕ) (lead lead' : ℕ → ℕ → ℕ) (size size' : ℕ → ℕ) (n : ℕ) →
    ((l : ℕ) → size l ≡ size' l) → ((l r : ℕ) → r < size' l → lead l r ≡ lead' l r) → rows from to lead size n ≡ rows from to lead' size' n
rows_same from to lead lead' size size' n hs hl =
    upto_same _ _ n (λ l q i. record { from = from l; to = to l; leads = (ap (upto (lead l)) (hs l) ∙ upto_same (lead l) (lead' l) (size' l) (hl l)) i })

register_same : (L : Loaded) (count count' : ℕ → ℕ) (lead lead' : ℕ → ℕ → ℕ) (at at' : ℕ → ℕ → ℕ) →
    ((k : ℕ) → count k ≡ count' k) → ((l n : ℕ) → n < count' (L.from l) → lead l n ≡ lead' l n) → ((k r : ℕ) → at k r ≡ at' k r) →
    register_file L count lead at ≡ register_file L count' lead' at'
register_same L count count' lead lead' at at' hc hl ha = λ i. record {
  counts = upto_same count count' L.target_kinds (λ k q. hc k) i;
  links = rows_same L.from L.to lead lead' (λ l. count (L.from l)) (λ l. count' (L.from l)) L.links (λ l. hc (L.from l)) hl i;
  landings = rows_same (λ k. k) L.kind_map at at' L.count L.count L.source_kinds (λ k. refl) (λ k r q. ha k r) i;
}

module _ (L : Loaded) (acc : Accepted L) (c : ℕ) (s z : State) (a : Whole L s) (b : Whole (with_capacity c L) z) where
  abbrev M : Loaded
  M = with_capacity c L

  abbrev ρ : ℕ → ℕ
  ρ = to L acc c s z a b

  all_live : Each (Living s) (sequence L s)
  all_live = fine_each (Living s) (sequence L s) (grown_fine L s a.good a.complete.quiet s.given)

  tally_map : (k : ℕ) (xs : List ℕ) → Each (Living s) xs → tally z.kind k (map ρ xs) ≡ tally s.kind k xs
  unfolding tally
  tally_map k [] f = refl
  tally_map k (x ∷ xs) f =
      ap (λ j. cond (eqb j k) (suc (tally z.kind k (map ρ xs))) (tally z.kind k (map ρ xs))) (kind_kept L acc c s z a b x f.0)
      ∙ ap (λ n. cond (eqb (s.kind x) k) (suc n) n) (tally_map k xs f.1)

  before_map : (e : ℕ) (xs : List ℕ) → Living s e → Each (Living s) xs → before (ρ e) (map ρ xs) ≡ map ρ (before e xs)
  unfolding before
  before_map e [] h f = refl
  before_map e (x ∷ xs) h f = ap (λ t. cond t [] (ρ x ∷ before (ρ e) (map ρ xs))) (test_kept L acc c s z a b x e f.0 h) ∙ go (eqb x e) (before_map e xs h f.1)
    where
      go : (t : Bool) → before (ρ e) (map ρ xs) ≡ map ρ (before e xs) → cond t [] (ρ x ∷ before (ρ e) (map ρ xs)) ≡ map ρ (cond t [] (x ∷ before e xs))
      go true q = refl
      go false q = ap (λ l. ρ x ∷ l) q

  number_same : (e : ℕ) → Living s e → number M z (ρ e) ≡ number L s e
  number_same e h =
      ap (λ xs. tally z.kind (z.kind (ρ e)) (before (ρ e) xs)) (sequence_same L acc c s z a b)
      ∙ (ap (λ k. tally z.kind k (before (ρ e) (map ρ (sequence L s)))) (kind_kept L acc c s z a b e h)
      ∙ (ap (tally z.kind (s.kind e)) (before_map e (sequence L s) h all_live)
      ∙ tally_map (s.kind e) (before e (sequence L s)) (before_each (Living s) e (sequence L s) all_live)))

  -- what stands in a slot has the number that it had
  slot_same : (t : Slot) → Kept s t → on (z.held (image ρ t)) 0 (number M z) ≡ on (s.held t) 0 (number L s)
  slot_same t k = ap (λ o. on o 0 (number M z)) (slot_kept L acc c s z a b t k) ∙ go (s.held t) (λ w q. held_living L acc s a t w q)
    where
      go : (o : Option ℕ) → ((w : ℕ) → o ≡ Some w → Living s w) → on (renamed ρ o) 0 (number M z) ≡ on o 0 (number L s)
      go None h = refl
      go (Some w) h = number_same w (h w refl)

  entry_map : (k : ℕ) (xs : List ℕ) (n : ℕ) → Each (Living s) xs → n < tally s.kind k xs → entry_in z.kind k (map ρ xs) n ≡ ρ (entry_in s.kind k xs n)
  unfolding tally entry_in
  entry_map k [] n f h = absurd (omega (arith, h))
  entry_map k (x ∷ xs) n f h = elim (cases_eq (s.kind x) k) [
    | inl e ↦ entry_yes z.kind k (ρ x) (map ρ xs) n (kind_kept L acc c s z a b x f.0 ∙ e)
        ∙ (first_or_both n x xs (λ m q. entry_map k xs m f.1 (omega (arith, tally_yes s.kind k x xs e, h, q))) ∙ ap ρ (sym (entry_yes s.kind k x xs n e)))
    | inr e ↦ entry_no z.kind k (ρ x) (map ρ xs) n (λ q. e (sym (kind_kept L acc c s z a b x f.0) ∙ q))
        ∙ (entry_map k xs n f.1 (omega (arith, tally_no s.kind k x xs e, h)) ∙ ap ρ (sym (entry_no s.kind k x xs n e)))
  ]
    where
      first_or_both : (n x : ℕ) (xs : List ℕ) → ((m : ℕ) → n ≡ suc m → entry_in z.kind k (map ρ xs) m ≡ ρ (entry_in s.kind k xs m)) → first_or n (ρ x) (entry_in z.kind k (map ρ xs)) ≡ ρ (first_or n x (entry_in s.kind k xs))
      first_or_both zero x xs f = refl
      first_or_both (suc m) x xs f = f m refl

  lead_same : (l n : ℕ) → n < count_of L s (L.from l) → lead_of M z l n ≡ lead_of L s l n
  lead_same l n h =
      ap (λ e. on (z.held (cell e l)) 0 (number M z)) (ap (λ xs. entry_in z.kind (L.from l) xs n) (sequence_same L acc c s z a b) ∙ entry_map (L.from l) (sequence L s) n all_live h)
      ∙ slot_same (cell (entry L s (L.from l) n) l) (entry_each (Living s) s.kind (L.from l) (sequence L s) n all_live h)

  pub words_same : finish_words M z ≡ finish_words L s
  words_same = ap layout (register_same L (count_of M z) (count_of L s) (lead_of M z) (lead_of L s) (at_of M z) (at_of L s)
      (λ k. ap (tally z.kind k) (sequence_same L acc c s z a b) ∙ tally_map k (sequence L s) all_live)
      lead_same
      (λ k r. slot_same (landing k r) tt))

pub whole_calls : (L : Loaded) → Accepted L → (cs : List Call) → Complete L (calls L cs start) → Whole L (calls L cs start)
whole_calls L acc cs d = record { good = calls_good L acc cs start (start_good L); kinds = calls_kinds L acc cs start (start_good L) (start_kinds L); complete = d }

-- two complete tables of one load, of any two capacities and after any two lists of calls, are finished with the same words
pub one_finish : (L : Loaded) → Accepted L → (b c : ℕ) (cs ds : List Call) →
    Complete (with_capacity b L) (calls (with_capacity b L) cs start) → Complete (with_capacity c L) (calls (with_capacity c L) ds start) →
    finish_words (with_capacity b L) (calls (with_capacity b L) cs start) ≡ finish_words (with_capacity c L) (calls (with_capacity c L) ds start)
one_finish L acc b c cs ds p q =
    let acb = accepted_at b L acc in
    sym (words_same (with_capacity b L) acb c (calls (with_capacity b L) cs start) (calls (with_capacity c L) ds start) (whole_calls (with_capacity b L) acb cs p) (whole_calls (with_capacity c L) (accepted_at c L acc) ds q))

module _ (L : Loaded) (acc : Accepted L) (s z : State) (a : Whole L s) (b : Whole L z) where
  alike : Alike s z (carry L acc s z a b) (carry L acc z s b a)
  alike = record {
    living = λ e h live. (let p = carry_living L acc s z a b e h in (p.0.0, p.0.1, p.1, round_is L acc s z a b e (h, live)));
    landings = λ k r. held_same L acc s z a b (landing k r) tt;
    cells = λ e l h live. held_same L acc s z a b (cell e l) (h, live);
  }

pub one_table : OneTable
one_table L acc b c cs ds p q =
    let acb = accepted_at b L acc in
    let s = whole_calls (with_capacity b L) acb cs p in
    let z = whole_of c (with_capacity b L) (calls (with_capacity c L) ds start) (whole_calls (with_capacity c L) (accepted_at c L acc) ds q) in
    (carry (with_capacity b L) acb _ _ s z, carry (with_capacity b L) acb _ _ z s, alike (with_capacity b L) acb _ _ s z, alike (with_capacity b L) acb _ _ z s)

nothing_left : (o : Option Op) → unfinished o ≡ None → o ≡ None
nothing_left None e = refl
nothing_left (Some o) e = absurd (cc)

pub finish_accepts : FinishAccepts
finish_accepts L acc cs =
    let d = complete_when_done L acc cs in
    let s = calls L cs start in (
      (λ e. d.0 (nothing_left (next L (calls L cs start)) (cond_some (waits (calls L cs start).waiting) refusal.Waiting (unfinished (next L (calls L cs start))) e).1)),
      (λ c. ap (λ ws. cond (waits ws) (Some refusal.Waiting) (unfinished (next L (calls L cs start)))) c.quiet ∙ ap unfinished (d.1 c)),
    )
