-- What finish writes is read back.
use Rattle.std.proofs.Common.{◌≡◌, ℕ, ◌<◌, ◌≤◌, cond, ltb, List, length, get_or, Some, None, Option, sym, refl, ap, ◌∙◌, subst, ⊎_elim, arith}
use Rattle.std.specs.List.{AllByRecursion}
use Rattle.std.proofs.lemmas.List.{get_or_past}
use Rattle.std.proofs.lemmas.Bool.{cases_lt, ltb-true}
use Rattle.register_files.specs.Register.{Row}
use Rattle.register_files.specs.Layout.{GoodLink, GoodLanding, WellFormed}
use Rattle.register_files.proofs.Layouts.{layout_read}
use Rattle.registers.specs.Meaning.{no_row, answers}
use Rattle.registers.specs.Writing.{upto}
use Rattle.machine.specs.Loaded.{Loaded}
use Rattle.machine.specs.State.{cell, landing, State, start, on}
use Rattle.machine.specs.Sweeping.{renamed}
use Rattle.machine.specs.Readings.{Accepted, Receiver, Placing}
use Rattle.machine.specs.Shift.{Call, calls}
use Rattle.machine.specs.Complete.{Complete}
use Rattle.machine.specs.Finish.{number, entry, count_of, lead_of, at_of, register_file, finished_file, finish_words, Bounds}
use Rattle.machine.specs.ReadBack.{shown, ReadsBack, FinishReadsBack}
use Rattle.machine.proofs.Capacity.{Whole}
use Rattle.registers.proofs.WrittenLists.{upto_length, upto_at, upto_all}
use Rattle.machine.proofs.Upto.{upto_each, cond_same, upto_told}
use Rattle.machine.proofs.Loads.{accepted}
use Rattle.machine.proofs.Limits.{Limits, load_limits}
use Rattle.machine.proofs.Written.{whole_calls, finish_accepts}
use Rattle.machine.proofs.Register.{entry_is, extends}
use Rattle.machine.proofs.Bounds.{finish_bounds}

-- the register file of a receiver with a placing, within the limits
module _ (L : Loaded) (acc : Accepted L) (lim : Limits L) (R : Receiver L) (P : Placing L R) (few : (k : ℕ) → R.count k ≤ L.capacity) where
  abbrev cs : List ℕ
  cs = upto R.count L.target_kinds

  known : (k : ℕ) → k < L.target_kinds → k < length cs
  known k h = let n = upto_length R.count L.target_kinds in omega arith

  counted_all : (lead : ℕ → ℕ) (n to : ℕ) → to < L.target_kinds → ((r : ℕ) → r < n → lead r < R.count to) → AllByRecursion (λ r. r < get_or cs to 0) (upto lead n)
  counted_all lead n to k h = upto_all lead (λ r. r < get_or cs to 0) n (λ r q. rw (upto_at R.count L.target_kinds to 0 k) (h r q))

  well_formed : WellFormed (register_file L R.count R.lead P.at)
  well_formed = record {
    few_kinds = rw upto_length lim.kinds;
    small = upto_all R.count (λ c. c < 65536) L.target_kinds (λ k h. omega (arith, few k, lim.entries));
    few_links = rw upto_length lim.links;
    links = upto_all _ (GoodLink cs) L.links (λ l h. record {
      from_known = known (L.from l) (acc.from_known l h);
      to_known = known (L.to l) (acc.to_known l h);
      full = upto_length (R.lead l) (R.count (L.from l)) ∙ sym (upto_at R.count L.target_kinds (L.from l) 0 (acc.from_known l h));
      counted = counted_all (R.lead l) (R.count (L.from l)) (L.to l) (acc.to_known l h) (λ r. R.inside l r h);
    });
    few_landings = rw upto_length lim.source_kinds;
    landings = upto_each _ (GoodLanding cs) L.source_kinds (λ k h. record {
      numbered = refl;
      to_known = known (L.kind_map k) (acc.map_known k h);
      short = let m = upto_length (P.at k) (L.count k) in omega (arith, lim.records k h);
      counted = counted_all (P.at k) (L.count k) (L.kind_map k) (acc.map_known k h) (λ r. P.counted k r h);
    });
  }

module _ (L : Loaded) (acc : Accepted L) (s : State) (a : Whole L s) (b : Bounds L s) where
  abbrev link_row : ℕ → Row
  link_row l = record { from = L.from l; to = L.to l; leads = upto (lead_of L s l) (count_of L s (L.from l)) }

  -- what a slot holds is there, with its number
  held_shown : (o : Option ℕ) (w : ℕ) → o ≡ Some w → Some (on o 0 (number L s)) ≡ renamed (number L s) o
  held_shown o w e = subst (λ o. Some (on o 0 (number L s)) ≡ renamed (number L s) o) (sym e) refl

  count_shown : (k : ℕ) → get_or (upto (count_of L s) L.target_kinds) k 0 ≡ count_of L s k
  count_shown k = ⊎_elim
      (λ (h : k < L.target_kinds). upto_at (count_of L s) L.target_kinds k 0 h)
      (λ (h : L.target_kinds ≤ k). get_or_past (upto (count_of L s) L.target_kinds) k 0 (rw upto_length h) ∙ sym (b.other k h))
      (cases_lt k L.target_kinds)

  follow_shown : (l n : ℕ) → (answers (finished_file L s)).follow l n ≡ (shown L s).follow l n
  follow_shown l n =
      upto_told link_row L.links l no_row (λ r. cond (ltb n (length r.leads)) (Some (get_or r.leads n 0)) None)
      ∙ cond_same (ltb l L.links) _ _ None (λ h.
      upto_told (lead_of L s l) (count_of L s (L.from l)) n 0 Some
      ∙ cond_same (ltb n (count_of L s (L.from l))) _ _ None (λ q.
      let e = entry L s (L.from l) n in
      let c = entry_is L acc s a (L.from l) n (ltb-true n (count_of L s (L.from l)) q) in
      let y = a.complete.defined e l c.living.0 c.living.1 (ltb-true l L.links h) c.kind in
      held_shown (s.held (cell e l)) y.0 y.1))

  lands_shown : (k r : ℕ) → k < L.source_kinds → r < L.count k → Some (get_or (get_or (finished_file L s).landings k no_row).leads r 0) ≡ renamed (number L s) (s.held (landing k r))
  lands_shown k r hk hr =
      let y = a.complete.landed k r hk hr in
      ap Some (ap (λ (x : Row). get_or x.leads r 0) (upto_at _ L.source_kinds k no_row hk) ∙ upto_at (at_of L s k) (L.count k) r 0 hr)
      ∙ held_shown (s.held (landing k r)) y.0 y.1

  answers_shown : answers (finished_file L s) ≡ shown L s
  answers_shown i = record {
    kinds = upto_length (count_of L s) L.target_kinds i;
    links = upto_length link_row L.links i;
    ends = λ l. upto_told link_row L.links l no_row (λ r. Some (r.from, r.to)) i;
    count = λ k. count_shown k i;
    follow = λ l n. follow_shown l n i;
  }

reads_back : (L : Loaded) → Accepted L → Limits L → (cs : List Call) → Complete L (calls L cs start) → ReadsBack L (calls L cs start)
reads_back L acc lim cs d =
    let s = calls L cs start in
    let a = whole_calls L acc cs d in
    let b = finish_bounds L acc cs d.quiet in
    let e = extends L acc s a in
    let w = well_formed L acc lim e.register e.placing (λ k. subst (λ f. f k ≤ L.capacity) (sym e.counts) (b.few k)) in
    record {
      accepted = layout_read (finish_words L s) (finished_file L s) (refl, subst WellFormed (λ i. register_file L (e.counts i) (e.leads i) (e.places i)) w);
      means = answers_shown L acc s a b;
      lands = lands_shown L acc s a b;
    }

pub finish_reads_back : FinishReadsBack
finish_reads_back work ws m L e cs f =
    let acc = accepted work ws m L e in
    reads_back L acc (load_limits work ws m L e) cs ((finish_accepts L acc cs).0 f)
