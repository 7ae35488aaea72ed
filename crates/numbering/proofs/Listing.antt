-- The numbering that is written lists the machine's sequence.
use Rattle.std.proofs.Common.{◌≡◌, ℕ, zero, suc, ◌+◌, ◌≤◌, List, [], replicate, Some, None, sym, refl, ap, ◌∙◌, subst, inl, inr, arith}
use lib.ListN.{get_or-replicate}
use Rattle.std.proofs.lemmas.Bool.{cases_Bool}
use Rattle.machine.specs.Loaded.{Loaded}
use Rattle.machine.specs.State.{Slot, on}
use Rattle.machine.specs.Sequence.{member, nth, of_kind, of_landings, of_cells, visit, grown, sequence}
use Rattle.machine.specs.Finish.{tally, number}
use Rattle.machine.proofs.Fill.{some_none}
use Rattle.machine.proofs.Numbering.{In, in_member}
use Rattle.rows.specs.Layout.{Raw, Carries, shown, count}
use Rattle.numbering.specs.declared.Numbering.{Numbering}
use Rattle.numbering.specs.Listed.{Listed}
use Rattle.numbering.specs.Marked.{Countable, Ready, Numbered, Grows, visited, of_kinds, of_rows, row}
use Rattle.numbering.proofs.Kept.{fits, same_given, same_kinds, same_held, nth_row, met_short}

-- no entry is met yet
pub numbered_none : (a : Raw) → Countable a → Numbered a a [] 0 (replicate 32 0)
unfolding nth member tally
numbered_none a ok = record {
  marked = record {
    kept = record {
      from = ok;
      met = record { once = λ i j e p. absurd (some_none e None p refl); all = λ i e p. absurd (some_none e None p refl) };
      numbers = refl;
      size = refl;
      low = λ i h. refl;
      rest = λ e j h p q. refl;
      slots = λ i e p. absurd (some_none e None p refl);
    };
    forwards = λ e. refl;
  };
  tallied = record { size = refl; width = refl; counted = λ k h. get_or-replicate 32 k 0 0 h };
}

-- the lists of the loops are those of the machine
module _ (L : Loaded) (a : Raw) (c : Carries L a.shape) where
  kinds_landings : (k : ℕ) → k ≤ a.shape.kinds → of_kinds a k [] ≡ of_landings L (shown a) k
  unfolding of_kinds of_landings
  kinds_landings zero h = refl
  kinds_landings (suc k) h = rw (c.counts k (omega arith)) (ap (of_kind (shown a) k (count a.shape k)) (kinds_landings k (omega arith)))

  visited_visit : (i : ℕ) (xs : List ℕ) → visited a i xs ≡ visit L (shown a) i xs
  visited_visit i xs = ap (λ (l : ℕ). on (nth xs i) xs (λ e. of_cells (shown a) e l xs)) (sym c.links)

  rows_grown : (i : ℕ) → of_rows a i (of_landings L (shown a) L.source_kinds) ≡ grown L (shown a) i
  unfolding of_rows grown
  rows_grown zero = refl
  rows_grown (suc i) = ap (visited a i) (rows_grown i) ∙ visited_visit i (grown L (shown a) i)

  sequence_met : of_rows a a.given (of_kinds a a.shape.kinds []) ≡ sequence L (shown a)
  sequence_met =
      ap (of_rows a a.given) (kinds_landings a.shape.kinds (omega arith) ∙ ap (of_landings L (shown a)) (sym c.kinds))
      ∙ rows_grown a.given

module _ (L : Loaded) (a b : Raw) (met : ℕ) (counts : List ℕ) (r : Ready L a) (m : Numbered a b (sequence L (shown a)) met counts) where
  -- what is held is in the sequence
  held_in : (t : Slot) (w : ℕ) → (shown a).held t ≡ Some w → In w (sequence L (shown a))
  held_in t w e = let o = m.marked.kept.from in r.numbers.each w (o.tidy.given t w e) (o.live t w e)

  numbers : (i e : ℕ) → nth (sequence L (shown a)) i ≡ Some e → row b e 1 ≡ 65536 + number L (shown a) e
  numbers i e h = m.marked.forwards e ∙ elim (cases_Bool (member e (sequence L (shown a)))) [
    | inl q ↦ rw q refl
    | inr q ↦ absurd (in_member e (sequence L (shown a)) i h q)
  ]

  listed : Listed L (shown a) b met counts
  listed =
      let k = m.marked.kept in
      record {
        fits = fits a (sequence L (shown a)) b k;
        given = same_given a (sequence L (shown a)) b k;
        kinds = same_kinds a (sequence L (shown a)) b k;
        held = same_held a (sequence L (shown a)) b k;
        size = m.tallied.size;
        room = omega (arith, met_short a (sequence L (shown a)) b k, m.tallied.size);
        slots = λ i h. nth_row a (sequence L (shown a)) b k i (omega (arith, m.tallied.size));
        known = λ i e h. omega (arith, (k.met.all i e h).0, same_given a (sequence L (shown a)) b k);
        numbers = numbers;
        counted = λ j h. m.tallied.counted j (omega (arith, r.few));
        few = λ j. omega (arith, r.bounds.few j, r.carries.capacity, ap (λ (z : Raw). z.shape.capacity) k.numbers);
        landed = λ j q h l. (let w = r.landed j q h l in (w.0, w.1, held_in _ w.0 w.1));
        defined = λ j e l h hl ke. (let o = r.numbers.only j e h in let w = r.defined e l o.0 o.1 hl ke in (w.0, w.1, held_in _ w.0 w.1));
      }

-- both loops, one after the other
module _ (a b d : Raw) (n o p : Numbering) (m : Numbered a a [] n.met n.counts) (g : Grows (λ a xs. of_kinds a a.shape.kinds xs) a n b o) (h : Grows (λ a xs. of_rows a a.given xs) b o d p) where
  pub numbers_all : (L : Loaded) → Carries L a.shape → Numbered a d (sequence L (shown a)) p.met p.counts
  numbers_all L c = subst (λ (xs : List ℕ). Numbered a d xs p.met p.counts) (sequence_met L a c) (h a _ (g a [] m))

  pub lists_all : (L : Loaded) → Ready L a → Listed L (shown a) d p.met p.counts
  lists_all L r = listed L a d p.met p.counts r (numbers_all L r.carries)
