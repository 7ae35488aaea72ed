-- The finished register is a receiver, its landings a placing, and it is universal.
use Rattle.std.proofs.Common.{◌≡◌, ℕ, ◌<◌, List, [], ◌∷◌, Some, sym, refl, ap, ◌∙◌, subst}
use Rattle.machine.specs.Loaded.{Loaded}
use Rattle.machine.specs.State.{Slot, cell, landing, State, start, on}
use Rattle.machine.specs.Merging.{end}
use Rattle.machine.specs.Readings.{Accepted, Joins, along, worth, Receiver, Placing, Reading}
use Rattle.machine.specs.Sound.{Mem}
use Rattle.machine.specs.Shift.{calls}
use Rattle.machine.specs.Sequence.{Numbers, sequence}
use Rattle.machine.specs.Finish.{tally, before, number, entry, count_of, lead_of, at_of}
use Rattle.machine.specs.Universal.{Maps, Extends, FinishExtends}
use Rattle.machine.proofs.Base.{chase_fix, chase_keeps, end_forward}
use Rattle.machine.proofs.Closed.{one_reading}
use Rattle.machine.proofs.Numbering.{numbers}
use Rattle.machine.proofs.Capacity.{Whole}
use Rattle.machine.proofs.Own.{Living, content, held_living, end_living, own, own_placing, parts_has}
use Rattle.machine.proofs.Sweep.{use_lives}
use Rattle.machine.proofs.Twins.{each_of}
use Rattle.machine.proofs.Entries.{entry_each, entry_kind, entry_number, number_entry, number_below, nth_mem, distinct_of}
use Rattle.machine.proofs.Written.{whole_calls}

-- a living entry with the record that it becomes
pub record Becomes (L : Loaded) (s : State) (k n e : ℕ) : Type 0 where
  pub living : Living s e
  pub kind : s.kind e ≡ k
  pub number : number L s e ≡ n

module _ (L : Loaded) (acc : Accepted L) (s : State) (a : Whole L s) where
  listed : Numbers L s
  listed = numbers L s a.good a.complete.quiet

  living_mem : (e : ℕ) → Living s e → Mem e (sequence L s)
  living_mem e h = let p = listed.each e h.0 h.1 in nth_mem (sequence L s) p.0 e p.1

  pub number_counted : (e : ℕ) → Living s e → number L s e < count_of L s (s.kind e)
  number_counted e h = number_below s.kind e (sequence L s) (living_mem e h)

  pub entry_back : (e k : ℕ) → Living s e → s.kind e ≡ k → entry L s k (number L s e) ≡ e
  entry_back e k h q = ap (λ j. entry L s j (number L s e)) (sym q) ∙ number_entry s.kind e (sequence L s) (living_mem e h)

  pub entry_is : (k n : ℕ) → n < count_of L s k → Becomes L s k n (entry L s k n)
  entry_is k n h =
      let q = entry_kind s.kind k (sequence L s) n h in
      record {
        living = entry_each (Living s) s.kind k (sequence L s) n (each_of (Living s) (sequence L s) listed.only) h;
        kind = q;
        number = ap (λ j. tally s.kind j (before (entry L s k n) (sequence L s))) q ∙ entry_number s.kind k (sequence L s) n (distinct_of (sequence L s) listed.once) h;
      }

  -- a link leads from the number of an entry to the number of what its cell holds
  lead_number : (l e w : ℕ) → Living s e → s.kind e ≡ L.from l → s.held (cell e l) ≡ Some w → lead_of L s l (number L s e) ≡ number L s w
  lead_number l e w h q c = ap (λ y. on (s.held (cell y l)) 0 (number L s)) (entry_back e (L.from l) h q) ∙ ap (λ o. on o 0 (number L s)) c

  at_number : (k r w : ℕ) → s.held (landing k r) ≡ Some w → at_of L s k r ≡ number L s w
  at_number k r w c = ap (λ o. on o 0 (number L s)) c

  along_number : (ls : List ℕ) (e k : ℕ) → Living s e → s.kind e ≡ k → Joins L k ls → along (lead_of L s) (number L s e) ls ≡ number L s (along (own L acc s a).lead e ls)
  along_number [] e k h q j = refl
  along_number (l ∷ ls) e k h q j =
      let y = a.complete.defined e l h.0 h.1 j.0 (q ∙ j.1) in
      ap (λ n. along (lead_of L s) n ls) (lead_number l e y.0 h (q ∙ j.1) y.1)
      ∙ (along_number ls y.0 (L.to l) (held_living L acc s a (cell e l) y.0 y.1) (a.kinds.fit (cell e l) y.0 y.1).0 j.2
      ∙ sym (ap (λ o. number L s (along (own L acc s a).lead (content o) ls)) y.1))

  abbrev finished : Receiver L
  finished = record {
    count = count_of L s;
    lead = lead_of L s;
    inside = λ l n hl h.
        let b = entry_is (L.from l) n h in
        let e = entry L s (L.from l) n in
        let y = a.complete.defined e l b.living.0 b.living.1 hl b.kind in
        let w = y.0 in
        let v = held_living L acc s a (cell e l) w y.1 in
        subst (λ m. m < count_of L s (L.to l)) (sym (ap (λ o. on o 0 (number L s)) y.1))
        (subst (λ j. number L s w < count_of L s j) (a.kinds.fit (cell e l) w y.1).0 (number_counted w v));
    keeps = λ i n hi h.
        let b = entry_is (L.first i) n h in
        let e = entry L s (L.first i) n in
        subst (λ m. along (lead_of L s) m (L.left i) ≡ along (lead_of L s) m (L.right i)) b.number
        (along_number (L.left i) e (L.first i) b.living b.kind (acc.left_in i hi)
        ∙ (ap (number L s) ((own L acc s a).keeps i e hi (parts_has s (L.first i) e b.living b.kind))
        ∙ sym (along_number (L.right i) e (L.first i) b.living b.kind (acc.right_in i hi))));
  }

  abbrev finished_placing : Placing L finished
  finished_placing = record {
    at = at_of L s;
    counted = λ k r hk hr.
        let y = a.complete.landed k r hk hr in
        let w = y.0 in
        subst (λ m. m < count_of L s (L.kind_map k)) (sym (at_number k r w y.1))
        (subst (λ j. number L s w < count_of L s j) (a.kinds.fit (landing k r) w y.1).0 (number_counted w (held_living L acc s a (landing k r) w y.1)));
    in_step = λ i r hi hr.
        let x = a.complete.landed (L.source_from i) r (acc.from_in i hi) hr in
        let y = a.complete.landed (L.source_to i) (L.lead i r) (acc.to_in i hi) (acc.lead_in i r hi hr) in
        let f : Slot = landing (L.source_from i) r in
        ap (λ n. along (lead_of L s) n (L.link_map i)) (at_number (L.source_from i) r x.0 x.1)
        ∙ (along_number (L.link_map i) x.0 (L.kind_map (L.source_from i)) (held_living L acc s a f x.0 x.1) (a.kinds.fit f x.0 x.1).0 (acc.map_in i hi)
        ∙ (ap (number L s) (sym (ap (λ o. along (own L acc s a).lead (content o) (L.link_map i)) x.1) ∙ ((own_placing L acc s a).in_step i r hi hr ∙ ap content y.1))
        ∙ sym (at_number (L.source_to i) (L.lead i r) y.0 y.1)));
  }

  -- a reading of the table is a map of its register, and the other way round
  module _ (S : Receiver L) (Q : Placing L S) where
    read_maps : (ρ : ℕ → ℕ) → Reading L S Q s ρ → Maps L finished finished_placing S Q (λ k n. ρ (entry L s k n))
    read_maps ρ d = record {
      counted = λ k n h. let b = entry_is k n h in subst (λ j. ρ (entry L s k n) < S.count j) b.kind (d.counted (entry L s k n) b.living.0);
      in_step = λ l n hl h.
          let b = entry_is (L.from l) n h in
          let e = entry L s (L.from l) n in
          let y = a.complete.defined e l b.living.0 b.living.1 hl b.kind in
          let w = y.0 in
          ap (λ m. ρ (entry L s (L.to l) m)) (ap (λ o. on o 0 (number L s)) y.1)
          ∙ (ap ρ (entry_back w (L.to l) (held_living L acc s a (cell e l) w y.1) (a.kinds.fit (cell e l) w y.1).0)
          ∙ d.agrees (cell e l) w y.1);
      placed = λ k r hk hr.
          let y = a.complete.landed k r hk hr in
          let w = y.0 in
          ap (λ m. ρ (entry L s (L.kind_map k) m)) (at_number k r w y.1)
          ∙ (ap ρ (entry_back w (L.kind_map k) (held_living L acc s a (landing k r) w y.1) (a.kinds.fit (landing k r) w y.1).0)
          ∙ d.agrees (landing k r) w y.1);
    }

    abbrev through : (ℕ → ℕ → ℕ) → ℕ → ℕ
    through h e = h (s.kind e) (number L s (end s e))

    end_kind_same : (e : ℕ) → s.kind (end s e) ≡ s.kind e
    end_kind_same e = chase_keeps s.forward (λ y. s.kind y ≡ s.kind e) (λ y q. a.kinds.kept y ∙ q) e e refl

    through_living : (h : ℕ → ℕ → ℕ) (e k : ℕ) → Living s e → s.kind e ≡ k → through h e ≡ h k (number L s e)
    through_living h e k live q = ap (λ y. h (s.kind e) (number L s y)) (chase_fix s.forward e e live.1) ∙ ap (λ j. h j (number L s e)) q

    maps_read : (h : ℕ → ℕ → ℕ) → Maps L finished finished_placing S Q h → Reading L S Q s (through h)
    maps_read h m = record {
      counted = λ e b. m.counted (s.kind e) (number L s (end s e)) (subst (λ j. number L s (end s e) < count_of L s j) (end_kind_same e) (number_counted (end s e) (end_living L acc s a e b)));
      agrees = agree;
      forwards = λ e. ap (λ j. h j (number L s (end s (s.forward e)))) (a.kinds.kept e) ∙ ap (λ y. h (s.kind e) (number L s y)) (end_forward s.forward a.good.sound.lower e);
    }
      where
        agree : (t : Slot) (w : ℕ) → s.held t ≡ Some w → through h w ≡ worth S.lead Q.at (through h) t
        agree (cell e l) w c =
            let o = (a.good.sound.used (cell e l) w c).1 in
            let live = use_lives L s a.good a.complete.quiet e o.0 in
            let f = a.kinds.fit (cell e l) w c in
            through_living h w (L.to l) (held_living L acc s a (cell e l) w c) f.0
            ∙ (ap (h (L.to l)) (sym (lead_number l e w (o.0.below, live) f.1 c))
            ∙ (m.in_step l (number L s e) o.1 (subst (λ j. number L s e < count_of L s j) f.1 (number_counted e (o.0.below, live)))
            ∙ sym (ap (S.lead l) (through_living h e (L.from l) (o.0.below, live) f.1))))
        agree (landing k r) w c =
            let o = (a.good.sound.used (landing k r) w c).1 in
            through_living h w (L.kind_map k) (held_living L acc s a (landing k r) w c) (a.kinds.fit (landing k r) w c).0
            ∙ (ap (h (L.kind_map k)) (sym (at_number k r w c))
            ∙ m.placed k r o.0 o.1)

    -- a map is what its reading says of the entries
    map_is : (h : ℕ → ℕ → ℕ) (k n : ℕ) → n < count_of L s k → through h (entry L s k n) ≡ h k n
    map_is h k n b = let e = entry_is k n b in through_living h (entry L s k n) k e.living e.kind ∙ ap (h k) e.number

  pub extends : Extends L s
  extends = record {
    register = finished;
    placing = finished_placing;
    counts = refl;
    leads = refl;
    places = refl;
    writes = refl;
    universal = λ S Q.
        let one = one_reading L s a.good S Q in
        record {
          some = ((λ k n. one.some.0 (entry L s k n)), read_maps S Q one.some.0 one.some.1);
          only = λ g h p q k n b.
              sym (map_is S Q g k n b)
              ∙ (one.only (through S Q g) (through S Q h) (maps_read S Q g p) (maps_read S Q h q) (entry L s k n) (entry_is k n b).living.0
              ∙ map_is S Q h k n b);
        };
  }

pub finish_extends : FinishExtends
finish_extends L acc cs d = extends L acc (calls L cs start) (whole_calls L acc cs d)
