-- Nothing but the calls looks at the capacity.
use Rattle.std.proofs.Common.{◌≡◌, ℕ, List, [], ◌∷◌, Some, sym, refl, ◌∙◌}
use Rattle.machine.specs.Loaded.{Loaded}
use Rattle.machine.specs.State.{Slot, cell, landing, State}
use Rattle.machine.specs.Readings.{Accepted, Joins, end_kind}
use Rattle.machine.specs.Sound.{InUse, Owner, Sound, Kinds, content_kind, Leaves}
use Rattle.machine.specs.Complete.{Complete}
use Rattle.machine.specs.Finish.{with_capacity}
use Rattle.machine.proofs.Wide.{Receiver, Placing, Reading, Good}

-- a complete table, with what every table keeps
pub record Whole (L : Loaded) (s : State) : Type 0 where
  pub good : Good L s
  pub kinds : Kinds L s
  pub complete : Complete L s

module _ (c : ℕ) (L : Loaded) where
  joins_at : (k : ℕ) (ls : List ℕ) → Joins L k ls → Joins (with_capacity c L) k ls
  joins_at k [] j = tt
  joins_at k (l ∷ ls) j = (j.0, j.1, joins_at (L.to l) ls j.2)

  end_at : (k : ℕ) (ls : List ℕ) → end_kind (with_capacity c L) k ls ≡ end_kind L k ls
  end_at k [] = refl
  end_at k (l ∷ ls) = end_at (L.to l) ls

  pub accepted_at : Accepted L → Accepted (with_capacity c L)
  accepted_at acc = record {
    from_known = acc.from_known;
    to_known = acc.to_known;
    map_known = acc.map_known;
    from_in = acc.from_in;
    to_in = acc.to_in;
    lead_in = acc.lead_in;
    left_in = λ i h. joins_at (L.first i) (L.left i) (acc.left_in i h);
    right_in = λ i h. joins_at (L.first i) (L.right i) (acc.right_in i h);
    one_end = λ i h. end_at (L.first i) (L.left i) ∙ (acc.one_end i h ∙ sym (end_at (L.first i) (L.right i)));
    map_in = λ i h. joins_at (L.kind_map (L.source_from i)) (L.link_map i) (acc.map_in i h);
    map_end = λ i h. end_at (L.kind_map (L.source_from i)) (L.link_map i) ∙ acc.map_end i h;
  }

  module _ (s : State) where
    used_of : Sound (with_capacity c L) s → (t : Slot) (w : ℕ) → s.held t ≡ Some w → InUse s w × Owner L s t
    used_of ok (cell e l) w h = ok.used (cell e l) w h
    used_of ok (landing k r) w h = ok.used (landing k r) w h

    fit_of : Kinds (with_capacity c L) s → (t : Slot) (w : ℕ) → s.held t ≡ Some w → (s.kind w ≡ content_kind L t) × Leaves L s t
    fit_of ks (cell e l) w h = ks.fit (cell e l) w h
    fit_of ks (landing k r) w h = ks.fit (landing k r) w h

    module _ (R : Receiver L) (P : Placing L R) where
      abbrev same_receiver : Receiver (with_capacity c L)
      same_receiver = record { has = R.has; lead = R.lead; inside = R.inside; keeps = R.keeps }

      abbrev same_placing : Placing (with_capacity c L) same_receiver
      same_placing = record { at = P.at; counted = P.counted; in_step = P.in_step }

      read_of : Good (with_capacity c L) s → (ρ : ℕ → ℕ) × Reading L R P s ρ
      read_of g = let r = g.read same_receiver same_placing in (r.0, record { counted = r.1.counted; agrees = r.1.agrees; forwards = r.1.forwards })

    pub whole_of : Whole (with_capacity c L) s → Whole L s
    whole_of w =
        let ok = w.good.sound in
        let d = w.complete in
        record {
          good = record { sound = record { lower = ok.lower; fresh = ok.fresh; dead = ok.dead; used = used_of ok }; read = λ R P. read_of R P w.good; reached = w.good.reached };
          kinds = record { kept = w.kinds.kept; fit = fit_of w.kinds };
          complete = record { quiet = d.quiet; landed = d.landed; defined = d.defined; links_closed = d.links_closed; rules_closed = d.rules_closed };
        }
