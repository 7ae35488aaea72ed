-- What an accepted load is: a well-formed problem, a source of its shape, and what was taken of both.
use Rattle.std.proofs.Common.{◌≡◌, ℕ, zero, suc, ◌+◌, ◌<◌, ◌≤◌, false, not, eqb, ltb, List, [], ◌∷◌, length, get_or, Some, None, Ok, Err, Option, Result, sym, refl, ap, ◌∙◌, subst, arith}
use Rattle.std.proofs.ByRecursion.{All-get_or}
use Rattle.std.proofs.lemmas.Bool.{or_parts, not-false, and_parts, eqb-true, ltb-false}
use Rattle.words.specs.declared.faults.SchemaFault.{SchemaFault}
use Rattle.problems.specs.Problem.{Link, Problem, no_link, read}
use Rattle.problems.specs.Tokens.{no_rule}
use Rattle.problems.specs.Layout.{Walks, GoodLink, GoodRule, GoodMap, WellFormed}
use Rattle.words.specs.Numbered.{Each}
use Rattle.words.proofs.Inverse.{else_ok}
use Rattle.problems.proofs.Layouts.{read_layout}
use Rattle.registers.specs.Meaning.{Meaning}
use Rattle.registers.specs.Writing.{lowest, astray}
use Rattle.machine.specs.declared.answers.LoadFault.{LoadFault}
use Rattle.machine.specs.declared.answers.LoadFault.TheVariants as fault
use Rattle.machine.specs.Loaded.{Loaded}
use Rattle.machine.specs.Loading.{source_link, other_ends, other_shape, source_records, link_strays, needed, capacity_of, taken, with_problem, unless_strays, load_problem, load}
use Rattle.machine.specs.Readings.{Joins, end_kind, Accepted}
use Rattle.machine.specs.Finish.{with_capacity}
use Rattle.machine.specs.Promise.{TakenFrom}
use Rattle.registers.proofs.WrittenLists.{none_told, lowest_told}
use Rattle.machine.proofs.Tests.{lead_told}

-- the tests of a source passed
pub record Fits (p : Problem) (m : Meaning) : Type 0 where
  pub shape : other_shape p m ≡ false
  pub few : source_records p m ≤ 4095
  pub leads : lowest (link_strays p m) (length p.source_links) ≡ None

-- an accepted load
pub record Loads (work : ℕ) (ws : List ℕ) (m : Meaning) (L : Loaded) : Type 0 where
  pub problem : Problem
  pub reads : read ws ≡ Ok problem
  pub well_formed : WellFormed problem
  pub fits : Fits problem m
  pub room : needed ws problem m ≤ work
  pub takes : L ≡ taken problem m (capacity_of work ws problem m)

with_problem_told : (r : Result Problem SchemaFault) (f : Problem → Result Loaded LoadFault) (L : Loaded) → with_problem r f ≡ Ok L → (p : Problem) × (r ≡ Ok p) × (f p ≡ Ok L)
with_problem_told (Ok p) f L e = (p, refl, e)
with_problem_told (Err x) f L e = absurd (cc)

unless_strays_told : (o : Option ℕ) (r : Result Loaded LoadFault) (L : Loaded) → unless_strays o r ≡ Ok L → (o ≡ None) × (r ≡ Ok L)
unless_strays_told None r L e = (refl, e)
unless_strays_told (Some i) r L e = absurd (cc)

pub loads : (work : ℕ) (ws : List ℕ) (m : Meaning) (L : Loaded) → load work ws m ≡ Ok L → Loads work ws m L
loads work ws m L e =
    let t = with_problem_told (read ws) (load_problem work ws m) L e in
    let p = t.0 in
    let a = else_ok (other_shape p m) _ fault.Shape L t.2 in
    let b = else_ok (ltb 4095 (source_records p m)) _ fault.Large L a.1 in
    let c = unless_strays_told (lowest (link_strays p m) (length p.source_links)) _ L b.1 in
    let d = else_ok (ltb work (needed ws p m)) _ fault.Memory L c.1 in
    let q : ◌≡◌ {A = Result Loaded LoadFault} (Ok (taken p m (capacity_of work ws p m))) (Ok L) = d.1 in
    record {
      problem = p;
      reads = t.1;
      well_formed = (read_layout ws p t.1).1;
      fits = record { shape = a.0; few = ltb-false 4095 (source_records p m) b.0; leads = c.0 };
      room = ltb-false work (needed ws p m) d.0;
      takes = cc;
    }

-- the path of each source link is good
map_at : (ss : List Link) (km : List ℕ) (ts : List Link) (n : ℕ) (qs : List (List ℕ)) → Each (GoodMap ss km ts) n qs → (i j : ℕ) → n + i ≡ j → i < length qs → GoodMap ss km ts j (get_or qs i [])
map_at ss km ts n [] w i j e h = absurd (omega arith)
map_at ss km ts n (q ∷ qs) w zero j e h = let d : n ≡ j = omega arith in subst (λ k. GoodMap ss km ts k q) d w.0
map_at ss km ts n (q ∷ qs) w (suc i) j e h = map_at ss km ts (n + 1) qs w.1 i j (omega arith) (omega arith)

ends_told : (a : Link) (o : Option (ℕ × ℕ)) → other_ends a o ≡ false → o ≡ Some (a.from, a.to)
ends_told a None e = absurd (cc)
ends_told a (Some d) e =
    let t = and_parts (eqb d.0 a.from) (eqb d.1 a.to) (not-false _ e) in
    let p = eqb-true d.0 a.from t.0 in
    let q = eqb-true d.1 a.to t.1 in
    λ i. Some (p i, q i)

module _ (p : Problem) (m : Meaning) (c : ℕ) where
  -- a path that walks through the target's links joins them, and ends where it walks to
  walk_joins : (kind : ℕ) (gs : List ℕ) (end : ℕ) → Walks p.target_links kind gs end → Joins (taken p m c) kind gs
  walk_joins kind [] end w = tt
  walk_joins kind (g ∷ gs) end w = (w.0, sym w.1, walk_joins (get_or p.target_links g no_link).to gs end w.2)

  walk_ends : (kind : ℕ) (gs : List ℕ) (end : ℕ) → Walks p.target_links kind gs end → end_kind (taken p m c) kind gs ≡ end
  walk_ends kind [] end w = w
  walk_ends kind (g ∷ gs) end w = walk_ends (get_or p.target_links g no_link).to gs end w.2

  module _ (f : Fits p m) where
    lead_at : (i r : ℕ) → i < length p.source_links → r < m.count (source_link p i).from → (m.follow i r ≡ Some ((taken p m c).lead i r)) × ((taken p m c).lead i r < m.count (source_link p i).to)
    lead_at i r h k = lead_told (m.count (source_link p i).to) (m.follow i r)
        (none_told (λ q. astray (m.count (source_link p i).to) (m.follow i q)) (m.count (source_link p i).from) (lowest_told (link_strays p m) (length p.source_links) f.leads i h) r k)

    taken_accepted : WellFormed p → Accepted (taken p m c)
    taken_accepted w =
        let source = λ (i : ℕ) (h : i < length p.source_links). All-get_or (GoodLink p.source_kinds) p.source_links i no_link h w.source.known in
        let target = λ (l : ℕ) (h : l < length p.target_links). All-get_or (GoodLink p.target_kinds) p.target_links l no_link h w.target.known in
        let rule = λ (i : ℕ) (h : i < length p.rules). All-get_or (GoodRule p.target_kinds p.target_links) p.rules i no_rule h w.rules in
        let path = λ (i : ℕ) (h : i < length p.source_links). map_at p.source_links p.kind_map p.target_links 0 p.link_map w.maps i i (omega arith) (omega (arith, w.maps_full)) in
        record {
          from_known = λ l h. (target l h).from_known;
          to_known = λ l h. (target l h).to_known;
          map_known = λ k h. All-get_or (λ j. j < p.target_kinds) p.kind_map k 0 (omega (arith, w.kinds_full)) w.kinds;
          from_in = λ i h. (source i h).from_known;
          to_in = λ i h. (source i h).to_known;
          lead_in = λ i r h k. (lead_at i r h k).1;
          left_in = λ i h. walk_joins _ _ _ (rule i h).left_walks;
          right_in = λ i h. walk_joins _ _ _ (rule i h).right_walks;
          one_end = λ i h. walk_ends _ _ _ (rule i h).left_walks ∙ sym (walk_ends _ _ _ (rule i h).right_walks);
          map_in = λ i h. walk_joins _ _ _ (path i h).walks;
          map_end = λ i h. walk_ends _ _ _ (path i h).walks;
        }

    taken_taken : TakenFrom m (taken p m c)
    taken_taken =
        let a = or_parts (not (eqb m.kinds p.source_kinds)) _ f.shape in
        let b = or_parts (not (eqb m.links (length p.source_links))) _ a.1 in
        record {
          kinds = sym (eqb-true m.kinds p.source_kinds (not-false _ a.0));
          links = sym (eqb-true m.links (length p.source_links) (not-false _ b.0));
          counts = refl;
          ends = λ i h. ends_told (source_link p i) (m.ends i) (none_told (λ j. other_ends (source_link p j) (m.ends j)) (length p.source_links) b.1 i h);
          leads = λ i r h k. (lead_at i r h k).0;
        }

module _ (work : ℕ) (ws : List ℕ) (m : Meaning) (L : Loaded) (e : load work ws m ≡ Ok L) where
  pub accepted : Accepted L
  accepted = let l = loads work ws m L e in subst Accepted (sym l.takes) (taken_accepted l.problem m _ l.fits l.well_formed)

  pub taken_from : TakenFrom m L
  taken_from = let l = loads work ws m L e in subst (TakenFrom m) (sym l.takes) (taken_taken l.problem m _ l.fits)

  -- another load of the same words and meaning has another capacity, and no more
  pub same_load : (work' : ℕ) (K : Loaded) → load work' ws m ≡ Ok K → K ≡ with_capacity K.capacity L
  same_load work' K d =
      let l = loads work ws m L e in
      let k = loads work' ws m K d in
      let q : ◌≡◌ {A = Result Problem SchemaFault} (Ok k.problem) (Ok l.problem) = sym k.reads ∙ l.reads in
      let p : k.problem ≡ l.problem = cc in
      let c : capacity_of work' ws k.problem m ≡ K.capacity = ap (λ M. M.capacity) (sym k.takes) in
      k.takes ∙ ((λ i. taken (p i) m (c i)) ∙ ap (with_capacity K.capacity) (sym l.takes))
