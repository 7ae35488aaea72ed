-- What an accepted problem's outline says, and how a load is tested.
use Rattle.std.proofs.Common.{◌≡◌, ℕ, ◌+◌, ◌-◌, ◌*◌, ◌/◌, ◌<◌, ◌≤◌, min, Bool, true, false, cond, ltb, List, length, take, Some, None, Ok, Err, Option, Result, sym, refl, ap, ◌∙◌, subst, mul-le-mul_right, div-mul-le_self, arith}
use native.Mathlib.Nat.{min-le_left, min-le_right}
use Rattle.std.proofs.lemmas.Bool.{lt-ltb, le-ltb}
use Rattle.bounded.specs.Listed.{listed}
use Rattle.words.proofs.Laid.{ok_same, end_told}
use Rattle.problems.specs.declared.Found.{Found}
use Rattle.problems.specs.Problem.{Problem, read}
use Rattle.problems.specs.Shown.{told, source_of, outline_of}
use Rattle.problems.proofs.Accepting.{outline_ok}
use Rattle.problems.proofs.Layouts.{read_layout}
use Rattle.problems.proofs.Problems.{problem_told}
use Rattle.registers.specs.Meaning.{Meaning, Lawful}
use Rattle.registers.specs.Writing.{lowest, upto}
use Rattle.machine.specs.declared.answers.LoadFault.{LoadFault}
use Rattle.machine.specs.declared.answers.LoadFault.TheVariants as fault
use Rattle.machine.specs.Loaded.{Loaded}
use Rattle.machine.specs.Loading.{sum, source_link, other_shape, source_records, link_strays, needed, capacity_of, taken, with_problem, unless_strays, load_problem, load}
use Rattle.rows.proofs.Outline.{schema_read, link_in, link_ends}
use Rattle.rows.specs.Sources.{kinds_of, counts_of, starts_of}
use Rattle.loading.specs.LoadedWords.{or_no_problem, problem_in, Sourced, leaving}
use Rattle.loading.specs.Taking.{Planned}
use Rattle.loading.specs.declared.Loading.{Loading}

problem_sourced : (ws : List ℕ) (p : Problem) → read ws ≡ Ok p → problem_in ws ≡ p → Sourced ws (source_of p)
problem_sourced ws p e same =
    let w = (read_layout ws p e).1 in
    let r = schema_read 0 ws 0 p.source_kinds p.source_links (problem_told ws p e).sourced in
    let at = link_ends p.source_kinds ws 1 p.source_links r in
    let d = end_told ws _ _ (problem_told ws p e).closed in
    let n : length ws ≤ 268435456 = omega (arith, d.0.small, d.1) in
    record {
      kinds = ap (λ q. q.source_kinds) (sym same);
      links = ap (λ q. length q.source_links) (sym same);
      few_kinds = w.source.few;
      few_links = w.source.few_links;
      short = n;
      inside = link_in p.source_kinds ws 1 p.source_links r;
      from = λ i h. (at i h).0 ∙ ap (λ q. (source_link q i).from) (sym same);
      to = λ i h. (at i h).1 ∙ ap (λ q. (source_link q i).to) (sym same);
    }

-- the tests behind the problem's own, by their answers
abbrev tests : Bool → Bool → Option ℕ → Bool → Loaded → Result Loaded LoadFault
tests a b o d L = cond a (Err fault.Shape) (cond b (Err fault.Large) (unless_strays o (cond d (Err fault.Memory) (Ok L))))

module _ (a b : Bool) (o : Option ℕ) (d : Bool) (L : Loaded) where
  first : a ≡ true → tests a b o d L ≡ Err fault.Shape
  first e = rw e refl

  second : a ≡ false → b ≡ true → tests a b o d L ≡ Err fault.Large
  second e f = rw (e, f) refl

  third : (i : ℕ) → a ≡ false → b ≡ false → o ≡ Some i → tests a b o d L ≡ Err (fault.Leads i)
  third i e f h = rw (e, f, h) refl

  fourth : a ≡ false → b ≡ false → o ≡ None → d ≡ true → tests a b o d L ≡ Err fault.Memory
  fourth e f h k = rw (e, f, h, k) refl

  passed : a ≡ false → b ≡ false → o ≡ None → d ≡ false → tests a b o d L ≡ Ok L
  passed e f h k = rw (e, f, h, k) refl

module _ (ws : List ℕ) (f : Found) (t : told (Ok f) ≡ outline_of (read ws)) where
  pub reads : read ws ≡ Ok (problem_in ws)
  unfolding problem_in
  reads = let x = outline_ok (read ws) _ t in x.1 ∙ ap Ok (sym (ap or_no_problem x.1))

  pub sourced : Sourced ws f.source
  sourced =
      let same = ok_same (sym (t ∙ ap outline_of reads)) in
      subst (Sourced ws) (sym (ap (λ s. s.source) same)) (problem_sourced ws (problem_in ws) reads refl)

  pub targets : (f.target.links ≡ length (problem_in ws).target_links) × (f.target.links ≤ 64)
  targets =
      let same = ok_same (sym (t ∙ ap outline_of reads)) in
      let e : f.target.links ≡ length (problem_in ws).target_links = ap (λ s. s.target.links) same in
      let h = (read_layout ws (problem_in ws) reads).1.target.few_links in
      (e, omega arith)

  module _ (work : ℕ) (m : Meaning) where
    abbrev shape : Bool
    shape = other_shape (problem_in ws) m

    abbrev large : Bool
    large = ltb 4095 (source_records (problem_in ws) m)

    abbrev stray : Option ℕ
    stray = lowest (link_strays (problem_in ws) m) (length (problem_in ws).source_links)

    abbrev short : Bool
    short = ltb work (needed ws (problem_in ws) m)

    abbrev took : Loaded
    took = taken (problem_in ws) m (capacity_of work ws (problem_in ws) m)

    load_tests : load work ws m ≡ tests shape large stray short took
    load_tests = ap (λ r. with_problem r (load_problem work ws m)) reads

    pub refused_shape : true ≡ shape → load work ws m ≡ Err fault.Shape
    refused_shape a = load_tests ∙ first shape large stray short took (sym a)

    -- the records and the words as the code has counted them
    module _ (a : false ≡ shape) (n : ℕ) (records : n ≡ sum m.count f.source.kinds) where
      counted : n ≡ source_records (problem_in ws) m
      counted = records ∙ ap (sum m.count) sourced.kinds

      pub refused_large : 4095 < n → load work ws m ≡ Err fault.Large
      refused_large h = let P : ℕ → Type 0 = λ k. 4095 < k in load_tests ∙ second shape large stray short took (sym a) (lt-ltb 4095 (source_records (problem_in ws) m) (subst P counted h))

      module _ (h : n ≤ 4095) where
        few : large ≡ false
        few = let P : ℕ → Type 0 = λ k. k ≤ 4095 in le-ltb 4095 (source_records (problem_in ws) m) (subst P counted h)

        pub refused_leads : (i : ℕ) → Some i ≡ stray → load work ws m ≡ Err (fault.Leads i)
        refused_leads i o = load_tests ∙ third shape large stray short took i (sym a) few (sym o)

        module _ (o : None ≡ stray) (base : ℕ) (leads : base ≡ length ws + n + sum (leaving (problem_in ws) m.count) f.source.links) where
          whole : base ≡ needed ws (problem_in ws) m
          whole = leads ∙ ap (λ k. length ws + k + sum (leaving (problem_in ws) m.count) f.source.links) counted
              ∙ ap (λ k. length ws + source_records (problem_in ws) m + sum (leaving (problem_in ws) m.count) k) sourced.links

          pub refused_memory : work < base → load work ws m ≡ Err fault.Memory
          refused_memory k = let P : ℕ → Type 0 = λ n. work < n in
              load_tests ∙ fourth shape large stray short took (sym a) few (sym o) (lt-ltb work (needed ws (problem_in ws) m) (subst P whole k))

          pub loaded : (capacity : ℕ) → base ≤ work → capacity ≡ min 65535 ((work - base) / (f.target.links + 3)) → load work ws m ≡ Ok (taken (problem_in ws) m capacity)
          loaded capacity k c =
              let P : ℕ → Type 0 = λ n. n ≤ work in
              let same : capacity_of work ws (problem_in ws) m ≡ capacity =
              ap (λ x. min 65535 ((work - x) / (length (problem_in ws).target_links + 3))) (sym whole) ∙ ap (λ x. min 65535 ((work - base) / (x + 3))) (sym targets.0) ∙ sym c in
              load_tests ∙ passed shape large stray short took (sym a) few (sym o) (le-ltb work (needed ws (problem_in ws) m) (subst P whole k)) ∙ ap (λ x. Ok (taken (problem_in ws) m x)) same

-- as many entries as the words behind the copies hold
capacity_fits : (work base links : ℕ) → base ≤ work → base + min 65535 ((work - base) / (links + 3)) * (links + 3) ≤ work
capacity_fits work base links h =
    let q = (work - base) / (links + 3) in
    let a = mul-le-mul_right (links + 3) (min-le_right 65535 q) in
    let b = div-mul-le_self (work - base) (links + 3) in
    omega arith

-- all tests are passed
module _ (work : ℕ) (ws : List ℕ) (m : Meaning) (l : Loading) (t : told (Ok l.load.found) ≡ outline_of (read ws)) where
  pub planned : (next : ℕ) → Lawful m → false ≡ other_shape (problem_in ws) m → l.lands ≡ length ws → kinds_of l.source ≡ l.load.found.source.kinds
      → counts_of l.source ≡ upto m.count (kinds_of l.source)
      → starts_of l.source ≡ upto (λ k. l.lands + sum m.count k) (kinds_of l.source)
      → next ≡ l.lands + sum m.count (kinds_of l.source) → l.records ≡ next - l.lands → l.records ≤ 4095
      → None ≡ lowest (link_strays (problem_in ws) m) (length (problem_in ws).source_links)
      → listed l.load.leads ≡ upto (λ i. next + sum (leaving (problem_in ws) m.count) i) l.load.found.source.links
      → l.base ≡ next + sum (leaving (problem_in ws) m.count) l.load.found.source.links → l.base ≤ work → l.links ≡ l.load.found.target.links
      → l.capacity ≡ min 65535 ((work - l.base) / (l.links + 3)) → Planned work ws m l
  planned next lawful a lands kinds counts starts n records few o leads base room links capacity =
      let s = sourced ws l.load.found t in
      let g = targets ws l.load.found t in
      let c : l.records ≡ sum m.count (kinds_of l.source) = omega arith in
      let d : next ≡ l.lands + l.records = omega arith in
      let b : l.base ≡ l.lands + l.records + sum (leaving (problem_in ws) m.count) l.load.found.source.links = omega arith in
      let w : l.base ≡ length ws + l.records + sum (leaving (problem_in ws) m.count) l.load.found.source.links = omega arith in
      let k = min-le_left 65535 ((work - l.base) / (l.links + 3)) in
      let f = capacity_fits work l.base l.links room in
      record {
        told = t;
        sourced = s;
        lawful = lawful;
        load = loaded ws l.load.found t work m a l.records (c ∙ ap (sum m.count) kinds) few o l.base w l.capacity room (capacity ∙ ap (λ x. min 65535 ((work - l.base) / (x + 3))) links);
        kinds = kinds;
        counts = counts;
        starts = starts;
        leads = leads ∙ ap (λ x. upto (λ i. x + sum (leaving (problem_in ws) m.count) i) l.load.found.source.links) d;
        lands = lands;
        records = c;
        lot = omega arith;
        base = b;
        links = links ∙ g.0;
        narrow = omega arith;
        small = omega arith;
        room = rw capacity f;
      }
