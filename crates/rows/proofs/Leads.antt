-- Where the source's links lead, by the words of a table.
use Rattle.std.proofs.Common.{◌≡◌, ℕ, suc, ◌+◌, ◌<◌, Bool, true, false, ◌&&◌, ltb, List, length, get_or, Some, None, sym, refl, ap, ◌∙◌, subst, inl, inr, arith, unwrap_or, slice_get, Option}
use Rattle.std.proofs.lemmas.Option.{unwrap_or-slice_get}
use Rattle.std.proofs.Math.Bridge.{le_prop}
use Rattle.std.proofs.Math.Logic.{∥∥₁_elim}
use Rattle.std.proofs.lemmas.Bool.{lt-ltb, and_parts, ltb-true}
use Rattle.std.proofs.lemmas.Bool.Decides.{nat_tests, leb_tells}
use Rattle.problems.specs.declared.Found.{Found}
use Rattle.problems.specs.Seen.{ends_of}
use Rattle.machine.specs.Loaded.{Loaded}
use Rattle.machine.specs.State.{State, landing}
use Rattle.machine.specs.Checking.{link_effect}
use Rattle.rows.specs.declared.paths.Lead.{Lead}
use Rattle.rows.specs.Layout.{Raw, inside}
use Rattle.rows.specs.Standing.{Leads, Holds, Holding, led_effect, lead_of}
use Rattle.rows.proofs.Outline.{told_some, told_none, source_links_are, source_few, ends_some}

-- where there is such a link and record, and where not
module _ (L : Loaded) (i q : ℕ) where
  abbrev pub led_there : Bool
  led_there = ltb i L.source_links && ltb q (L.count (L.source_from i))

  abbrev led : Lead
  led = record { from = L.source_from i; q = q; to = L.source_to i; led = L.lead i q }

  pub there_is : led_there ≡ true → (i < L.source_links) × (q < L.count (L.source_from i))
  there_is h = let b = and_parts (ltb i L.source_links) (ltb q (L.count (L.source_from i))) h in (ltb-true i L.source_links b.0, ltb-true q (L.count (L.source_from i)) b.1)

  pub there : i < L.source_links → q < L.count (L.source_from i) → led_there ≡ true
  there h k = grind (arith, nat_tests)

  pub lead_some : (x : Lead) → Some x ≡ lead_of L i q → (i < L.source_links) × (q < L.count (L.source_from i)) × (led_there ≡ true) × (x ≡ led)
  lead_some x p = let t = told_some led_there led x p in let h = there_is t.0 in (h.0, h.1, t.0, t.1)

  pub lead_lost : None ≡ lead_of L i q → led_there ≡ false
  lead_lost p = told_none led_there led p

  -- what its check finds is what the machine's finds
  pub led_same : (s : State) (x : Lead) → Some x ≡ lead_of L i q → (path : List ℕ) → path ≡ L.link_map i → led_effect s x path ≡ link_effect L s i q
  led_same s x p path e = let h = (lead_some x p).3 in λ j. led_effect s (h j) (e j)

-- by a record that says where the link leads
module _ (L : Loaded) (r : Raw) (f : Found) (i : ℕ) (x : Lead) (l : Leads L r f i x) where
  pub same_test : (ltb i f.source.links && inside r.shape r.given (landing x.from x.q)) ≡ led_there L i x.q
  same_test = let n = source_links_are L r f l.stands in elim (leb_tells (suc i) L.source_links) [
    | inl t ↦ (
        let a : L.source_from i ≡ x.from = l.from t.1 in
        let k : x.from < r.shape.kinds = omega (arith, a, l.accepted.from_in i t.1, l.carries.kinds) in
        let b : ltb x.from r.shape.kinds ≡ true = grind (arith, nat_tests) in
        rw (n, t.0, b, a, l.carries.counts x.from k) refl)
    | inr t ↦ rw (n, t.0) refl
  ]

  pub leads_there : led_there L i x.q ≡ true → Some x ≡ lead_of L i x.q
  leads_there t =
      let c = there_is L i x.q t in
      let a = l.from c.0 in
      let b = l.to c.0 in
      let d = l.led c.0 (subst (λ k. x.q < L.count k) a c.1) in
      rw t (λ j. Some (record { from = sym a j; q = x.q; to = sym b j; led = sym d j }))

-- by the words
module _ (L : Loaded) (r : Raw) (f : Found) (leads : List ℕ) (x : Holds L r f leads) (i q : ℕ) where
  module _ (e : ℕ × ℕ) (p : Some e ≡ ends_of f.source r.ws i) (b : Bool) (t : b ≡ inside r.shape r.given (landing e.0 q)) where
    ends : (i < L.source_links) × (e ≡ (L.source_from i, L.source_to i))
    ends = ends_some L r f x.stands i e p

    tested : b ≡ led_there L i q
    tested =
        let k : L.source_from i < r.shape.kinds = omega (arith, x.accepted.from_in i ends.0, x.carries.kinds) in
        let a : ltb (L.source_from i) r.shape.kinds ≡ true = lt-ltb (L.source_from i) r.shape.kinds k in
        let d : ltb i L.source_links ≡ true = lt-ltb i L.source_links ends.0 in
        t ∙ ap (λ (z : ℕ × ℕ). inside r.shape r.given (landing z.0 q)) ends.1 ∙ rw (a, d, x.carries.counts (L.source_from i) k) refl

    pub lead_none : b ≡ false → None ≡ lead_of L i q
    lead_none off = let z : led_there L i q ≡ false = sym tested ∙ off in rw z refl

    module _ (yes : b ≡ true) where
      is : (i < L.source_links) × (q < L.count (L.source_from i))
      is = there_is L i q (sym tested ∙ yes)

      lead_link : i < 64
      lead_link = omega (arith, ends.0, source_links_are L r f x.stands, source_few L r f x.stands)

      lead_in : get_or leads i 0 + q < length r.ws
      lead_in = (x.led i q is.0 is.1).0

      pub lead_is : Some (record { from = e.0; q = q; to = e.1; led = get_or r.ws (get_or leads i 0 + q) 0 }) ≡ lead_of L i q
      lead_is =
          let z : led_there L i q ≡ true = sym tested ∙ yes in
          let w = (x.led i q is.0 is.1).1 in
          rw z (λ j. Some (record { from = (ends.1 j).0; q = q; to = (ends.1 j).1; led = sym w j }))

-- where the leads of a link begin, as the code asks it
pub begins : (leads : List ℕ) (i : ℕ) (o : Option ℕ) (v : ℕ) → v ≡ unwrap_or o 0 → o ≡ slice_get leads i → v ≡ get_or leads i 0
begins leads i o v s g = s ∙ ap (λ o. unwrap_or o 0) g ∙ unwrap_or-slice_get leads i 0

-- the place of the lead, whatever the words hold
module _ (r : Raw) (f : Found) (leads : List ℕ) (x : ∥ Holding r f leads ∥₁) (i q : ℕ) (e : ℕ × ℕ) (p : Some e ≡ ends_of f.source r.ws i) (b : Bool) (t : b ≡ inside r.shape r.given (landing e.0 q)) (yes : b ≡ true) where
  pub lead_place : (o : Option ℕ) (v : ℕ) → v ≡ unwrap_or o 0 → o ≡ slice_get leads i → v + q < length r.ws
  lead_place o v s g =
      let m = begins leads i o v s g in
      let h = ∥∥₁_elim x le_prop (λ h. lead_in h.0 r f leads h.1 i q e p b t yes) in
      omega (arith, m, h)

-- a lead, whether there is one or not
module _ (L : Loaded) (r : Raw) (f : Found) (leads : List ℕ) (x : Holds L r f leads) (i q : ℕ) (e : ℕ × ℕ) (ends : i < L.source_links → (L.source_from i ≡ e.0) × (L.source_to i ≡ e.1)) where
  pub leads_so : (o : Option Lead) → o ≡ lead_of L i q → Leads L r f i (unwrap_or o (record { from = e.0; q = q; to = e.1; led = 0 }))
  leads_so None p = record {
    stands = x.stands;
    carries = x.carries;
    accepted = x.accepted;
    from = λ h. (ends h).0;
    to = λ h. (ends h).1;
    led = λ h k. absurd (
        let m = there L i q h (subst (λ j. q < L.count j) (sym (ends h).0) k) in
        let z : ◌≡◌ {A = ℕ} 0 1 = cc (m, lead_lost L i q p) in
        omega arith);
  }
  leads_so (Some y) p = subst (Leads L r f i) (sym (lead_some L i q y p).3)
      (record { stands = x.stands; carries = x.carries; accepted = x.accepted; from = λ h. refl; to = λ h. refl; led = λ h k. refl })

pub asks : (L : Loaded) (i q : ℕ) (d : Lead) → d.q ≡ q → (o : Option Lead) → o ≡ lead_of L i q → (unwrap_or o d).q ≡ q
asks L i q d e None p = e
asks L i q d e (Some y) p = ap (λ (z : Lead). z.q) (lead_some L i q y p).3
