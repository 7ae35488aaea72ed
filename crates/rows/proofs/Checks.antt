-- Checks: the refusals by the tests of the code, and what a check finds and does.
use Rattle.std.proofs.Common.{◌≡◌, ℕ, ◌<◌, ◌≤◌, true, false, ◌&&◌, eqb, ltb, List, [], Some, None, Ok, Err, Option, Result, sym, refl, ap, ◌∙◌, subst, inl, inr, arith}
use Rattle.std.proofs.lemmas.Bool.{cases_Bool}
use Rattle.std.proofs.lemmas.Bool.Decides.{nat_tests}
use Rattle.words.specs.declared.faults.Refusal.{Refusal}
use Rattle.words.specs.declared.faults.Refusal.TheVariants as refusal
use Rattle.problems.specs.declared.Found.{Found}
use Rattle.machine.specs.Loaded.{Loaded}
use Rattle.machine.specs.State.{Slot, landing, waits, lives}
use Rattle.machine.specs.Walking.{walk, walk_in}
use Rattle.machine.specs.Checking.{Effect, sides, rule_effect, link_effect}
use Rattle.machine.specs.Calls.{rule_fault, link_fault}
use Rattle.machine.specs.Tables.{answered}
use Rattle.machine.proofs.Runs.{cond_some, cond_else}
use Rattle.rows.specs.declared.paths.Lead.{Lead}
use Rattle.rows.specs.Layout.{Raw, Tidy, Within, shown}
use Rattle.rows.specs.Walks.{Named}
use Rattle.rows.specs.Standing.{Stands, Parts, rule_of, led_effect, lead_of, Leads}
use Rattle.rows.proofs.Faults.{busy, calm}
use Rattle.rows.proofs.Named.{walk_in_comes, sides_named}
use Rattle.rows.proofs.Standing.{rule_named, map_links}
use Rattle.rows.proofs.Outline.{told_some, told_none}
use Rattle.rows.proofs.Leads.{led_there, there_is, lead_some, led_same}

-- what the code finds, by its tests
module _ (L : Loaded) (r : Raw) where
  module _ (e i : ℕ) where
    abbrev RuleTold : Result Effect Refusal → Type 0
    RuleTold z = z ≡ answered (rule_fault L (shown r) e i) (rule_effect L (shown r) e i)

    pub rule_waiting : 0 < r.waits → RuleTold (Err refusal.Waiting)
    rule_waiting h = rw (busy r h) refl

    module _ (quiet : r.waits ≤ 0) where
      pub rule_lost : None ≡ rule_of L i → RuleTold (Err refusal.NotLiving)
      rule_lost n =
          let t = told_none (ltb i L.rules) _ n in
          elim (cases_Bool (lives (shown r) e)) [ inl l ↦ rw (calm r quiet, l, t) refl | inr l ↦ rw (calm r quiet, l) refl ]

      module _ (x : Parts) (p : Some x ≡ rule_of L i) where
        is : (ltb i L.rules ≡ true) × (x ≡ (L.first i, L.left i, L.right i))
        is = told_some (ltb i L.rules) _ x p

        same_test : (lives (shown r) e && eqb ((shown r).kind e) x.0) ≡ (lives (shown r) e && (ltb i L.rules && eqb ((shown r).kind e) (L.first i)))
        same_test = ap (λ (z : Parts). lives (shown r) e && eqb ((shown r).kind e) z.0) is.1 ∙ rw is.0 refl

        pub rule_dead : false ≡ (lives (shown r) e && eqb ((shown r).kind e) x.0) → RuleTold (Err refusal.NotLiving)
        rule_dead h = let t = sym (h ∙ same_test) in rw (calm r quiet, t) refl

        pub rule_found : true ≡ (lives (shown r) e && eqb ((shown r).kind e) x.0) →
            (y : Effect) → y ≡ sides (walk (shown r).held e x.1) (walk (shown r).held e x.2) → RuleTold (Ok y)
        rule_found h y q =
            let t = sym (h ∙ same_test) in
            rw (calm r quiet, t) (ap Ok (q ∙ ap (λ (z : Parts). sides (walk (shown r).held e z.1) (walk (shown r).held e z.2)) is.1))

  module _ (i q : ℕ) where
    abbrev LinkTold : Result Effect Refusal → Type 0
    LinkTold z = z ≡ answered (link_fault L (shown r) i q) (link_effect L (shown r) i q)

    pub link_waiting : 0 < r.waits → LinkTold (Err refusal.Waiting)
    link_waiting h = rw (busy r h) refl

    module _ (quiet : r.waits ≤ 0) where
      pub link_lost : led_there L i q ≡ false → LinkTold (Err refusal.NotLiving)
      link_lost t = rw (calm r quiet, t) refl

      pub link_found : (x : Lead) → Some x ≡ lead_of L i q → (path : List ℕ) → path ≡ L.link_map i → (y : Effect) → y ≡ led_effect (shown r) x path → LinkTold (Ok y)
      link_found x p path e y h = let t = (lead_some L i q x p).2 in rw (calm r quiet, t) (ap Ok (h ∙ led_same L i q (shown r) x p path e))

-- what is not refused
told_ok : {X : Type 0} (o : Option Refusal) (x y : X) → Ok y ≡ answered o x → (o ≡ None) × (y ≡ x)
told_ok None x y h = (refl, cc)
told_ok (Some f) x y h = absurd (let z : ◌≡◌ {A = ℕ} 0 1 = cc in omega arith)

-- what is found where nothing stands against it names what is there
module _ (L : Loaded) (r : Raw) (tidy : Tidy r) where
  module _ (e i : ℕ) where
    -- the entry was given
    rule_given : rule_fault L (shown r) e i ≡ None → e < r.given
    rule_given h =
        let a = cond_some (waits (shown r).waiting) refusal.Waiting _ h in
        let b = cond_else (lives (shown r) e && (ltb i L.rules && eqb ((shown r).kind e) (L.first i))) refusal.NotLiving None a.1 in
        let c = b.0 in
        grind (arith, nat_tests)

    pub rule_acts : (f : Found) → Stands L r f → (y : Effect) → Ok y ≡ answered (rule_fault L (shown r) e i) (rule_effect L (shown r) e i) → Named r y
    rule_acts f st y p =
        let a = told_ok (rule_fault L (shown r) e i) (rule_effect L (shown r) e i) y p in
        subst (Named r) (sym a.1) (rule_named L r f st i tidy e (rule_given a.0))

  module _ (f : Found) (i : ℕ) (x : Lead) (l : Leads L r f i x) where
    within_landing : (k n : ℕ) → k < L.source_kinds → n < L.count k → Within r.shape r.given (landing k n)
    within_landing k n h m =
        let a : k < r.shape.kinds = omega (arith, l.carries.kinds) in
        (a, omega (arith, l.carries.counts k a))

    pub link_acts : (y : Effect) → Ok y ≡ answered (link_fault L (shown r) i x.q) (link_effect L (shown r) i x.q) → Named r y
    link_acts y p =
        let a = told_ok (link_fault L (shown r) i x.q) (link_effect L (shown r) i x.q) y p in
        let b = cond_some (waits (shown r).waiting) refusal.Waiting _ a.0 in
        let c = there_is L i x.q (cond_else (led_there L i x.q) refusal.NotLiving None b.1).0 in
        let to : Slot = landing (L.source_to i) (L.lead i x.q) in
        let from : Slot = landing (L.source_from i) x.q in
        subst (Named r) (sym a.1) (sides_named r tidy (walk_in (shown r).held to []) (walk_in (shown r).held from (L.link_map i))
        (walk_in_comes r tidy [] to (within_landing (L.source_to i) (L.lead i x.q) (l.accepted.to_in i c.0) (l.accepted.lead_in i x.q c.0 c.1)) tt)
        (walk_in_comes r tidy (L.link_map i) from (within_landing (L.source_from i) x.q (l.accepted.from_in i c.0) c.1) (map_links L r f l.stands i)))
