-- The wheel, and the blank layer over a lawful register, keep to the laws of registers; and that a register does has at most one proof.
use Rattle.std.proofs.Common.{◌≡◌, ℕ, ◌+◌, Bool, true, false, cond, ltb, List, length, Some, None, Option, sym, refl, ap, arith}
use Rattle.std.proofs.lemmas.Bool.Decides.{nat_tests}
use Rattle.registers.specs.Meaning.{Meaning, Given, Lawful}
use Rattle.std.specs.Coded.{Unit-prop}
use Rattle.std.proofs.Props.{props}
use Rattle.registers.specs.Wheels.{wheel}
use Rattle.registers.specs.Blanks.{blank, less_one}

-- ends that are there are these
pub same_ends : (b : Bool) (from to : ℕ) (e : ℕ × ℕ) → cond b (Some (from, to)) None ≡ Some e → e.0 ≡ from
same_ends true from to e q = let h : ◌≡◌ {A = ℕ × ℕ} (from, to) e = cc in ap (λ x. x.0) (sym h)
same_ends false from to e q = absurd (let z : ◌≡◌ {A = ℕ} 0 1 = cc in omega arith)

pub wheel_lawful : (m : ℕ) (steps : List ℕ) → Lawful (wheel m steps)
wheel_lawful m steps = record {
  unknown_kind = λ k h. grind (arith, nat_tests);
  known_link = λ l h. let t : ltb l (length steps) ≡ true = grind (arith, nat_tests) in rw t tt;
  unknown_link = λ l h. grind (arith, nat_tests);
  leads_unknown = λ l r h. grind (arith, nat_tests);
  leads_uncounted = λ l r e q h. let k = same_ends (ltb l (length steps)) 0 0 e q in grind (arith, nat_tests);
}

leads_nothing : (m : Meaning) (l r : ℕ) (b : Bool) → m.follow l (r + 1) ≡ None → cond b (less_one (m.follow l (r + 1))) None ≡ None
leads_nothing m l r true h = rw h refl
leads_nothing m l r false h = refl

pub blank_lawful : (m : Meaning) → Lawful m → Lawful (blank m)
blank_lawful m w = record {
  unknown_kind = λ k h. let e = w.unknown_kind k h in omega (arith, e);
  known_link = w.known_link;
  unknown_link = w.unknown_link;
  leads_unknown = λ l r h. leads_nothing m l r _ (w.leads_unknown l (r + 1) h);
  leads_uncounted = λ l r e q h. leads_nothing m l r _ (w.leads_uncounted l (r + 1) e q (omega (arith, h)));
}

given_prop : {X : Type 0} (o : Option X) → IsProp (Given o)
given_prop (Some x) = Unit-prop
given_prop None = λ x y. absurd x

pub lawful_prop : (m : Meaning) → IsProp (Lawful m)
lawful_prop m = Prim.hlevel (props, given_prop)
