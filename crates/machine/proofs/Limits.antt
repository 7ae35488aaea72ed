-- What an accepted load keeps within the limits of a register file.
use Rattle.std.proofs.Common.{◌≡◌, ℕ, zero, suc, ◌<◌, ◌≤◌, List, Ok, sym, subst, ⊎_elim, arith}
use Rattle.std.proofs.lemmas.Bool.{cases_lt}
use Rattle.registers.specs.Meaning.{Meaning}
use Rattle.machine.specs.Loaded.{Loaded}
use Rattle.machine.specs.Loading.{sum, load}
use Rattle.machine.proofs.Loads.{loads}

pub record Limits (L : Loaded) : Type 0 where
  pub kinds : L.target_kinds ≤ 32
  pub links : L.links ≤ 64
  pub entries : L.capacity ≤ 65535
  pub source_kinds : L.source_kinds ≤ 32
  pub records : (k : ℕ) → k < L.source_kinds → L.count k ≤ 4095

-- each part is at most the sum
sum_part : (f : ℕ → ℕ) (n k : ℕ) → k < n → f k ≤ sum f n
unfolding sum
sum_part f zero k h = absurd (omega arith)
sum_part f (suc n) k h = ⊎_elim
    (λ (q : k < n). let r = sum_part f n k q in omega arith)
    (λ (q : n ≤ k). let e : k ≡ n = omega arith in rw e (omega arith))
    (cases_lt k n)

pub load_limits : (work : ℕ) (ws : List ℕ) (m : Meaning) (L : Loaded) → load work ws m ≡ Ok L → Limits L
load_limits work ws m L e =
    let l = loads work ws m L e in
    let p = l.problem in
    let w = l.well_formed in
    subst Limits (sym l.takes) (record {
      kinds = w.target.few;
      links = w.target.few_links;
      entries = omega arith;
      source_kinds = w.source.few;
      records = λ k h. let r = sum_part m.count p.source_kinds k h in omega (arith, l.fits.few);
    })
