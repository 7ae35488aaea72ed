-- What the type of a table keeps, after opening and after a load.
use Rattle.std.proofs.Common.{◌≡◌, ℕ, List, [], length, Some, None, sym, refl, ap, ◌∙◌, arith}
use Rattle.problems.specs.Problem.{read}
use Rattle.problems.specs.Shown.{outline_of}
use Rattle.registers.specs.Meaning.{Meaning}
use Rattle.machine.specs.Loading.{sum, load}
use Rattle.machine.specs.Shift.{calls}
use Rattle.rows.specs.declared.problem.Load.{Load}
use Rattle.rows.specs.Layout.{Raw, Fits}
use Rattle.rows.proofs.Bridge.{tidy_start}
use Rattle.loading.specs.Taking.{fresh, TakenIn}
use Rattle.loading.specs.declared.Loading.{Loading}
use Rattle.table.specs.Reached.{Reached}
use Rattle.table.specs.Promises.{PromiseOf}
use Rattle.table.proofs.After.{Kept, of_some}
use Rattle.table.proofs.Promises.{promised_by}

-- words with nothing in them
abbrev pub nothing : List ℕ → ℕ → List ℕ → List ℕ → Raw
nothing ws kinds counts starts =
    record { ws = ws; shape = record { kinds = kinds; counts = counts; starts = starts; lands = 0; records = 0; base = 0; links = 0; capacity = 0 }; given = 0; front = 0; waits = 0 }

module _ (ws : List ℕ) (kinds : ℕ) (counts starts : List ℕ) (none : kinds ≡ 0) where
  pub fits : Fits (nothing ws kinds counts starts)
  unfolding sum
  fits = record {
    below = omega arith;
    room = omega arith;
    few = omega arith;
    small = omega arith;
    narrow = omega arith;
    lot = omega arith;
    sorts = omega arith;
    stacked = λ k h. absurd (omega (arith, h));
    total = rw none refl;
  }

  pub opened : Kept None (nothing ws kinds counts starts)
  opened = record { tidy = tidy_start (nothing ws kinds counts starts) fits refl refl (λ i h. absurd (omega (arith, h))) refl; reached = λ l e. cc }

-- an accepted load: no call was made yet
module _ (old ws : List ℕ) (m : Meaning) (l : Loading) (new : List ℕ) (taken : TakenIn old ws m l new) (size : length new ≡ length old) where
  reached : Reached l.load (fresh l new)
  unfolding calls
  reached = record {
    loads = (λ j. load (size j) (taken.problem j) (taken.copied j)) ∙ taken.load;
    outline = taken.told ∙ ap (λ v. outline_of (read v)) (sym taken.problem);
    placed = taken.placed;
    carries = taken.carries;
    made = [];
    state = taken.starts;
  }

  pub kept : Kept (Some l.load) (fresh l new)
  kept = record { tidy = taken.tidy; reached = of_some (λ (x : Load). ∥ Reached x (fresh l new) ∥₁) _ _ refl ∣ reached ∣₁ }

  pub promise : PromiseOf (Some l.load) (fresh l new)
  promise = promised_by _ _ kept.reached
