-- The whole promise holds of every table, by what its type carries.
use Rattle.std.proofs.Common.{◌≡◌, length, Option, sym, refl, subst}
use mathlib.Core.Logic.{∥∥₁_map}
use Rattle.std.specs.Option.{ForSome}
use Rattle.bounded.specs.Listed.{listed}
use Rattle.machine.specs.Promise.{Promised}
use Rattle.machine.proofs.Promised.{promise}
use Rattle.rows.specs.declared.problem.Load.{Load}
use Rattle.rows.specs.Layout.{Raw}
use Rattle.rows.specs.View.{raw}
use Rattle.loading.specs.LoadedWords.{taken_shown}
use Rattle.table.specs.Reached.{Reached}
use Rattle.table.specs.Tabled.{origin, origin_of}
use Rattle.table.specs.Promises.{PromiseOf, KeepsPromise}
use Rattle.table.specs.declared.table.Table.{Table}

pub promised_by : (o : Option Load) (r : Raw) → ForSome o (λ l. ∥ Reached l r ∥₁) → PromiseOf o r
promised_by o r reached l is = ∥∥₁_map (reached l is) (λ (x : Reached l r).
    subst (Promised (origin (listed l.leads) r).0 (origin (listed l.leads) r).1 (taken_shown (listed l.leads) r)) (sym x.state)
    (promise (length r.ws) (origin (listed l.leads) r).0 (origin (listed l.leads) r).1 (taken_shown (listed l.leads) r) x.loads x.made))

pub promised : (t : Table) → KeepsPromise t
promised t = promised_by t.load (raw t.rows) t.reached

-- a call that leaves the table as it was, by what it answers
pub left : (t : Table) {A : Type 0} → A → record { after : A; kept : origin_of t ≡ origin_of t; promise : KeepsPromise t }
left t after = record { after = after; kept = refl; promise = promised t }
