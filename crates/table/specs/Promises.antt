-- The whole promise, of a table of the code.
use Rattle.std.specs.Prelude.{◌≡◌, ℕ, List, take, Ok, Option, Result}
use Rattle.std.specs.Option.{ForSome}
use Rattle.bounded.specs.Listed.{listed}
use Rattle.words.specs.declared.faults.Refusal.{Refusal}
use Rattle.register_files.specs.Register.{read}
use Rattle.machine.specs.Promise.{Promised}
use Rattle.machine.specs.Finish.{finished_file}
use Rattle.machine.specs.ReadBack.{ReadsBack}
use Rattle.rows.specs.declared.problem.Load.{Load}
use Rattle.rows.specs.Layout.{Raw, shown}
use Rattle.rows.specs.View.{raw, view}
use Rattle.loading.specs.LoadedWords.{taken_shown}
use Rattle.table.specs.Tabled.{took, origin}
use Rattle.table.specs.declared.table.Table.{Table}

-- A loaded table has, for every receiving register and placing, exactly one reading; what finish accepts is filled, keeps the rules and keeps step; and
-- finish writes the words of the numbering, the same for every other table of the same problem words and source meaning. All of it is about the very
-- problem words and source meaning that the table holds.
abbrev pub PromiseOf : Option Load → Raw → Type 0
PromiseOf load r = ForSome load (λ l. ∥ Promised (origin (listed l.leads) r).0 (origin (listed l.leads) r).1 (taken_shown (listed l.leads) r) (shown r) ∥₁)

abbrev pub KeepsPromise : Table → Type 0
KeepsPromise t = PromiseOf t.load (raw t.rows)

-- What finish wrote is accepted by the reader of register files, and means the register that the table shows.
abbrev pub IsReadBack : Table → Result ℕ Refusal → List ℕ → Type 0
IsReadBack t r out = (n : ℕ) → r ≡ Ok n → ∥ (read (take n out) ≡ Ok (finished_file (took t) (view t.rows))) × ReadsBack (took t) (view t.rows) ∥₁
