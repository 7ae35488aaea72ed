-- Writing a register: the words, the refusals, and what is read back.
use Rattle.std.specs.Prelude.{◌≡◌, ℕ, zero, suc, ◌≤◌, Bool, true, false, cond, not, ◌&&◌, ◌||◌, nat_lt, List, [], ◌∷◌, ◌++◌, length, take, drop, Some, None, Ok, Err, Option, Result, nat_le}
use Rattle.std.specs.Option.{unwrap_or}
use Rattle.register_files.specs.Register.{Row, File, read}
use Rattle.register_files.specs.Layout.{layout}
use Rattle.registers.specs.declared.writing.WriteFault.{WriteFault}
use Rattle.registers.specs.declared.writing.WriteFault.TheVariants.{Large, Leads, Memory}
use Rattle.registers.specs.Meaning.{Meaning, no_row, answers}

-- f 0, f 1 and so on, n of them
unfoldable pub upto : {X : Type 0} → (ℕ → X) → ℕ → List X
upto f zero = []
upto f (suc n) = upto f n ++ f n ∷ []

-- a number below n passes the test
unfoldable pub some_below : (ℕ → Bool) → ℕ → Bool
some_below p zero = false
some_below p (suc n) = some_below p n || p n

abbrev pub or_here : Option ℕ → Option ℕ → Option ℕ
or_here (Some x) o = Some x
or_here None o = o

-- the lowest number below n that passes the test
unfoldable pub lowest : (ℕ → Bool) → ℕ → Option ℕ
lowest p zero = None
lowest p (suc n) = or_here (lowest p n) (cond (p n) (Some n) None)

-- a kind of more than 65,535 records
abbrev pub crowded : Meaning → Bool
crowded m = some_below (λ k. nat_lt 65535 (m.count k)) m.kinds

-- more than 32 kinds, 64 links or 65,535 records of a kind
abbrev pub large : Meaning → Bool
large m = nat_lt 32 m.kinds || (nat_lt 64 m.links || crowded m)

-- not one of the first n records
abbrev pub astray : ℕ → Option ℕ → Bool
astray n None = true
astray n (Some r) = not (nat_lt r n)

-- a counted record that leads to nothing or to an uncounted one
abbrev pub strays : Meaning → ℕ → ℕ → ℕ → Bool
strays m l from to = some_below (λ r. astray (m.count to) (m.follow l r)) (m.count from)

-- a link with an end that is not among the kinds, or that strays
abbrev pub broken_by : Meaning → ℕ → Option (ℕ × ℕ) → Bool
broken_by m l None = true
broken_by m l (Some e) = not (nat_lt e.0 m.kinds && nat_lt e.1 m.kinds) || strays m l e.0 e.1

abbrev pub broken : Meaning → ℕ → Bool
broken m l = broken_by m l (m.ends l)

-- where a link leads from a record; 0 where it leads to nothing
abbrev pub lead : Meaning → ℕ → ℕ → ℕ
lead m l r = unwrap_or (m.follow l r) 0

-- a link as a row of a file
abbrev pub row_by : Meaning → ℕ → Option (ℕ × ℕ) → Row
row_by m l (Some e) = record { from = e.0; to = e.1; leads = upto (lead m l) (m.count e.0) }
row_by m l None = no_row

abbrev pub row_of : Meaning → ℕ → Row
row_of m l = row_by m l (m.ends l)

-- the register file of a register, without landings
abbrev pub file_of : Meaning → File
file_of m = record { counts = upto m.count m.kinds; links = upto (row_of m) m.links; landings = [] }

-- the first refusal, or the words
abbrev pub unless_refused : Bool → Option ℕ → List ℕ → Result (List ℕ) WriteFault
unless_refused true o ws = Err Large
unless_refused false (Some l) ws = Err (Leads l)
unless_refused false None ws = Ok ws

-- the words of a register, or why it has none
abbrev pub words_of : Meaning → Result (List ℕ) WriteFault
words_of m = unless_refused (large m) (lowest (broken m) m.links) (layout (file_of m))

-- words at the front of the output, if there is room for them
abbrev pub in_room : Bool → List ℕ → List ℕ → Result ℕ WriteFault × List ℕ
in_room true ws out = (Ok (length ws), ws ++ drop (length ws) out)
in_room false ws out = (Err Memory, out)

abbrev pub put : Result (List ℕ) WriteFault → List ℕ → Result ℕ WriteFault × List ℕ
put (Err e) out = (Err e, out)
put (Ok ws) out = in_room (nat_le (length ws) (length out)) ws out

-- the answer of a write, and the output after it
abbrev pub written : Meaning → List ℕ → Result ℕ WriteFault × List ℕ
written m out = put (words_of m) out

-- what was written is read back as a file without landings and with the same meaning
abbrev pub ReadBack : Meaning → Result ℕ WriteFault → List ℕ → Type 0
ReadBack m r out = (n : ℕ) → r ≡ Ok n → (f : File) × (read (take n out) ≡ Ok f) × (f.landings ≡ []) × (answers f ≡ m)

-- where the meaning is that of a file without landings, the words are those of that file
abbrev pub SameWords : Meaning → Result ℕ WriteFault → List ℕ → Type 0
SameWords m r out = (ws : List ℕ) (f : File) → read ws ≡ Ok f → f.landings ≡ [] → answers f ≡ m → length ws ≤ length out
    → (r ≡ Ok (length ws)) × (take (length ws) out ≡ ws)
