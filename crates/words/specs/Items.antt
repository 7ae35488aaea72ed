-- Items of a file, read one by one; and what the code keeps of them.
use Rattle.std.specs.Prelude.{ℕ, zero, suc, ◌+◌, Bool, cond, List, [], ◌∷◌, ◌++◌, length, Ok, Err, Result, nat_lt}
use Rattle.words.specs.declared.faults.SchemaFault.{SchemaFault}
use Rattle.words.specs.Words.{then}

-- items as long as there are more; each is read in its turn, with the room left
unfoldable pub items : {X : Type 0} → (X → ℕ) → (ℕ → ℕ → Bool) → (ℕ → ℕ → Result X SchemaFault) → ℕ → ℕ → Result (List X) SchemaFault
items size more f zero at = cond (more 0 at) (then (f 0 at) (λ x. Ok [])) (Ok [])
items size more f (suc room) at =
    cond (more (suc room) at)
    (then (f (suc room) at) (λ x. then (items size more f room (at + size x)) (λ xs. Ok (x ∷ xs))))
    (Ok [])

-- an item of one word
abbrev pub one_word : {X : Type 0} → X → ℕ
one_word x = 1

-- exactly that many items of one word
abbrev pub run : {X : Type 0} → (ℕ → Result X SchemaFault) → ℕ → ℕ → Result (List X) SchemaFault
run f n at = items one_word (λ left p. nat_lt 0 left) (λ left p. f p) n at

-- the words of items
abbrev pub sizes : {X : Type 0} → (X → ℕ) → List X → ℕ
sizes size [] = 0
sizes size (x ∷ xs) = size x + sizes size xs

-- how many there are
abbrev pub sized : {A E : Type 0} → Result (List A) E → Result ℕ E
sized (Ok xs) = Ok (length xs)
sized (Err e) = Err e

-- what was read, where nothing was refused
abbrev pub got : {A E : Type 0} → Result (List A) E → List A
got (Ok xs) = xs
got (Err e) = []

-- the place behind an item
abbrev pub behind : {X : Type 0} → (X → ℕ) → ℕ → Result X SchemaFault → Result ℕ SchemaFault
behind size at (Ok x) = Ok (at + size x)
behind size at (Err e) = Err e

-- the place of each item
abbrev pub places : {X : Type 0} → (X → ℕ) → ℕ → List X → List ℕ
places size at [] = []
places size at (x ∷ xs) = at ∷ places size (at + size x) xs

-- the places of items, and the place behind them
abbrev pub outlined : {X : Type 0} → (X → ℕ) → ℕ → Result (List X) SchemaFault → Result (List ℕ × ℕ) SchemaFault
outlined size at (Ok xs) = Ok (places size at xs, at + sizes size xs)
outlined size at (Err e) = Err e

-- the same with places in front
abbrev pub prepended : List ℕ → Result (List ℕ × ℕ) SchemaFault → Result (List ℕ × ℕ) SchemaFault
prepended ps (Ok x) = Ok (ps ++ x.0, x.1)
prepended ps (Err e) = Err e

-- the place behind items
abbrev pub ended : {X : Type 0} → (X → ℕ) → ℕ → Result (List X) SchemaFault → Result ℕ SchemaFault
ended size at (Ok xs) = Ok (at + sizes size xs)
ended size at (Err e) = Err e
