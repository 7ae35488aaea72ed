-- Jobs from bytes to bytes: what comes in as words, and what is sent.
use Rattle.std.specs.Prelude.{ℕ, ◌/◌, List, [], ◌∷◌, length, take, Ok, Err, Result}
use Rattle.words.specs.declared.faults.Fault.{Fault}
use Rattle.words.specs.Faults.{fault_word}
use Rattle.streams.specs.Order.{words_of}

-- the whole words of bytes; a cut last word is left out
abbrev pub whole : List ℕ → List ℕ
whole bs = words_of bs (length bs / 4)

-- a reader's or a writer's fault, carried on
abbrev pub faulted : {A E : Type 0} → (E → Fault) → Result A E → Result A Fault
faulted carry (Ok x) = Ok x
faulted carry (Err e) = Err (carry e)

-- the words that are sent: those of the answer, or its fault as one word
abbrev pub sent : Result (List ℕ) Fault → List ℕ
sent (Ok ws) = ws
sent (Err f) = fault_word f ∷ []

-- what the code holds of an answer: a number of words, and the words it wrote to
abbrev pub held : Result ℕ Fault → List ℕ → Result (List ℕ) Fault
held (Ok n) ws = Ok (take n ws)
held (Err f) ws = Err f
