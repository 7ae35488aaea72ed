-- A word as four bytes, the most significant first.
use Rattle.std.specs.Prelude.{ℕ, zero, suc, ◌+◌, ◌*◌, ◌/◌, ◌%◌, List, [], ◌∷◌, ◌++◌, slice_index}

abbrev pub four : ℕ → List ℕ
four w = (w / 16777216 % 256) ∷ (w / 65536 % 256) ∷ (w / 256 % 256) ∷ (w % 256) ∷ []

abbrev pub bytes_of : List ℕ → List ℕ
bytes_of [] = []
bytes_of (w ∷ ws) = four w ++ bytes_of ws

-- the word at an index of a list of bytes
abbrev pub word_at : List ℕ → ℕ → ℕ
word_at bs i = slice_index bs (4 * i) * 16777216 + slice_index bs (4 * i + 1) * 65536 + slice_index bs (4 * i + 2) * 256 + slice_index bs (4 * i + 3)

-- the first n words of a list of bytes
abbrev pub words_of : List ℕ → ℕ → List ℕ
words_of bs zero = []
words_of bs (suc n) = words_of bs n ++ word_at bs n ∷ []
