-- Numbers as they are written in a line, and what a write that fails leaves.
use Rattle.std.specs.Prelude.{ℕ, Option, List, [], ◌∷◌, ◌++◌, take, codes, decimal}
use Rattle.std.specs.Io.KnownBytes.{Appends}

-- two numbers, as each answer begins
abbrev pub pair_of : ℕ → ℕ → List ℕ
pair_of number place = decimal number ++ codes " " ++ decimal place

-- each word with a space before it
abbrev pub spaced : List ℕ → List ℕ
spaced [] = []
spaced (w ∷ ws) = codes " " ++ decimal w ++ spaced ws

-- the two numbers of an answer and the token table after it, in one line
abbrev pub answer_of : ℕ → ℕ → List ℕ → List ℕ
answer_of number value table = pair_of number value ++ spaced table ++ codes "\n"

-- words in one line
abbrev pub line_of : List ℕ → List ℕ
line_of [] = codes "\n"
line_of (w ∷ ws) = decimal w ++ spaced ws ++ codes "\n"

-- known bytes stay at the front, and after them stands a beginning of bs
abbrev pub AppendsPart : Option (List ℕ) → Option (List ℕ) → List ℕ → Type 0
AppendsPart old new bs = (k : ℕ) × Appends old new (take k bs)
