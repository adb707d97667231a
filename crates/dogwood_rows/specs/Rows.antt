-- The rows of any words; words left over at the end are no row. A place is a number of words.
use Rattle.std.specs.Prelude.{List, [], ◌∷◌, Option, None, Some, ℕ, ◌+◌, ◌-◌, ◌*◌, ltb, length, take, drop, if◌then◌else◌}
use Rattle.dogwood_rules.specs.Token.{row_size}
use Rattle.dogwood_rows.specs.declared.cursor.Row.{Row}

-- what `words_of` of the rules writes, read again
unfoldable pub rows_of : List ℕ → List Row
rows_of [] = []
rows_of (k ∷ []) = []
rows_of (k ∷ s ∷ []) = []
rows_of (k ∷ s ∷ e ∷ ws) = record { kind = k; start = s; end = e } ∷ rows_of ws

-- the rows from a place on
unfoldable pub rows_at : List ℕ → ℕ → List Row
rows_at ws i = rows_of (drop i ws)

-- the first of some rows, with a place to go on from
abbrev pub step_of : ℕ → List Row → Option (Row × ℕ)
step_of i [] = None
step_of i (r ∷ rs) = Some (r, i)

-- the row at a place, with the place behind it
unfoldable pub step_at : List ℕ → ℕ → Option (Row × ℕ)
step_at ws i = step_of (i + row_size) (rows_at ws i)

-- the row before a place, with its own place
unfoldable pub back_at : List ℕ → ℕ → Option (Row × ℕ)
back_at ws i = if ltb i row_size then None else step_of (i - row_size) (rows_at ws (i - row_size))

-- the place behind the last row
unfoldable pub end_of : List ℕ → ℕ
end_of ws = row_size * length (rows_of ws)

-- the words from a place to another
abbrev pub between : List ℕ → ℕ → ℕ → List ℕ
between ws from to = take (to - from) (drop from ws)

-- the words behind the first row and before the last
unfoldable pub inside : List ℕ → List ℕ
inside ws = between ws row_size (end_of ws - row_size)
