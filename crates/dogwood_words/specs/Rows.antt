-- Walks over the words of a token table, row by row.
use Rattle.std.specs.Prelude.{Bool, ◌&&◌, ◌||◌, List, [], ◌∷◌, Option, None, Some, ℕ, suc, ◌+◌, ◌-◌, leb, ltb, eqb, length, get_or, if◌then◌else◌}
use Rattle.std.proofs.Math.Option.{Option as Maybe, none, some}
use Rattle.dogwood_words.specs.declared.rows.Row.{Row}
use Rattle.dogwood_words.specs.declared.walks.Walked.{Walked}
use Rattle.dogwood_words.specs.Brackets.{opening, closing}

-- the kind and the start of the token whose words are the first of these, from word i on, and the word behind them
abbrev pub row_of : ℕ → List ℕ → Option Row
row_of i [] = None
row_of i (k ∷ []) = None
row_of i (k ∷ s ∷ []) = None
row_of i (k ∷ s ∷ e ∷ ws) = Some (record { kind = k; start = s; next = i + 3 })

-- what the walk over a part answers
abbrev pub walked_of : Maybe (Bool × ℕ) → Option Walked
walked_of none = None
walked_of (some r) = Some (record { seen = r.0; at = r.1 })

-- From word i on, of which these are the words: the first word of the first token that starts at n or behind it
unfoldable pub skip_in : ℕ → ℕ → List ℕ → ℕ
skip_in n i [] = i
skip_in n i (k ∷ []) = i
skip_in n i (k ∷ s ∷ []) = i
skip_in n i (k ∷ s ∷ e ∷ ws) = if ltb s n then skip_in n (i + 3) ws else i

-- .. if only white space and comments stand before it, and it starts at n; the text ends at end
unfoldable pub gap_in : ℕ → ℕ → ℕ → List ℕ → Maybe ℕ
gap_in end n i [] = if eqb end n then some i else none
gap_in end n i (k ∷ []) = if eqb end n then some i else none
gap_in end n i (k ∷ s ∷ []) = if eqb end n then some i else none
gap_in end n i (k ∷ s ∷ e ∷ ws) =
    if ltb s n then if leb 2 k then none else gap_in end n (i + 3) ws else if eqb s n then some i else none

-- .. if brackets balance from depth d up to it, and it starts at n; with whether a token was seen that is neither white space nor comment
unfoldable pub part_in : List ℕ → ℕ → ℕ → Bool → ℕ → List ℕ → Maybe (Bool × ℕ)
part_in text n d seen i [] = if eqb d 0 && eqb (length text) n then some (seen, i) else none
part_in text n d seen i (k ∷ []) = if eqb d 0 && eqb (length text) n then some (seen, i) else none
part_in text n d seen i (k ∷ s ∷ []) = if eqb d 0 && eqb (length text) n then some (seen, i) else none
part_in text n d seen i (k ∷ s ∷ e ∷ ws) =
    if ltb s n
    then if opening k (get_or text s 0) then part_in text n (suc d) (seen || leb 2 k) (i + 3) ws
    else if closing k (get_or text s 0) then if eqb d 0 then none else part_in text n (d - 1) (seen || leb 2 k) (i + 3) ws
    else part_in text n d (seen || leb 2 k) (i + 3) ws
    else if eqb d 0 && eqb s n then some (seen, i) else none
