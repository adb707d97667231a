-- The two smaller calls.
-- 01: "Also public: tokenising alone (11, 12, 1, 13 in that order, else 0 with the token total) and testing an outline alone (the same, then 4, else 0),
-- both treating the token table as the full call does."
use Rattle.std.specs.Prelude.{List, [], ℕ, ◌*◌, ltb, length, if◌then◌else◌}
use Rattle.dogwood_rules.specs.Utf8.{text_of}
use Rattle.dogwood_rules.specs.Token.{Placed, row_size, words_of}
use Rattle.dogwood_rules.specs.Source.{Source, too_long, not_utf8, unended, cut_into, source_of}
use Rattle.dogwood_rules.specs.Outline.{fits}

pub record Alone : Type 0 where
  pub number : ℕ
  -- the place, or the token total
  pub value : ℕ
  -- what the token table begins with; the rest of it stays
  pub table : List ℕ

unfoldable pub stopped : ℕ → ℕ → Alone
stopped n value = record { number = n; value = value; table = [] }

module _ (table_room : ℕ) where
  -- 11, 12, 1, 13, else what is told of the tokens.
  -- 01: "13 is given exactly when three words a token do not fit"; its place: "tokens needed"
  unfoldable pub told : (List Placed → Alone) → Source → Alone
  told f too_long = stopped 11 0
  told f (not_utf8 place) = stopped 12 place
  told f (unended before place) = stopped 1 place
  told f (cut_into ps) = if ltb table_room (row_size * length ps) then stopped 13 (length ps) else f ps

-- else 0 with the token total
unfoldable pub total : List Placed → Alone
total ps = record { number = 0; value = length ps; table = words_of ps }

unfoldable pub tokenised : List ℕ → ℕ → Alone
tokenised source table_room = told table_room total (source_of source)

-- then 4, else 0
unfoldable pub verdict : ℕ → List ℕ → List Placed → Alone
verdict end outline ps = record { number = if fits end ps outline then 0 else 4; value = 0; table = words_of ps }

unfoldable pub tested : List ℕ → List ℕ → ℕ → Alone
tested source outline table_room = told table_room (verdict (length (text_of source)) outline) (source_of source)
