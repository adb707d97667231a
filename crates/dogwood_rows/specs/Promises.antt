-- What the functions of this crate promise. Each promise is one equation, and no second answer keeps it.
use Rattle.std.specs.Prelude.{◌≡◌, cond, List, [], ◌∷◌, Option, ℕ, ◌+◌, ◌-◌, ◌*◌, ◌/◌, leb, length, take}
use Rattle.std.proofs.Common.{sym, ◌∙◌}
use Rattle.std.proofs.lemmas.List.Edits.{sets}
use Rattle.dogwood_rules.specs.Token.{row_size}
use Rattle.dogwood_rows.specs.declared.cursor.Row.{Row}
use Rattle.dogwood_rows.specs.Rows.{step_at, back_at, end_of, between, inside}

-- r is the row at a place, with the place behind it
abbrev pub StepIs : List ℕ → ℕ → Option (Row × ℕ) → Type 0
StepIs table at r = r ≡ step_at table at

pub step_only : (table : List ℕ) (at : ℕ) (r r' : Option (Row × ℕ)) → StepIs table at r → StepIs table at r' → r ≡ r'
step_only table at r r' p q = p ∙ sym q

-- r is the row before a place, with its own place
abbrev pub BackIs : List ℕ → ℕ → Option (Row × ℕ) → Type 0
BackIs table at r = r ≡ back_at table at

pub back_only : (table : List ℕ) (at : ℕ) (r r' : Option (Row × ℕ)) → BackIs table at r → BackIs table at r' → r ≡ r'
back_only table at r r' p q = p ∙ sym q

-- r is the place behind the last row
abbrev pub EndIs : List ℕ → ℕ → Type 0
EndIs table r = r ≡ end_of table

pub end_only : (table : List ℕ) (r r' : ℕ) → EndIs table r → EndIs table r' → r ≡ r'
end_only table r r' p q = p ∙ sym q

-- r is how many rows stand from a place to another
abbrev pub CountIs : ℕ → ℕ → ℕ → Type 0
CountIs from to r = r ≡ (to - from) / row_size

pub count_only : (from to r r' : ℕ) → CountIs from to r → CountIs from to r' → r ≡ r'
count_only from to r r' p q = p ∙ sym q

-- the words from a place to another
abbrev pub BetweenIs : List ℕ → ℕ → ℕ → List ℕ → Type 0
BetweenIs table from to part = part ≡ between table from to

pub between_only : (table : List ℕ) (from to : ℕ) (part part' : List ℕ) → BetweenIs table from to part → BetweenIs table from to part' → part ≡ part'
between_only table from to part part' p q = p ∙ sym q

-- the words behind the first row and before the last
abbrev pub InsideIs : List ℕ → List ℕ → Type 0
InsideIs table part = part ≡ inside table

pub inside_only : (table part part' : List ℕ) → InsideIs table part → InsideIs table part' → part ≡ part'
inside_only table part part' p q = p ∙ sym q

-- the words of the first n rows
abbrev pub FirstIs : List ℕ → ℕ → List ℕ → Type 0
FirstIs table n part = part ≡ take (row_size * n) table

pub first_only : (table : List ℕ) (n : ℕ) (part part' : List ℕ) → FirstIs table n part → FirstIs table n part' → part ≡ part'
first_only table n part part' p q = p ∙ sym q

-- row n of a table was written, where there is room for it
abbrev pub Put : List ℕ → ℕ → ℕ → ℕ → ℕ → List ℕ → Type 0
Put table n kind start end table' =
    table' ≡ cond (leb (row_size * n + row_size) (length table)) (sets table (row_size * n) (kind ∷ start ∷ end ∷ [])) table

pub put_only : (table : List ℕ) (n kind start end : ℕ) (table' table'' : List ℕ) → Put table n kind start end table' → Put table n kind start end table'' → table' ≡ table''
put_only table n kind start end table' table'' p q = p ∙ sym q
