-- What `judge` promises: numbers 4, 2, 3 and 5 of document 01 in this order, else 0.
use Rattle.std.specs.Prelude.{◌≡◌, refl, Result, Ok, Err, List, [], ◌∷◌, ℕ, eqb, length, if◌then◌else◌}
use Rattle.std.proofs.Math.Option.{Option, none, some}
use Rattle.dogwood_rules.specs.Token.{Placed}
use Rattle.dogwood_rules.specs.Outline.{statements, fits}
use Rattle.dogwood_rules.specs.File.{Piece, pieces}
use Rattle.dogwood_rules.specs.Searches.{first_comment, deep_opener}
use Rattle.dogwood_outline.specs.declared.judging.Objection.{Objection}
use Rattle.dogwood_outline.specs.declared.judging.Objection.TheVariants.{Misfit, Remarked, Empty, Deep}
use Rattle.dogwood_outline.specs.Pass.{placed_in}

-- 01's number and place for each case
abbrev pub number : Result (Unit {0}) Objection → ℕ
number (Ok u) = 0
number (Err Misfit) = 4
number (Err (Remarked n)) = 2
number (Err Empty) = 3
number (Err (Deep n)) = 5

abbrev pub place : Result (Unit {0}) Objection → ℕ
place (Ok u) = 0
place (Err Misfit) = 0
place (Err (Remarked n)) = n
place (Err Empty) = 0
place (Err (Deep n)) = n

-- 5: "first opener reaching depth 65"
unfoldable pub nested : Option ℕ → ℕ × ℕ
nested (some n) = (5, n)
nested none = (0, 0)

-- 3: "no statement and no comment"
unfoldable pub filled : List Piece → Option ℕ → ℕ × ℕ
filled [] deep = (3, 0)
filled (q ∷ qs) deep = nested deep

-- 2: "comment inside a statement", "start of the first one"
unfoldable pub commented : Option ℕ → List Piece → Option ℕ → ℕ × ℕ
commented (some n) qs deep = (2, n)
commented none qs deep = filled qs deep

-- 4: "outline does not fit". The number and its place, for a text of that many bytes and these tokens
unfoldable pub judged : ℕ → List Placed → List ℕ → ℕ × ℕ
judged end ps outline =
    let ss = (statements outline).0 in
    if fits end ps outline then commented (first_comment ss ps) (pieces ss ps) (deep_opener ss ps) else (4, 0)

pub record Judges (text outline : List ℕ) (number place : ℕ) : Type 0 where
  pub numbered : number ≡ (judged (length text) (placed_in text) outline).0
  pub located : place ≡ (judged (length text) (placed_in text) outline).1

-- the verdict again
abbrev pub verdict_of : ℕ → ℕ → Result (Unit {0}) Objection
verdict_of n p =
    if eqb n 0 then Ok tt
    else if eqb n 2 then Err (Remarked p)
    else if eqb n 3 then Err Empty
    else if eqb n 4 then Err Misfit
    else Err (Deep p)

pub again : (a : Result (Unit {0}) Objection) → verdict_of (number a) (place a) ≡ a
again (Ok u) = refl
again (Err Misfit) = refl
again (Err (Remarked n)) = refl
again (Err Empty) = refl
again (Err (Deep n)) = refl
