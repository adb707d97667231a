-- The separator sets of the code and the numbers that the layout speaks of them by.
use Rattle.std.specs.Prelude.{◌≡◌, refl, ℕ, zero, suc, Option, Some, None}
use Rattle.dogwood_runs.specs.declared.parts.Separator.{Separator}
use Rattle.dogwood_runs.specs.declared.parts.Separator.TheVariants.{Comma, AndOr}

-- the number of a set, 2 where there is none
abbrev pub set_number : Option Separator → ℕ
set_number (Some Comma) = 0
set_number (Some AndOr) = 1
set_number None = 2

-- the set of a number
abbrev pub set_numbered : ℕ → Option Separator
set_numbered zero = Some Comma
set_numbered (suc zero) = Some AndOr
set_numbered (suc (suc n)) = None

-- no two sets have one number
pub set_same : (a b : Option Separator) → set_number a ≡ set_number b → a ≡ b
set_same (Some Comma) (Some Comma) e = refl
set_same (Some Comma) (Some AndOr) e = cc
set_same (Some Comma) None e = cc
set_same (Some AndOr) (Some Comma) e = cc
set_same (Some AndOr) (Some AndOr) e = refl
set_same (Some AndOr) None e = cc
set_same None (Some Comma) e = cc
set_same None (Some AndOr) e = cc
set_same None None e = refl
