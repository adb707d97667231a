-- A separator set is told by its number.
use mathlib.Core.Bool.{Bool, false, not, ◌&&◌}
use mathlib.Core.Path.{◌≡◌, refl, ap}
use mathlib.Core.List.{List, [], ◌∷◌}
use Prim.Native.Nat.{ℕ, zero, suc, ◌<◌}
use native.Mathlib.Omega.{arith}
use lib.Dec.{eqb}
use lib.ListN.{get_or}
use Rattle.std.specs.Prelude.{Option, Some, None}
use Rattle.std.proofs.lemmas.Bool.{ne_eqb}
use Rattle.std.specs.Option.{option_eq}
use Rattle.dogwood_runs.specs.declared.parts.Separator.{Separator}
use Rattle.dogwood_runs.specs.declared.parts.Separator.TheVariants.{Comma, AndOr}
use Rattle.dogwood_runs.specs.contracts.parts.SeparatorPartialEq.TheImpl.{eq-value}
use Rattle.dogwood_rules.specs.Token.{Token}
use Rattle.dogwood_layout.specs.Scan.{item_len, cut_before, cut_after_token, cut_len, depth_after}
use Rattle.dogwood_runs.specs.Separators.{set_number, set_numbered}

pub is-comma_set : (s : Option Separator) → option_eq eq-value.it s (Some Comma) ≡ eqb (set_number s) 0
is-comma_set None = refl
is-comma_set (Some Comma) = refl
is-comma_set (Some AndOr) = refl

pub is-and-or_set : (s : Option Separator) → option_eq eq-value.it s (Some AndOr) ≡ eqb (set_number s) 1
is-and-or_set None = refl
is-and-or_set (Some Comma) = refl
is-and-or_set (Some AndOr) = refl

-- the sets stand in the order of their numbers
pub set_at : (i : ℕ) → i < 2 → set_number (Some (get_or (Comma ∷ AndOr ∷ []) i Comma)) ≡ i
set_at zero h = refl
set_at (suc zero) h = refl
set_at (suc (suc i)) h = absurd (omega arith)

-- a number cuts as its set does
pub numbered_cuts : (first : Bool) (set d : ℕ) (ts : List Token) → item_len first (set_number (set_numbered set)) d ts ≡ item_len first set d ts
unfolding item_len cut_before cut_after_token
numbered_cuts first zero d ts = refl
numbered_cuts first (suc zero) d ts = refl
numbered_cuts first (suc (suc n)) d [] = refl
numbered_cuts first (suc (suc n)) d (t ∷ ts) =
    rw (ne_eqb (suc (suc n)) 1 (λ z. omega arith), ne_eqb (suc (suc n)) 0 (λ z. omega arith)) (ap (λ m. cut_len (not first && false) false m) (numbered_cuts false (suc (suc n)) (depth_after d t) ts))
