-- Laws of Bools and tests.
use Rattle.std.specs.Cmp.{both_ways}
use mathlib.Core.Path.{◌≡◌, sym}
use mathlib.Core.Bool.{Bool, true, false}
use Prim.Native.Nat.{ℕ}
use native.Mathlib.Omega.{arith}
use lib.Dec.{eqb}
use borrow.Author.Tests.{eqb-true, eq-eqb}

pub false_true : {A : Type 0} → ◌≡◌ {A = Bool} false true → A
false_true e = absurd (let y : ◌≡◌ {A = ℕ} 0 1 = cc in omega arith)

pub eqb_sym : (a b : ℕ) → eqb a b ≡ eqb b a
eqb_sym a b =
    both_ways (eqb a b) (eqb b a) (λ (e : eqb a b ≡ true). eq-eqb b a (sym (eqb-true a b e))) (λ (e : eqb b a ≡ true). eq-eqb a b (sym (eqb-true b a e)))
