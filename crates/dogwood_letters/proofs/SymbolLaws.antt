-- What is no symbol, and how long a symbol is.
use Rattle.std.specs.Prelude.{Some, None}
use Prim.Native.Nat.{ℕ, ◌<◌, ◌≤◌}
use mathlib.Core.Path.{◌≡◌, refl, sym, ap, ◌∙◌}
use mathlib.Core.Bool.{Bool, true, false, cond, ◌&&◌, ◌||◌}
use mathlib.Core.List.{List, [], ◌∷◌}
use native.Mathlib.Omega.{arith}
use borrow.Author.Tests.{eqb-true, eqb-false, eq-eqb, ne_eqb, ltb-true}
use lib.Dec.{ltb, eqb}
use Rattle.dogwood_rules.specs.Basic.{one_of, every}
use Rattle.dogwood_rules.specs.Token.{single, double}
use Rattle.utf8.proofs.Cases.{and_true}
use Rattle.dogwood_letters.specs.Symbol.{symbol_len}

pub eqb_sym : (a b : ℕ) → eqb a b ≡ eqb b a
eqb_sym a b = by (eqb b a) refl
  where
    by : (t : Bool) → eqb b a ≡ t → eqb a b ≡ t
    by true e = eq-eqb a b (sym (eqb-true b a e))
    by false e = ne_eqb a b (λ (q : a ≡ b). eqb-false b a e (sym q))

-- a number above all of a list is not in it
pub one_big : (l : List ℕ) (c : ℕ) → every (λ x. ltb x 128) l ≡ true → 128 ≤ c → one_of l c ≡ false
one_big [] c e h = refl
one_big (x ∷ l) c e h =
    let p = and_true (ltb x 128) (every (λ x. ltb x 128) l) e in
    let u = ltb-true x 128 p.0 in
    simp (ne_eqb x c (λ (q : x ≡ c). omega arith), one_big l c p.1 h)

-- what is no second character of a symbol
pub double_not : (x : ℕ) → eqb x 61 ≡ false → one_of (58 ∷ 38 ∷ 124 ∷ []) x ≡ false → (c : ℕ) → double c x ≡ false
unfolding double
double_not x e h c = by (eqb c x) refl
  where
    by : (t : Bool) → eqb c x ≡ t → (eqb x 61 && one_of (61 ∷ 33 ∷ 60 ∷ 62 ∷ []) c || (t && one_of (58 ∷ 38 ∷ 124 ∷ []) c)) ≡ false
    by true k = simp e (ap (one_of (58 ∷ 38 ∷ 124 ∷ [])) (eqb-true c x k) ∙ h)
    by false k = simp e

-- 0 stands for a byte past the end: no symbol
pub double-zero : (c : ℕ) → double c 0 ≡ false
double-zero c = double_not 0 refl refl c

and_no : (t : Bool) → (t && false) ≡ false
and_no true = refl
and_no false = refl

pub single_big : (c : ℕ) → 128 ≤ c → single c ≡ false
unfolding single
single_big c h = one_big (40 ∷ 41 ∷ 91 ∷ 93 ∷ 123 ∷ 125 ∷ 44 ∷ 59 ∷ 64 ∷ 46 ∷ 58 ∷ 63 ∷ 43 ∷ 45 ∷ 42 ∷ 47 ∷ 37 ∷ 33 ∷ 60 ∷ 62 ∷ 61 ∷ []) c refl h

-- the symbols of two characters are ASCII
pub double_big : (a b : ℕ) → 128 ≤ a → double a b ≡ false
unfolding double
double_big a b h =
    simp (one_big (61 ∷ 33 ∷ 60 ∷ 62 ∷ []) a refl h, one_big (58 ∷ 38 ∷ 124 ∷ []) a refl h, and_no)

pub double-next : (a b : ℕ) → a < 128 → 128 ≤ b → double a b ≡ false
unfolding double
double-next a b h k = simp (ne_eqb b 61 (λ (q : b ≡ 61). omega arith), ne_eqb a b (λ (q : a ≡ b). omega arith))

pub symbol_most : (a b : ℕ) {n : ℕ} → symbol_len a b ≡ Some n → n ≤ 2
unfolding symbol_len
symbol_most a b {n} = by (double a b) (single a)
  where
    by : (t u : Bool) → cond t (Some 2) (cond u (Some 1) None) ≡ Some n → n ≤ 2
    by true u e = let q : n ≡ 2 = cc in omega arith
    by false true e = let q : n ≡ 1 = cc in omega arith
    by false false e = let z : ◌≡◌ {A = ℕ} 0 1 = cc in omega arith
