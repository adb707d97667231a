-- A character above ASCII begins white space or an Other.
use Prim.Native.Nat.{ℕ, ◌≤◌}
use mathlib.Core.Path.{◌≡◌}
use mathlib.Core.Bool.{true, false}
use mathlib.Core.List.{List}
use native.Mathlib.Omega.{arith}
use borrow.Author.Tests.{le-leb, lt-leb, ne_eqb}
use Rattle.dogwood_rules.specs.Token.{white, letter, digit}
use Rattle.dogwood_tokens.specs.declared.token.Lexeme.TheVariants.{Token}
use Rattle.dogwood_scans.specs.Run.{run_end}
use Rattle.dogwood_letters.specs.Symbol.{symbol_len}
use Rattle.dogwood_tokens.specs.Token.{begins}
use Rattle.dogwood_rules.specs.Token.{other}
use Rattle.dogwood_letters.proofs.SymbolLaws.{single_big, double_big}
use Rattle.dogwood_rows.specs.declared.kind.Kind.TheVariants as K

digit_big : (c : ℕ) → 128 ≤ c → digit c ≡ false
unfolding digit
digit_big c h = simp (le-leb 48 c (omega arith), lt-leb c 57 (omega arith))

letter_big : (c : ℕ) → 128 ≤ c → letter c ≡ false
unfolding letter
letter_big c h =
    simp (
      le-leb 65 c (omega arith),
      lt-leb c 90 (omega arith),
      le-leb 97 c (omega arith),
      lt-leb c 122 (omega arith),
      ne_eqb c 95 (λ (q : c ≡ 95). omega arith),
    )

module _ (s : List ℕ) (i c b : ℕ) where
  pub wide_space : white c ≡ true → begins s i c b ≡ Token K.Whitespace (run_end white s i)
  unfolding begins
  wide_space t = simp t

  pub wide_other : 128 ≤ c → white c ≡ false → begins s i c b ≡ Token K.Other (run_end other s i)
  unfolding begins symbol_len
  wide_other h t =
      simp (
        t,
        ne_eqb c 0x22 (λ (q : c ≡ 0x22). omega arith),
        ne_eqb c 0x2F (λ (q : c ≡ 0x2F). omega arith),
        letter_big c h,
        digit_big c h,
        double_big c b h,
        single_big c h,
      )
