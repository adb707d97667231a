-- The test of fit says each sentence, and the sentences say the test.
use mathlib.Core.Path.{◌≡◌}
use mathlib.Core.Bool.{true, false, ◌&&◌}
use mathlib.Core.List.{List}
use Prim.Native.Nat.{ℕ}
use lib.Dec.{eqb}
use lib.ListN.{length}
use Rattle.dogwood_rules.specs.Basic.{every}
use Rattle.dogwood_rules.specs.Token.{Placed}
use Rattle.dogwood_rules.specs.Outline.{Fits, fits, Statement, statements, kind_ok, ascending, spans_of, parts_ok, bounds_ok, each_ok, covered_ok, plain_ok, gaps_ok, balance_ok}
use Rattle.dogwood_rules.proofs.Below.{and_true}

module _ (end : ℕ) (ps : List Placed) (words : List ℕ) where
  ss : List Statement
  ss = (statements words).0

  pub fits_says : fits end ps words ≡ true → Fits end ps words
  unfolding fits ss
  fits_says t =
      let h₀ = and_true (eqb (length (statements words).1) 0) ((every kind_ok ss) && ((ascending 0 end (spans_of ss)) && ((every parts_ok ss) && ((every (bounds_ok end ps) ss) && ((each_ok covered_ok ss ps) && ((each_ok plain_ok ss ps) && ((gaps_ok (spans_of ss) ps) && (each_ok balance_ok ss ps)))))))) t in
      let h₁ = and_true (every kind_ok ss) ((ascending 0 end (spans_of ss)) && ((every parts_ok ss) && ((every (bounds_ok end ps) ss) && ((each_ok covered_ok ss ps) && ((each_ok plain_ok ss ps) && ((gaps_ok (spans_of ss) ps) && (each_ok balance_ok ss ps))))))) h₀.1 in
      let h₂ = and_true (ascending 0 end (spans_of ss)) ((every parts_ok ss) && ((every (bounds_ok end ps) ss) && ((each_ok covered_ok ss ps) && ((each_ok plain_ok ss ps) && ((gaps_ok (spans_of ss) ps) && (each_ok balance_ok ss ps)))))) h₁.1 in
      let h₃ = and_true (every parts_ok ss) ((every (bounds_ok end ps) ss) && ((each_ok covered_ok ss ps) && ((each_ok plain_ok ss ps) && ((gaps_ok (spans_of ss) ps) && (each_ok balance_ok ss ps))))) h₂.1 in
      let h₄ = and_true (every (bounds_ok end ps) ss) ((each_ok covered_ok ss ps) && ((each_ok plain_ok ss ps) && ((gaps_ok (spans_of ss) ps) && (each_ok balance_ok ss ps)))) h₃.1 in
      let h₅ = and_true (each_ok covered_ok ss ps) ((each_ok plain_ok ss ps) && ((gaps_ok (spans_of ss) ps) && (each_ok balance_ok ss ps))) h₄.1 in
      let h₆ = and_true (each_ok plain_ok ss ps) ((gaps_ok (spans_of ss) ps) && (each_ok balance_ok ss ps)) h₅.1 in
      let h₇ = and_true (gaps_ok (spans_of ss) ps) (each_ok balance_ok ss ps) h₆.1 in
      record { exact = h₀.0; kinds = h₁.0; apart = h₂.0; parts = h₃.0; bounds = h₄.0; covered = h₅.0; used = h₆.0; outside = h₇.0; balance = h₇.1 }

  pub says_fits : Fits end ps words → fits end ps words ≡ true
  unfolding fits
  says_fits f = simp (f.exact, f.kinds, f.apart, f.parts, f.bounds, f.covered, f.used, f.outside, f.balance)
