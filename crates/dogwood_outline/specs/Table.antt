-- The test of fit as a walk over the words of a token table, and the verdict by it and by the searches. How the code works, on any words; what it means stands in dogwood_rules, and
-- proofs/Tabled ties the two for the words of a text's tokens.
use Rattle.std.specs.Prelude.{Bool, false, not, ◌&&◌, ◌||◌, List, [], ◌∷◌, ℕ, ltb, eqb, length, drop, if◌then◌else◌}
use Rattle.std.proofs.Math.Option.{none, some}
use Rattle.dogwood_rules.specs.Outline.{Span, Statement, statements, kind_ok}
use Rattle.dogwood_words.specs.Rows.{skip_in, gap_in, part_in}
use Rattle.dogwood_words.specs.Search.{absent}
use Rattle.dogwood_searches.specs.Searches.{comment_before, deep_in, first_comment_in}
use Rattle.dogwood_outline.specs.Verdicts.{nested}

module _ (text table : List ℕ) where
  -- parts, then the end b of their statement, from word i on
  unfoldable pub parts_in : List Span → ℕ → Bool → ℕ → Bool
  parts_in [] b seen i = seen && not (absent (gap_in (length text) b i (drop i table)))
  parts_in (s ∷ ss) b seen i =
      ltb s.start s.stop
      && elim (gap_in (length text) s.start i (drop i table)) [
        | none ↦ false
        | some j ↦ elim (part_in text s.stop 0 false j (drop j table)) [ none ↦ false | some r ↦ parts_in ss b (seen || r.0) r.1 ]
      ]

  -- statements, then the text's end, from word i on
  unfoldable pub statements_in : List Statement → ℕ → Bool
  statements_in [] i = not (absent (gap_in (length text) (length text) i (drop i table)))
  statements_in (s ∷ ss) i =
      kind_ok s
      && elim (gap_in (length text) s.span.start i (drop i table)) [
        | none ↦ false
        | some j ↦ parts_in s.parts s.span.stop false j && statements_in ss (skip_in s.span.stop j (drop j table))
      ]

  unfoldable pub fits_in : List ℕ → Bool
  fits_in words = eqb (length (statements words).1) 0 && statements_in (statements words).0 0

  -- numbers 4, 2, 3 and 5 in this order, else 0, with the place
  unfoldable pub judged_in : List ℕ → ℕ × ℕ
  judged_in words =
      if fits_in words
      then elim (first_comment_in table (statements words).0 0) [
        | some n ↦ (2, n)
        | none ↦ if eqb (length words) 0 && absent (comment_before (length text) table) then (3, 0) else nested (deep_in text 0 table)
      ]
      else (4, 0)
