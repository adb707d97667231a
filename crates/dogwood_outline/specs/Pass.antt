-- The test of fit as one pass over the tokens, hand in hand with the outline. How the code works; what it means stands in dogwood_rules.
use Rattle.std.specs.Prelude.{Bool, false, not, ◌&&◌, ◌||◌, List, [], ◌∷◌, ℕ, ltb, eqb, length}
use Rattle.dogwood_rules.specs.Basic.{every, some?}
use Rattle.dogwood_rules.specs.Utf8.{decode}
use Rattle.dogwood_rules.specs.Token.{Token, Placed, tokenise, placed, tokens}
use Rattle.dogwood_rules.specs.Outline.{Span, Statement, statements, up_to, from, plain, balanced, kind_ok}

-- the placed tokens of a text: of any bytes, those before the first bad character or string without end
unfoldable pub placed_in : List ℕ → List Placed
placed_in text = placed 0 (tokenise (decode text).0).0

-- white space or comment
abbrev pub quiet : Token → Bool
quiet t = not (plain t)

-- some token that starts before n is neither
unfoldable pub spoken : ℕ → List Placed → Bool
spoken n ps = some? plain (tokens (up_to n ps))

-- the text's end
module _ (end : ℕ) where
  -- where the first of some tokens starts, or the text ends
  abbrev pub here : List Placed → ℕ
  here [] = end
  here (p ∷ ps) = p.start

  -- a token starts at n or the text ends there, among the tokens from n on
  abbrev pub stands : ℕ → List Placed → Bool
  stands n ps = eqb (here (from n ps)) n

  -- only white space and comments up to n, which stands
  unfoldable pub gap : ℕ → List Placed → Bool
  gap n ps = every quiet (tokens (up_to n ps)) && stands n ps

  -- brackets balance from depth d up to n, which stands
  unfoldable pub part : ℕ → ℕ → List Placed → Bool
  part d n ps = balanced d (tokens (up_to n ps)) && stands n ps

  -- parts, then the end b of their statement; whether a token was seen that is neither white space nor comment is handed on
  unfoldable pub parts_pass : List Span → ℕ → Bool → List Placed → Bool
  parts_pass [] b seen ps = seen && gap b ps
  parts_pass (s ∷ ss) b seen ps =
      let inside = from s.start ps in
      ltb s.start s.stop && (gap s.start ps && (part 0 s.stop inside && parts_pass ss b (seen || spoken s.stop inside) (from s.stop inside)))

  unfoldable pub statement_pass : Statement → List Placed → Bool
  statement_pass s ps = kind_ok s && (gap s.span.start ps && parts_pass s.parts s.span.stop false (from s.span.start ps))

  unfoldable pub outline_pass : List Statement → List Placed → Bool
  outline_pass [] ps = gap end ps
  outline_pass (s ∷ ss) ps = statement_pass s ps && outline_pass ss (from s.span.stop (from s.span.start ps))

  unfoldable pub passes : List ℕ → List Placed → Bool
  passes words ps = eqb (length (statements words).1) 0 && outline_pass (statements words).0 ps
