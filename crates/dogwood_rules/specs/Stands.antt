-- When some tokens stand side by side: each is a token by itself, and ends before the first character of the next.
-- The tokens of a text are the only ones that spell it and stand (proofs/Standing).
use Rattle.std.specs.Prelude.{◌≡◌, Bool, true, not, ◌&&◌, List, [], ◌∷◌, ℕ, eqb}
use Rattle.dogwood_rules.specs.Token.{Token, Kind, Whitespace, Comment, String, Identifier, Number, Symbol, Other, white, wordly, digit, other, double, line_end, next, tokenise}

-- a symbol of one character must not be the first of a longer one, nor of a comment
unfoldable pub symbol_stops : List ℕ → ℕ → Bool
symbol_stops [] c = true
symbol_stops (a ∷ []) c = not (double a c) && not (eqb a 47 && eqb 47 c)
symbol_stops (a ∷ b ∷ cs) c = true

-- a token ends before the character c
unfoldable pub stops : Kind → List ℕ → ℕ → Bool
stops Whitespace text c = not (white c)
stops Comment text c = line_end c
stops String text c = true
stops Identifier text c = not (wordly c)
stops Number text c = not (digit c)
stops Symbol text c = symbol_stops text c
stops Other text c = not (other c)

unfoldable pub stops_before : Token → List Token → Bool
stops_before t [] = true
stops_before t (u ∷ us) = next (stops t.kind t.text) u.text

pub data Stands : List Token → Type 0 where
  stands_end : Stands []
  stands_more : {t : Token} {ts : List Token} → tokenise t.text ≡ (t ∷ [], []) → stops_before t ts ≡ true → Stands ts → Stands (t ∷ ts)
