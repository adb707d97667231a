-- What a token reader answers, reading after reading.
-- 01: "A token reader takes source bytes and refuses 11 and 12 when made; each reading gives the next token's kind, start and end, or says that the text
-- has ended, or gives 1 with its place; after an end or a 1 it repeats it, and a refused reader answers only its refusal."
use Rattle.std.specs.Prelude.{List, [], ◌∷◌, ℕ, zero, suc}
use Rattle.dogwood_rules.specs.Token.{Placed, kind_number}
use Rattle.dogwood_rules.specs.Source.{Source, too_long, not_utf8, unended, cut_into, source_of}

pub data Reading : Type 0 where
  token : (kind start stop : ℕ) → Reading
  ended : Reading
  no_end : (place : ℕ) → Reading
  refused : (number place : ℕ) → Reading

-- the n-th of some tokens, counted from 0; behind the last, and ever after, the same answer
unfoldable pub nth : Reading → List Placed → ℕ → Reading
nth last [] n = last
nth last (p ∷ ps) zero = token (kind_number p.token.kind) p.start p.stop
nth last (p ∷ ps) (suc n) = nth last ps n

unfoldable pub reading_of : Source → ℕ → Reading
reading_of too_long n = refused 11 0
reading_of (not_utf8 place) n = refused 12 place
reading_of (unended before place) n = nth (no_end place) before n
reading_of (cut_into ps) n = nth ended ps n

-- the n-th reading of a source, counted from 0
unfoldable pub reading : List ℕ → ℕ → Reading
reading source n = reading_of (source_of source) n
