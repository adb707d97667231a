-- Outlines: how their words are read, and when an outline fits a text.
use Rattle.std.specs.Prelude.{◌≡◌, Bool, true, false, not, ◌&&◌, ◌||◌, List, [], ◌∷◌, ℕ, zero, suc, ◌+◌, ◌-◌, ◌*◌, leb, ltb, eqb, length, if◌then◌else◌}
use Rattle.std.proofs.Math.Option.{Option, none, some}
use Rattle.dogwood_rules.specs.Basic.{every, some?, cut}
use Rattle.dogwood_rules.specs.Token.{Token, Placed, tokens}
use Rattle.dogwood_rules.specs.Tree.{blank, comment, opener, closer}

pub record Span : Type 0 where
  pub start : ℕ
  pub stop : ℕ

pub record Statement : Type 0 where
  pub kind : ℕ
  pub span : Span
  pub parts : List Span

-- Reading --------------------------------------------------------------------------------------------

unfoldable pub add_span : ℕ → ℕ → Option (List Span) → Option (List Span)
add_span a b none = none
add_span a b (some ss) = some (record { start = a; stop = b } ∷ ss)

-- 01: "start and end of each part". n pairs of a start and an end
unfoldable pub spans : ℕ → List ℕ → Option (List Span)
spans zero ws = some []
spans (suc n) [] = none
spans (suc n) (a ∷ []) = none
spans (suc n) (a ∷ b ∷ ws) = add_span a b (spans n ws)

unfoldable pub with_parts : ℕ → ℕ → ℕ → ℕ → Option (List Span) → Option (Statement × ℕ)
with_parts k a b n none = none
with_parts k a b n (some ps) = some (record { kind = k; span = record { start = a; stop = b }; parts = ps }, 3 + 2 * n)

-- 01: "statement records: kind (0 definition, 1 policy), start, end, number of parts, then start and end of each part". The record at the front, with
-- how many words it has besides the first
unfoldable pub statement : List ℕ → Option (Statement × ℕ)
statement [] = none
statement (k ∷ []) = none
statement (k ∷ a ∷ []) = none
statement (k ∷ a ∷ b ∷ []) = none
statement (k ∷ a ∷ b ∷ n ∷ ws) = with_parts k a b n (spans n ws)

-- 01: "An outline is a run of statement records .. No words is an outline of no statements." The statements, and the words from the first that is no
-- whole record on
unfoldable pub statements : List ℕ → List Statement × List ℕ
statements ws = cut statement ws

-- Places -----------------------------------------------------------------------------------------------

-- the tokens that start before a place, and those from the first that does not
unfoldable pub up_to : ℕ → List Placed → List Placed
up_to n [] = []
up_to n (p ∷ ps) = elim (ltb p.start n) [ true ↦ p ∷ up_to n ps | false ↦ [] ]

unfoldable pub from : ℕ → List Placed → List Placed
from n [] = []
from n (p ∷ ps) = elim (ltb p.start n) [ true ↦ from n ps | false ↦ p ∷ ps ]

-- the tokens of a span, and those behind it
unfoldable pub within : Span → List Placed → List Placed
within s ps = up_to s.stop (from s.start ps)

unfoldable pub beyond : Span → List Placed → List Placed
beyond s ps = from s.stop (from s.start ps)

-- the tokens of each part
unfoldable pub parts_of : List Span → List Placed → List (List Token)
parts_of [] ps = []
parts_of (s ∷ ss) ps = tokens (within s ps) ∷ parts_of ss (beyond s ps)

-- Fit ------------------------------------------------------------------------------------------------

-- neither white space nor comment
unfoldable pub plain : Token → Bool
plain t = not (blank t) && not (comment t)

-- before, between and behind some spans stand only white space and comments
unfoldable pub gaps_ok : List Span → List Placed → Bool
gaps_ok [] ps = every (λ (t : Token). not (plain t)) (tokens ps)
gaps_ok (s ∷ ss) ps = every (λ (t : Token). not (plain t)) (tokens (up_to s.start ps)) && gaps_ok ss (beyond s ps)

-- 01: "start below end, end within the text, each starting at or after the one before ends". Spans between two places
unfoldable pub ascending : ℕ → ℕ → List Span → Bool
ascending low high [] = true
ascending low high (s ∷ ss) = leb low s.start && ltb s.start s.stop && leb s.stop high && ascending s.stop high ss

-- 01: "counting `( [ {` as +1 and `) ] }` as -1, the depth never falls below 0 and ends at 0"
unfoldable pub balanced : ℕ → List Token → Bool
balanced d [] = eqb d 0
balanced d (t ∷ ts) =
    if opener t then balanced (suc d) ts else if closer t then ltb 0 d && balanced (d - 1) ts else balanced d ts

unfoldable pub same_span : Span → Span → Bool
same_span s u = eqb s.start u.start && eqb s.stop u.stop

-- 01: "a definition has one part, equal to its span"
unfoldable pub only_part : Span → List Span → Bool
only_part s [] = false
only_part s (p ∷ []) = same_span s p
only_part s (p ∷ q ∷ ps) = false

unfoldable pub spans_of : List Statement → List Span
spans_of [] = []
spans_of (s ∷ ss) = s.span ∷ spans_of ss

-- a test on each statement with its own tokens
unfoldable pub each_ok : (Statement → List Placed → Bool) → List Statement → List Placed → Bool
each_ok f [] ps = true
each_ok f (s ∷ ss) ps = f s (within s.span ps) && each_ok f ss (beyond s.span ps)

-- 01: "Kinds are 0 or 1; a definition has one part, equal to its span."
unfoldable pub kind_ok : Statement → Bool
kind_ok s = eqb s.kind 1 || eqb s.kind 0 && only_part s.span s.parts

-- 01: "Parts are the same within their statement."
unfoldable pub parts_ok : Statement → Bool
parts_ok s = ascending s.span.start s.span.stop s.parts

-- 01: "A token in a statement that is neither white space nor comment lies in a part"
unfoldable pub covered_ok : Statement → List Placed → Bool
covered_ok s ps = gaps_ok s.parts ps

-- .. "and each statement has such a token"
unfoldable pub plain_ok : Statement → List Placed → Bool
plain_ok s ps = some? plain (tokens ps)

-- 01: "In each part" the depth is balanced
unfoldable pub balance_ok : Statement → List Placed → Bool
balance_ok s ps = every (balanced 0) (parts_of s.parts ps)

module _ (end : ℕ) (ps : List Placed) where
  -- 01: "Every start and end is a token's start or the text's end."
  unfoldable pub boundary : ℕ → Bool
  boundary n = eqb n end || some? (λ (p : Placed). eqb n p.start) ps

  unfoldable pub boundaries : Span → Bool
  boundaries s = boundary s.start && boundary s.stop

  unfoldable pub bounds_ok : Statement → Bool
  bounds_ok s = boundaries s.span && every boundaries s.parts

  -- the outline fits the text of that many bytes and these tokens: a field for each sentence of "When an outline fits", the sixth in its two halves
  pub record Fits (words : List ℕ) : Type 0 where
    -- "Records are read exactly, no word left over."
    pub exact : eqb (length (statements words).1) 0 ≡ true
    -- "Kinds are 0 or 1; a definition has one part, equal to its span."
    pub kinds : every kind_ok (statements words).0 ≡ true
    -- "Statements have start below end, end within the text, each starting at or after the one before ends."
    pub apart : ascending 0 end (spans_of (statements words).0) ≡ true
    -- "Parts are the same within their statement."
    pub parts : every parts_ok (statements words).0 ≡ true
    -- "Every start and end is a token's start or the text's end."
    pub bounds : every bounds_ok (statements words).0 ≡ true
    -- "A token in a statement that is neither white space nor comment lies in a part,
    pub covered : each_ok covered_ok (statements words).0 ps ≡ true
    -- and each statement has such a token."
    pub used : each_ok plain_ok (statements words).0 ps ≡ true
    -- "Outside statements stand only white space and comments."
    pub outside : gaps_ok (spans_of (statements words).0) ps ≡ true
    -- "In each part, counting `( [ {` as +1 and `) ] }` as -1, the depth never falls below 0 and ends at 0."
    pub balance : each_ok balance_ok (statements words).0 ps ≡ true

  -- the same as one test
  unfoldable pub fits : List ℕ → Bool
  fits words =
      let ss = (statements words).0 in
      eqb (length (statements words).1) 0 && (every kind_ok ss && (ascending 0 end (spans_of ss) && (every parts_ok ss && (every bounds_ok ss && (each_ok covered_ok ss ps && (each_ok plain_ok ss ps && (gaps_ok (spans_of ss) ps && each_ok balance_ok ss ps)))))))
