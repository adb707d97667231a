-- What a source is before an outline is looked at: the first three of the numbers answered, which every call shares.
use Rattle.std.specs.Prelude.{List, [], ℕ, ◌-◌, ltb, eqb, length, if◌then◌else◌}
use Rattle.dogwood_rules.specs.Utf8.{decode, byte_length, text_of}
use Rattle.dogwood_rules.specs.Token.{Token, Placed, tokenise, placed}

-- in 01's order: 11 source too long; 12 not UTF-8; 1 string without end, with the tokens before it; else the text's tokens
pub data Source : Type 0 where
  too_long : Source
  not_utf8 : (place : ℕ) → Source
  unended : (before : List Placed) (place : ℕ) → Source
  cut_into : List Placed → Source

module _ (source : List ℕ) where
  -- 01, 1: "its opening quote", a text offset
  unfoldable pub cut_up : List Token × List ℕ → Source
  cut_up r =
      if eqb (length r.1) 0 then cut_into (placed 0 r.0) else unended (placed 0 r.0) (length (text_of source) - byte_length r.1)

  -- 01, 12: "source offset where the first bad character begins"
  unfoldable pub decoded : List ℕ × List ℕ → Source
  decoded r = if eqb (length r.1) 0 then cut_up (tokenise r.0) else not_utf8 (length source - length r.1)

  -- 01: "The source is at most 1,048,576 bytes."
  unfoldable pub source_of : Source
  source_of = if ltb 1048576 (length source) then too_long else decoded (decode (text_of source))
