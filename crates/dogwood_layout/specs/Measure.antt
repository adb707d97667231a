-- The width of a text and the column behind it, told together, and byte by byte.
use Rattle.std.specs.Prelude.{◌||◌, List, [], ◌∷◌, ℕ, ◌+◌, eqb, ltb, leb, length, if◌then◌else◌}
use Rattle.dogwood_rules.specs.Layout.{column}
use Rattle.dogwood_layout.specs.declared.Span.{Span}

-- what a text adds
abbrev pub span_after : Span → List ℕ → Span
span_after s cs = record { width = s.width + length cs; col = column s.col cs }

-- what a byte of UTF-8 adds: an LF begins a line, a byte 80 to BF belongs to the character before
unfoldable pub past_byte : Span → ℕ → Span
past_byte s b =
    if eqb b 10 then record { width = s.width + 1; col = 0 }
    else if ltb b 128 || leb 192 b then record { width = s.width + 1; col = s.col + 1 }
    else s

unfoldable pub past_bytes : Span → List ℕ → Span
past_bytes s [] = s
past_bytes s (b ∷ bs) = past_bytes (past_byte s b) bs
