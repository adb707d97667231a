-- What is claimed of the layout: number 3 of the mission, and what follows from it for two sources.
use Rattle.std.specs.Prelude.{◌≡◌, List, [], ◌∷◌, ◌++◌, ℕ, length, drop, if◌then◌else◌}
use Rattle.dogwood_rules.specs.Utf8.{decode, encode, marked, mark_of, text_of}
use Rattle.dogwood_rules.specs.Token.{Token, tokenise, placed}
use Rattle.dogwood_rules.specs.Tree.{blank}
use Rattle.dogwood_rules.specs.Layout.{Settings}
use Rattle.dogwood_rules.specs.Outline.{statements}
use Rattle.dogwood_rules.specs.File.{Piece, pieces, join_pieces}
use Rattle.dogwood_rules.specs.Answer.{answer}
use Rattle.dogwood_rules.specs.Made.{cut_right, file_as}

-- "non-whitespace tokens, in order, same kind and bytes, comments cut at the right"
unfoldable pub nonblank : List Token → List Token
nonblank [] = []
nonblank (t ∷ ts) = if blank t then nonblank ts else cut_right t ∷ nonblank ts

-- the code points of a source's text, its tokens, and its pieces under an outline
unfoldable pub codes_of : List ℕ → List ℕ
codes_of source = (decode (text_of source)).0

unfoldable pub tokens_in : List ℕ → List Token
tokens_in source = (tokenise (codes_of source)).0

unfoldable pub pieces_of : List ℕ → List ℕ → List Piece
pieces_of source outline = pieces (statements outline).0 (placed 0 (tokens_in source))

-- the layout, in code points
unfoldable pub layout_of : Settings → List ℕ → List ℕ → List ℕ
layout_of S source outline = join_pieces S (pieces_of source outline)

-- the tokens that the layout is made of, white space included
unfoldable pub made_of : Settings → List ℕ → List ℕ → List Token
made_of S source outline = file_as S (pieces_of source outline)

-- "the output (after its copied mark)": not a mark that the layout may open with (01, "Wrong turns")
unfoldable pub behind_mark : List ℕ → List ℕ → List ℕ
behind_mark source output = drop (length (mark_of source)) output

-- Number 3: "When the answer is 0, the output (after its copied mark) tokenises to the source's non-whitespace tokens". It is said of number 2's layout,
-- for the identity would do for the rest; and in the strong form: the layout tokenises to exactly the tokens that it was made of, white space included
pub record Preserved (S : Settings) (source outline output : List ℕ) : Type 0 where
  pub written : output ≡ mark_of source ++ encode (layout_of S source outline)
  -- all of it is UTF-8, and nothing of it is a string without end
  pub readable : decode (behind_mark source output) ≡ (layout_of S source outline, [])
  pub made : tokenise (layout_of S source outline) ≡ (made_of S source outline, [])
  pub same : nonblank (made_of S source outline) ≡ nonblank (tokens_in source)

abbrev pub Number3 : Type 0
Number3 =
    (S : Settings) (source outline : List ℕ) (table_room output_room : ℕ)
    → (answer S source outline table_room output_room).number ≡ 0
    → Preserved S source outline (answer S source outline table_room output_room).output

-- the same in the mission's words alone: of bytes and tokens, no layout in sight
pub record Kept (source output : List ℕ) : Type 0 where
  pub valid : (decode (behind_mark source output)).1 ≡ []
  pub ended : (tokenise (decode (behind_mark source output)).0).1 ≡ []
  pub same : nonblank (tokenise (decode (behind_mark source output)).0).0 ≡ nonblank (tokens_in source)

abbrev pub Number3' : Type 0
Number3' =
    (S : Settings) (source outline : List ℕ) (table_room output_room : ℕ)
    → (answer S source outline table_room output_room).number ≡ 0
    → Kept source (answer S source outline table_room output_room).output

-- "So two sources, both with a mark or both without, laid out to the same bytes have the same such tokens." With any settings, outlines and rooms of each
abbrev pub SameTokens : Type 0
SameTokens =
    (S₁ S₂ : Settings) (source₁ source₂ outline₁ outline₂ : List ℕ) (table₁ table₂ room₁ room₂ : ℕ)
    → marked source₁ ≡ marked source₂
    → (answer S₁ source₁ outline₁ table₁ room₁).number ≡ 0
    → (answer S₂ source₂ outline₂ table₂ room₂).number ≡ 0
    → (answer S₁ source₁ outline₁ table₁ room₁).output ≡ (answer S₂ source₂ outline₂ table₂ room₂).output
    → nonblank (tokens_in source₁) ≡ nonblank (tokens_in source₂)
