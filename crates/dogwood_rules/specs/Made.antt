-- What a layout is made of, white space included: the layout once more, as tokens. Each definition goes by the tests of its counterpart in Layout and
-- File, and a law says that it spells that layout (proofs/Spelt).
use Rattle.std.specs.Prelude.{true, false, ◌||◌, List, [], ◌∷◌, ◌++◌, ℕ, suc, ◌+◌, ◌*◌, leb, length, replicate, if◌then◌else◌}
use Rattle.dogwood_rules.specs.Basic.{drop_back, trim}
use Rattle.dogwood_rules.specs.Token.{Token, Whitespace, white}
use Rattle.dogwood_rules.specs.Tree.{blank, comment, shown, flat, Run, nothing, single, group, Items, end, item, tokens_of, run_of}
use Rattle.dogwood_rules.specs.Layout.{Settings, column, empty, following, fit_group, join_lines, lines}
use Rattle.dogwood_rules.specs.File.{Piece, remark, laid}

-- white space: one space; an LF and n spaces; two LF
abbrev pub space : Token
space = record { kind = Whitespace; text = 32 ∷ [] }

abbrev pub new_line : ℕ → Token
new_line n = record { kind = Whitespace; text = 10 ∷ replicate n 32 }

abbrev pub two_lines : Token
two_lines = record { kind = Whitespace; text = 10 ∷ 10 ∷ [] }

-- A run -------------------------------------------------------------------------------------------------

unfoldable pub shown_as : Token → Token
shown_as t = if blank t then space else t

unfoldable pub joined_as : List Token → List Token
joined_as [] = []
joined_as (t ∷ ts) = shown_as t ∷ joined_as ts

unfoldable pub flat_as : List Token → List Token
flat_as ts = joined_as (trim blank ts)

module _ (S : Settings) where
  unfoldable pub fit_or_as : ℕ → List Token → List Token → List Token
  fit_or_as d ts walked = if leb (S.indent * d + length (flat ts)) S.width then flat_as ts else trim blank walked

  unfoldable pub fit_group_as : ℕ → ℕ → ℕ → Token → List Token → Token → List Token → List Token
  fit_group_as d n m o inside c broken =
      if empty (flat inside) || leb (n + length (flat (o ∷ inside ++ c ∷ [])) + m) S.width then flat_as (o ∷ inside ++ c ∷ [])
      else o ∷ broken ++ new_line (S.indent * d) ∷ c ∷ []

  unfoldable mutual
    pub walk_as : ℕ → ℕ → Run → List Token
    walk_as d n nothing = []
    walk_as d n (single t r) = shown_as t ∷ walk_as d (column n (shown t)) r
    walk_as d n (group o inside is c r) =
        fit_group_as d n (following S r) o inside c (lines_as (suc d) is)
        ++ walk_as d (column n (fit_group S d n (following S r) o inside c (join_lines (lines S (suc d) is)))) r

    pub lines_as : ℕ → Items → List Token
    lines_as d end = []
    lines_as d (item r is) = new_line (S.indent * d) ∷ (fit_or_as d (tokens_of r) (walk_as d (S.indent * d) r) ++ lines_as d is)

  unfoldable pub layout_as : ℕ → List Token → List Token
  layout_as d ts = fit_or_as d ts (walk_as d (S.indent * d) (run_of ts))

-- "comments cut at the right"
unfoldable pub cut_right : Token → Token
cut_right t = if comment t then record { kind = t.kind; text = drop_back white t.text } else t

-- A file --------------------------------------------------------------------------------------------------

-- two runs of tokens on lines of their own; an empty one leaves no line
unfoldable pub on_lines : List Token → List Token → List Token
on_lines [] us = us
on_lines (t ∷ ts) [] = t ∷ ts
on_lines (t ∷ ts) (u ∷ us) = t ∷ ts ++ new_line 0 ∷ u ∷ us

unfoldable pub gap_as : Piece → Token
gap_as (remark t) = new_line 0
gap_as (laid ps) = two_lines

module _ (S : Settings) where
  unfoldable pub parts_as : List (List Token) → List Token
  parts_as [] = []
  parts_as (ts ∷ ps) = on_lines (layout_as S 0 ts) (parts_as ps)

  unfoldable pub piece_as : Piece → List Token
  piece_as (remark t) = cut_right t ∷ []
  piece_as (laid ps) = parts_as ps

  unfoldable pub file_as : List Piece → List Token
  file_as [] = []
  file_as (p ∷ []) = piece_as p
  file_as (p ∷ q ∷ ps) = piece_as p ++ gap_as p ∷ file_as (q ∷ ps)
