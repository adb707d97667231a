-- What a file is made of, each behind the LFs that are due before it.
use Rattle.std.specs.Prelude.{◌≡◌, List, [], ◌∷◌, ◌++◌, ℕ, replicate, if◌then◌else◌}
use Rattle.pen.specs.Over.{Wrote, wrote_only}
use Rattle.dogwood_rules.specs.Basic.{drop_back}
use Rattle.dogwood_rules.specs.Utf8.{encode}
use Rattle.dogwood_rules.specs.Token.{Token, white}
use Rattle.dogwood_rules.specs.Tree.{comment}
use Rattle.dogwood_rules.specs.Layout.{Settings}
use Rattle.dogwood_rules.specs.File.{Piece, remark, laid, piece_text}

-- n LFs and a text
abbrev pub behind : ℕ → List ℕ → List ℕ
behind n cs = replicate n 10 ++ cs

-- the lines of a statement, where n LFs are due before the first; how many are due behind them
unfoldable pub due_lines : ℕ → List (List ℕ) → List ℕ
due_lines n [] = []
due_lines n (l ∷ ls) = behind n (l ++ due_lines 1 ls)

unfoldable pub lines_due : ℕ → List (List ℕ) → ℕ
lines_due n [] = n
lines_due n (l ∷ ls) = 1

-- the comments among some tokens in the same way
unfoldable pub due_remarks : ℕ → List Token → List ℕ
due_remarks n [] = []
due_remarks n (t ∷ ts) = if comment t then behind n (drop_back white t.text ++ due_remarks 1 ts) else due_remarks n ts

unfoldable pub remarks_due : ℕ → List Token → ℕ
remarks_due n [] = n
remarks_due n (t ∷ ts) = if comment t then remarks_due 1 ts else remarks_due n ts

unfoldable pub due_after : Piece → ℕ
due_after (remark t) = 1
due_after (laid ps) = 2

-- the pieces of a file
unfoldable pub due_pieces : Settings → ℕ → List Piece → List ℕ
due_pieces S n [] = []
due_pieces S n (p ∷ ps) = behind n (piece_text S p ++ due_pieces S (due_after p) ps)

-- cs was written, and n LFs are due behind it
pub record Due (cs : List ℕ) (n : ℕ) (old : List ℕ) (count feeds : ℕ) (new : List ℕ) : Type 0 where
  pub wrote : Wrote old (encode cs) count new
  pub due : feeds ≡ n

-- no second count, no second number of LFs and no second output
pub due_only : (cs : List ℕ) (n : ℕ) (old : List ℕ) (r s feeds due : ℕ) (new other : List ℕ) → Due cs n old r feeds new → Due cs n old s due other → (r ≡ s) × (feeds ≡ due) × (new ≡ other)
due_only cs n old r s feeds due new other a b = let w = wrote_only old (encode cs) r s new other a.wrote b.wrote in (w.0, cc, w.1)
