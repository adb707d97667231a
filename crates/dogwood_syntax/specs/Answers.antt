-- What tokenising a text answers, and the table afterwards.
use Rattle.std.specs.Prelude.{ℕ, ◌*◌, List, ◌++◌, cond, length, drop, leb, None, Option, Some, Result, Ok, Err}
use Rattle.dogwood_rules.specs.Token.{words_of}
use Rattle.dogwood_syntax.specs.declared.tokenizing.NotTokenized.{NotTokenized}
use Rattle.dogwood_syntax.specs.declared.tokenizing.NotTokenized.TheVariants.{Unended, Small}
use Rattle.dogwood_tokens.specs.Cursor.{tokens_at}
use Rattle.dogwood_tokens.specs.Tokens.{open_from}

-- a string without end; then a table of l words that is too small; else the number of tokens
abbrev pub fitted : Option ℕ → ℕ → ℕ → Result ℕ NotTokenized
fitted (Some i) n l = Err (Unended i)
fitted None n l = cond (leb (3 * n) l) (Ok n) (Err (Small n))

-- the table begins with the words, the rest as before; it is as before where there is a refusal
abbrev pub filled : Result ℕ NotTokenized → List ℕ → List ℕ → List ℕ
filled (Ok n) ws t = ws ++ drop (length ws) t
filled (Err e) ws t = t

unfoldable pub answer : List ℕ → ℕ → Result ℕ NotTokenized
answer s l = fitted (open_from s 0) (length (tokens_at s 0)) l

unfoldable pub table_after : List ℕ → List ℕ → List ℕ
unfolding answer
table_after s t = filled (answer s (length t)) (words_of (tokens_at s 0)) t
