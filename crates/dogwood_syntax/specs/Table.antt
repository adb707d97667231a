-- What the writing of the table comes to.
use Rattle.std.specs.Prelude.{ℕ, ◌≤◌, ◌≡◌, cond, List, ltb, length, None, Option, Some}
use Rattle.std.proofs.lemmas.List.Edits.{sets}
use Rattle.dogwood_rules.specs.Token.{words_of}
use Rattle.dogwood_tokens.specs.Cursor.{tokens_at}

-- n tokens were counted; where there is room for their words, these are written
pub record Filled (text table : List ℕ) (n : ℕ) (table' : List ℕ) : Type 0 where
  pub total : n ≡ length (tokens_at text 0)
  pub written : length (words_of (tokens_at text 0)) ≤ length table → table' ≡ sets table 0 (words_of (tokens_at text 0))

-- the number n of tokens, if it is more than that of the rows
unfoldable pub short_of : ℕ → ℕ → Option ℕ
short_of rows n = cond (ltb rows n) (Some n) None
