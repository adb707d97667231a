-- The token at a place: the first of the seven rules that applies decides.
use Rattle.std.specs.Prelude.{ℕ, ◌+◌, List, cond, ◌&&◌, get_or, eqb, None, Option, Some}
use Rattle.utf8.specs.Utf8.{decode_at}
use Rattle.dogwood_tokens.specs.declared.token.Lexeme.{Lexeme}
use Rattle.dogwood_tokens.specs.declared.token.Lexeme.TheVariants.{Token, NoEnd, End}
use Rattle.dogwood_rules.specs.Token.{white, letter, digit, wordly, other}
use Rattle.dogwood_letters.specs.Symbol.{symbol_len}
use Rattle.dogwood_scans.specs.Run.{run_end, string_end}
use Rattle.utf8.specs.declared.Char.{Char}
use Rattle.dogwood_letters.specs.Promises.{in_line}
use Rattle.dogwood_rows.specs.declared.kind.Kind.TheVariants as K

-- a string to its end, if it has one
abbrev pub string_to : Option ℕ → Lexeme
string_to (Some e) = Token K.String e
string_to None = NoEnd

-- a symbol of a length, or else an Other
abbrev pub symbol_or : List ℕ → ℕ → Option ℕ → Lexeme
symbol_or s i (Some n) = Token K.Symbol (i + n)
symbol_or s i None = Token K.Other (run_end other s i)

-- what the character c at i begins, before the byte b
unfoldable pub begins : List ℕ → ℕ → ℕ → ℕ → Lexeme
begins s i c b =
    cond (white c) (Token K.Whitespace (run_end white s i))
    (cond (eqb c 0x22) (string_to (string_end s (i + 1)))
    (cond (eqb c 0x2F && eqb b 0x2F) (Token K.Comment (run_end in_line s i))
    (cond (letter c) (Token K.Identifier (run_end wordly s i))
    (cond (digit c) (Token K.Number (run_end digit s i))
    (symbol_or s i (symbol_len c b))))))

abbrev pub lexeme : List ℕ → ℕ → Option Char → Lexeme
lexeme s i (Some c) = begins s i c.code (get_or s (i + 1) 0)
lexeme s i None = End

-- the token at i; End where no character stands
unfoldable pub token_at : List ℕ → ℕ → Lexeme
unfolding begins
token_at s i = lexeme s i (decode_at s i)
