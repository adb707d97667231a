-- The tokens of a text, and its first string without end, step by step.
use Rattle.std.specs.Prelude.{ℕ, ◌-◌, List, [], ◌∷◌, length, None, Option, Some}
use Rattle.dogwood_rules.specs.Utf8.{byte_length}
use Rattle.dogwood_rules.specs.Token.{Placed}
use Rattle.utf8.specs.Walk.{Next, stop, go, from}
use Rattle.dogwood_tokens.specs.declared.token.Lexeme.{Lexeme}
use Rattle.dogwood_tokens.specs.declared.token.Lexeme.TheVariants.{Token, NoEnd, End}
use Rattle.dogwood_tokens.specs.Token.{token_at}
use Rattle.dogwood_rows.specs.Kinds.{kind_of}
use Rattle.dogwood_rows.specs.declared.kind.Kind.{Kind}

-- kind, start and end
pub record Tok : Type 0 where
  pub kind : Kind
  pub start : ℕ
  pub end : ℕ

-- a token of dogwood_rules
abbrev pub tok : Placed → Tok
tok p = record { kind = kind_of p.token.kind; start = p.start; end = p.stop }

-- where what is left begins, in a text of l bytes
abbrev pub open_at : ℕ → List ℕ → Option ℕ
open_at l [] = None
open_at l (c ∷ cs) = Some (l - byte_length (c ∷ cs))

abbrev pub listed : ℕ → Lexeme → Next Tok (List Tok)
listed i (Token k e) = go (record { kind = k; start = i; end = e }) e
listed i NoEnd = stop []
listed i End = stop []

unfoldable pub token_step : List ℕ → ℕ → Next Tok (List Tok)
token_step s i = listed i (token_at s i)

-- the tokens from i on, to the end of the text or a string without end
unfoldable pub tokens_from : List ℕ → ℕ → List Tok
unfolding token_step
tokens_from s i = from (token_step s) ◌∷◌ [] (length s) i

abbrev pub sought : ℕ → Lexeme → Next (Unit {0}) (Option ℕ)
sought i (Token k e) = go tt e
sought i NoEnd = stop (Some i)
sought i End = stop None

unfoldable pub open_step : List ℕ → ℕ → Next (Unit {0}) (Option ℕ)
open_step s i = sought i (token_at s i)

-- the opening quote of the first string without end from i on
unfoldable pub open_from : List ℕ → ℕ → Option ℕ
unfolding open_step
open_from s i = from (open_step s) (λ u r. r) None (length s) i
