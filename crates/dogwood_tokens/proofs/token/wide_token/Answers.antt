use Prim.Native.Nat.{◌+◌}
use lib.ListN.{get_or}
use mathlib.Core.Path.{sym, ap, ◌∙◌}
use Rattle.utf8.proofs.Reading.{wide_at}
use Rattle.dogwood_tokens.specs.declared.token.Lexeme.TheVariants.{Token}
use Rattle.dogwood_tokens.specs.Token.{lexeme, token_at}
use Rattle.dogwood_tokens.proofs.Wide.{wide_space, wide_other}
use Rattle.dogwood_tokens.proofs.token.wide_token.Goals as goal
use Rattle.dogwood_rows.specs.declared.kind.Kind.TheVariants as K

pub returns-in_default : goal.returns-in_default
unfolding token_at
returns-in_default c = simp (sym c.decode.ensures ∙ c.in_default.is)

pub returns-then-is_space : goal.returns-then-is_space
unfolding token_at
returns-then-is_space c = ap (Token K.Whitespace) c.take_while.ensures ∙ sym (ap (lexeme c.args.s.now c.args.at) (sym c.decode.ensures ∙ c.in-Some.is) ∙ wide_space c.args.s.now c.args.at c.in-Some.field-0.code (get_or c.args.s.now (c.args.at + 1) 0) (sym c.is_space.ensures ∙ c.if-is_space.true))

pub returns : goal.returns
unfolding token_at
returns c = ap (Token K.Other) c.take_while-2.ensures ∙ sym (ap (lexeme c.args.s.now c.args.at) (sym c.decode.ensures ∙ c.in-Some.is) ∙ wide_other c.args.s.now c.args.at c.in-Some.field-0.code (get_or c.args.s.now (c.args.at + 1) 0) (wide_at c.args.s.now c.args.at (sym c.decode.ensures ∙ c.in-Some.is) c.requires) (sym c.is_space.ensures ∙ c.if-is_space.false))
