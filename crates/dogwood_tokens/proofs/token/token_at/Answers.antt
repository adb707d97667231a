use mathlib.Core.Path.{refl, sym, ap, ◌∙◌}
use native.Mathlib.Omega.{arith}
use Rattle.utf8.proofs.Inside.{plain}
use Rattle.utf8.proofs.Reading.{end_fault}
use Rattle.dogwood_tokens.specs.Token.{lexeme, token_at}
use Rattle.dogwood_tokens.proofs.token.token_at.Goals as goal

pub returns-then-s-at : goal.returns-then-s-at
unfolding token_at
returns-then-s-at c = sym (ap (lexeme c.args.s.now c.args.at) (end_fault c.args.s.now c.args.at c.if-s-at.true))

pub returns : goal.returns
unfolding token_at
returns c = c.ascii_token.ensures ∙ sym (ap (lexeme c.args.s.now c.args.at) (plain c.args.s.now c.args.at _ (omega arith) refl (omega arith)))
