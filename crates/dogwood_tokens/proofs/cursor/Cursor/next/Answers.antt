use mathlib.Core.Path.{sym, ◌∙◌}
use Rattle.dogwood_tokens.proofs.Walks.{next_is}
use Rattle.dogwood_tokens.proofs.cursor.Cursor.next.Goals as goal

pub returns-in-Token : goal.returns-in-Token
returns-in-Token c = sym (next_is c.args.text.now c.args.self.at (sym c.token_at.ensures ∙ c.in-Token.is))

pub returns-in-NoEnd : goal.returns-in-NoEnd
returns-in-NoEnd c = sym (next_is c.args.text.now c.args.self.at (sym c.token_at.ensures ∙ c.in-NoEnd.is))

pub returns-in-End : goal.returns-in-End
returns-in-End c = sym (next_is c.args.text.now c.args.self.at (sym c.token_at.ensures ∙ c.in-End.is))
