use mathlib.Core.Path.{ap, ◌∙◌}
use Rattle.dogwood_words.proofs.RowSteps.{row_from, row_at_lem}
use Rattle.dogwood_words.proofs.rows.row_at.Goals as goal

pub returns-in_err-row : goal.returns-in_err-row
returns-in_err-row c = c.from_residual.ensures ∙ ap row_from c.in_err-row.ensures ∙ row_at_lem _ _

pub returns : goal.returns
returns c = ap row_from c.in_ok-row.ensures ∙ row_at_lem _ _
