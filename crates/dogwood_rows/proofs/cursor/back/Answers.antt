use mathlib.Core.Path.{sym, ◌∙◌}
use native.Mathlib.Omega.{arith}
use Rattle.dogwood_rows.proofs.Steps.{back_none, back_ended, back_row}
use Rattle.dogwood_rows.proofs.cursor.back.Goals as goal

pub returns-in_err-before : goal.returns-in_err-before
returns-in_err-before c = c.from_residual.ensures ∙ sym (back_none _ _ (omega (arith, c.in_err-before.ensures)))

pub returns-in_err-row : goal.returns-in_err-row
returns-in_err-row c = let h = c.in_ok-before.ensures in c.from_residual-in_err-row.ensures ∙ back_ended _ _ h.0 h.1 c.in_err-row.ensures

pub returns : goal.returns
returns c = let h = c.in_ok-before.ensures in back_row _ _ h.0 h.1 c.in_ok-row.ensures
