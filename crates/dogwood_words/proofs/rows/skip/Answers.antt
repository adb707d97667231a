use mathlib.Core.Path.{◌∙◌}
use Rattle.dogwood_words.proofs.RowSteps.{row_stands, skip_done, skip_stop, skip_on}
use Rattle.dogwood_words.proofs.rows.skip.Goals as goal

pub returns-then-n-row : goal.returns-then-n-row
returns-then-n-row c = skip_stop _ _ _ (row_stands _ _ c.in-Some.ensures) c.if-n-row.true ∙ c.loop-row.invariant

pub loop-row-preserved : goal.loop-row-preserved
loop-row-preserved c = skip_on _ _ _ (row_stands _ _ c.in-Some.ensures) c.if-n-row.false ∙ c.loop-row.invariant

pub returns : goal.returns
returns c = skip_done _ _ _ c.in_default.ensures ∙ c.loop-row.invariant
