use mathlib.Core.Path.{sym}
use native.Mathlib.Omega.{arith}
use Rattle.dogwood_rows.proofs.Steps.{step_none, step_row}
use Rattle.dogwood_rows.proofs.cursor.next.Goals as goal

pub returns-then-table-lt-WORDS : goal.returns-then-table-lt-WORDS
returns-then-table-lt-WORDS c = sym (step_none c.args.table.now c.args.at (omega (arith, c.if-table-lt-WORDS.true)))

pub returns-then-table-at : goal.returns-then-table-at
returns-then-table-at c = sym (step_none c.args.table.now c.args.at (omega (arith, c.if-table-at.true, c.if-table-lt-WORDS.false)))

pub returns : goal.returns
returns c =
    sym (step_row c.args.table.now c.args.at (omega (arith, c.if-table-at.false, c.if-table-lt-WORDS.false)))
