use mathlib.Core.Path.{ap, ◌∙◌}
use native.Mathlib.Omega.{arith}
use Rattle.dogwood_words.specs.Rows.{walked_of}
use Rattle.dogwood_words.proofs.RowSteps.{row_stands}
use Rattle.dogwood_words.proofs.GapSteps.{part_done, part_stop, part_open, part_close, part_under, part_on}
use Rattle.dogwood_words.proofs.walks.part.Goals as goal

pub returns-then-n-row : goal.returns-then-n-row
returns-then-n-row c =
    c.then_some.ensures ∙ part_stop _ _ _ _ _ _ (row_stands _ _ c.in-Some.ensures) c.if-n-row.true c.ends.ensures ∙ ap walked_of c.loop-row.invariant.0

pub loop-row-preserved-then-opens : goal.loop-row-preserved-then-opens
loop-row-preserved-then-opens c =
    (part_open _ _ _ _ _ _ (row_stands _ _ c.in-Some.ensures) c.if-n-row.false c.byte-first.ensures c.is_plain-seen.ensures c.if-opens.ensures ∙ c.loop-row.invariant.0, omega (arith, c.loop-row.invariant.1, (row_stands c.args.table.now c.loop-row.i c.in-Some.ensures).on))

pub returns-in_err-depth : goal.returns-in_err-depth
returns-in_err-depth c =
    c.from_residual.ensures
    ∙ part_under _ _ _ _ _ _ (row_stands _ _ c.in-Some.ensures) c.if-n-row.false c.byte-first.ensures c.is_plain-seen.ensures c.if-opens.ensures c.if-closes.ensures c.in_err-depth.ensures
    ∙ ap walked_of c.loop-row.invariant.0

pub loop-row-preserved-then-closes : goal.loop-row-preserved-then-closes
loop-row-preserved-then-closes c =
    (part_close _ _ _ _ _ _ (row_stands _ _ c.in-Some.ensures) c.if-n-row.false c.byte-first.ensures c.is_plain-seen.ensures c.if-opens.ensures c.if-closes.ensures c.in_ok-depth.ensures ∙ c.loop-row.invariant.0, omega (arith, c.in_ok-depth.ensures, c.loop-row.invariant.1, (row_stands c.args.table.now c.loop-row.i c.in-Some.ensures).on))

pub loop-row-preserved : goal.loop-row-preserved
loop-row-preserved c =
    (part_on _ _ _ _ _ _ (row_stands _ _ c.in-Some.ensures) c.if-n-row.false c.byte-first.ensures c.is_plain-seen.ensures c.if-opens.ensures c.if-closes.ensures ∙ c.loop-row.invariant.0, omega (arith, c.loop-row.invariant.1, (row_stands c.args.table.now c.loop-row.i c.in-Some.ensures).on))

pub returns : goal.returns
returns c = c.then_some-2.ensures ∙ part_done _ _ _ _ _ _ c.in_default.ensures c.ends-2.ensures ∙ ap walked_of c.loop-row.invariant.0
