use mathlib.Core.Path.{ap, ◌∙◌}
use Rattle.dogwood_words.specs.Search.{found_of}
use Rattle.dogwood_words.proofs.RowSteps.{row_stands}
use Rattle.dogwood_words.proofs.GapSteps.{gap_ends, gap_meets, gap_filled, gap_on}
use Rattle.dogwood_words.proofs.walks.gap.Goals as goal

pub returns-then-n-row : goal.returns-then-n-row
returns-then-n-row c =
    c.then_some.ensures ∙ gap_meets _ _ _ _ (row_stands _ _ c.in-Some.ensures) c.if-n-row.true ∙ ap found_of c.loop-row.invariant

pub returns-then-is_plain : goal.returns-then-is_plain
returns-then-is_plain c = gap_filled _ _ _ _ (row_stands _ _ c.in-Some.ensures) c.if-n-row.false c.if-is_plain.ensures ∙ ap found_of c.loop-row.invariant

pub loop-row-preserved : goal.loop-row-preserved
loop-row-preserved c = gap_on _ _ _ _ (row_stands _ _ c.in-Some.ensures) c.if-n-row.false c.if-is_plain.ensures ∙ c.loop-row.invariant

pub returns : goal.returns
returns c = c.then_some-2.ensures ∙ gap_ends _ _ _ _ c.in_default.ensures ∙ ap found_of c.loop-row.invariant
