use mathlib.Core.Path.{ap, ◌∙◌}
use Rattle.dogwood_words.specs.Search.{found_of}
use Rattle.dogwood_words.proofs.RowSteps.{row_stands}
use Rattle.dogwood_searches.proofs.TableSearch.{comment_done, comment_stop, comment_here, comment_on}
use Rattle.dogwood_searches.proofs.searches.comment_before.Goals as goal

pub returns-then-n-row : goal.returns-then-n-row
returns-then-n-row c =
    ap found_of (comment_stop c.args.table.now c.args.n c.loop-row.i (row_stands _ _ c.in-Some.ensures) c.if-n-row.true ∙ c.loop-row.invariant)

pub returns-then-row : goal.returns-then-row
returns-then-row c =
    ap found_of (comment_here c.args.table.now c.args.n c.loop-row.i (row_stands _ _ c.in-Some.ensures) c.if-n-row.false c.if-row.true ∙ c.loop-row.invariant)

pub loop-row-preserved : goal.loop-row-preserved
loop-row-preserved c = comment_on _ _ _ (row_stands _ _ c.in-Some.ensures) c.if-n-row.false c.if-row.false ∙ c.loop-row.invariant

pub returns : goal.returns
returns c = ap found_of (comment_done c.args.table.now c.args.n c.loop-row.i c.in_default.ensures ∙ c.loop-row.invariant)
