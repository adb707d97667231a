use mathlib.Core.Path.{ap, ◌∙◌}
use native.Mathlib.Omega.{arith}
use Rattle.dogwood_words.specs.Search.{found_of}
use Rattle.dogwood_words.proofs.Words.{next_room}
use Rattle.dogwood_searches.proofs.TableSearch.{comments_none, comments_here, comments_on}
use Rattle.dogwood_searches.proofs.searches.first_comment.Goals as goal

pub returns-in-Some-comment_before : goal.returns-in-Some-comment_before
returns-in-Some-comment_before c =
    ap found_of (comments_here _ _ c.loop-record.at c.loop-record.i c.in-Some.ensures c.skip-start.ensures c.in-Some-comment_before.ensures ∙ c.loop-record.invariant)

pub loop-record-smaller : goal.loop-record-smaller
loop-record-smaller c = omega (arith, next_room c.args.outline.now c.loop-record.i c.in-Some.ensures)

pub loop-record-preserved : goal.loop-record-preserved
loop-record-preserved c =
    comments_on _ _ _ _ c.in-Some.ensures c.skip-start.ensures c.in_default-comment_before.ensures c.skip-at.ensures ∙ c.loop-record.invariant

pub returns : goal.returns
returns c = ap found_of (comments_none c.args.table.now c.args.outline.now c.loop-record.at c.loop-record.i c.in_default.ensures ∙ c.loop-record.invariant)
