use mathlib.Core.Path.{◌∙◌}
use native.Mathlib.Omega.{arith}
use Rattle.dogwood_rows.proofs.Chunks.{pair}
use Rattle.dogwood_words.proofs.Chunks.{pairs_end}
use Rattle.dogwood_outline.proofs.PartTurns.{left_empty, left_gap, left_part, left_on, left_end, left_unseen}
use Rattle.dogwood_outline.proofs.fitting.parts.Goals as goal

pub returns-then-stop-start : goal.returns-then-stop-start
returns-then-stop-start c =
    let e = pair c.args.bounds.now c.loop-start.start-index c.as_chunks.ensures.front c.as_chunks.ensures.front_len c.loop-start-test.true in
    left_empty _ _ _ _ _ e c.if-stop-start.true ∙ c.loop-start.invariant

pub returns-in_default : goal.returns-in_default
returns-in_default c =
    let e = pair c.args.bounds.now c.loop-start.start-index c.as_chunks.ensures.front c.as_chunks.ensures.front_len c.loop-start-test.true in
    left_gap _ _ _ _ _ e c.if-stop-start.false c.in_default.ensures ∙ c.loop-start.invariant

pub returns-in_default-part : goal.returns-in_default-part
returns-in_default-part c =
    let e = pair c.args.bounds.now c.loop-start.start-index c.as_chunks.ensures.front c.as_chunks.ensures.front_len c.loop-start-test.true in
    left_part _ _ _ _ _ e c.if-stop-start.false c.in-Some.ensures c.in_default-part.ensures ∙ c.loop-start.invariant

pub loop-start-preserved : goal.loop-start-preserved
loop-start-preserved c =
    let e = pair c.args.bounds.now c.loop-start.start-index c.as_chunks.ensures.front c.as_chunks.ensures.front_len c.loop-start-test.true in
    left_on _ _ _ _ _ e c.if-stop-start.false c.in-Some.ensures c.in-Some-part.ensures ∙ c.loop-start.invariant

pub returns-then-seen : goal.returns-then-seen
returns-then-seen c =
    let e = pairs_end c.args.bounds.now c.loop-start.start-index (omega (arith, c.loop-start-test.false, c.as_chunks.ensures.front_len)) in
    c.is_some.ensures ∙ left_end _ _ _ _ _ _ e c.if-seen.true c.gap-then-seen.ensures ∙ c.loop-start.invariant

pub returns-else-seen : goal.returns-else-seen
returns-else-seen c =
    let e = pairs_end c.args.bounds.now c.loop-start.start-index (omega (arith, c.loop-start-test.false, c.as_chunks.ensures.front_len)) in
    left_unseen _ _ _ _ _ _ e c.if-seen.false ∙ c.loop-start.invariant
