use mathlib.Core.Path.{◌∙◌}
use native.Mathlib.Omega.{arith}
use Rattle.dogwood_words.proofs.Words.{next_room, alone_counts}
use lib.ListN.{length}
use Prim.Native.Nat.{◌<◌, ◌≤◌}
use borrow.Author.Tests.{ne_eqb}
use Rattle.dogwood_outline.proofs.PartTurns.{present}
use Rattle.dogwood_outline.proofs.RecordTurns.{left_end, left_over, left_kind, left_gap, left_parts, left_on, left_all}
use Rattle.dogwood_outline.proofs.fitting.fit.Goals as goal

pub loop-record-init : goal.loop-record-init
loop-record-init c = (left_all c.args.text.now c.args.table.now c.args.outline.now, omega arith)

pub kind_fits-requires : goal.kind_fits-requires
kind_fits-requires c = alone_counts c.args.outline.now c.loop-record.i c.in-Some.ensures

pub returns-then-not-kind_fits : goal.returns-then-not-kind_fits
returns-then-not-kind_fits c = left_kind _ _ _ _ _ c.in-Some.ensures c.if-not-kind_fits.ensures ∙ c.loop-record.invariant.0

pub returns-in_default-gap : goal.returns-in_default-gap
returns-in_default-gap c =
    left_gap _ _ _ _ _ c.in-Some.ensures c.if-not-kind_fits.ensures c.in_default-gap.ensures ∙ c.loop-record.invariant.0

pub slice_bounds-words-count : goal.slice_bounds-words-count
slice_bounds-words-count c = let p = next_room c.args.outline.now c.loop-record.i c.in-Some.ensures in omega (arith, p)

pub slice_bounds-words-start : goal.slice_bounds-words-start
slice_bounds-words-start c = let p = next_room c.args.outline.now c.loop-record.i c.in-Some.ensures in omega (arith, p)

pub slice_bounds-words-end : goal.slice_bounds-words-end
slice_bounds-words-end c = let p = next_room c.args.outline.now c.loop-record.i c.in-Some.ensures in omega (arith, p)

pub slice_bounds-parts-count : goal.slice_bounds-parts-count
slice_bounds-parts-count c = let p = alone_counts c.args.outline.now c.loop-record.i c.in-Some.ensures in omega (arith, p)

pub slice_bounds-parts-start : goal.slice_bounds-parts-start
slice_bounds-parts-start c = let p = alone_counts c.args.outline.now c.loop-record.i c.in-Some.ensures in omega (arith, p)

pub returns-then-not-parts : goal.returns-then-not-parts
returns-then-not-parts c =
    left_parts _ _ _ _ _ c.in-Some.ensures c.if-not-kind_fits.ensures c.in-Some-gap.ensures c.if-not-parts.ensures ∙ c.loop-record.invariant.0

pub loop-record-smaller : goal.loop-record-smaller
loop-record-smaller c = omega (arith, next_room c.args.outline.now c.loop-record.i c.in-Some.ensures)

pub loop-record-preserved : goal.loop-record-preserved
loop-record-preserved c =
    (left_on _ _ _ _ _ c.in-Some.ensures c.if-not-kind_fits.ensures c.in-Some-gap.ensures c.if-not-parts.ensures c.skip-row.ensures ∙ c.loop-record.invariant.0, (next_room c.args.outline.now c.loop-record.i c.in-Some.ensures).1)

pub returns-then-i-outline : goal.returns-then-i-outline
returns-then-i-outline c =
    let l : length c.args.outline.now ≤ c.loop-record.i = omega (arith, c.if-i-outline.true) in
    c.is_some.ensures ∙ present _ c.gap-then-i-outline.ensures ∙ left_end _ _ _ _ _ l ∙ c.loop-record.invariant.0

pub returns-else-i-outline : goal.returns-else-i-outline
returns-else-i-outline c =
    let l : c.loop-record.i < length c.args.outline.now = omega (arith, c.if-i-outline.false, c.loop-record.invariant.1) in
    ne_eqb _ _ c.if-i-outline.false ∙ left_over _ _ _ _ _ l c.in_default.ensures ∙ c.loop-record.invariant.0
