use mathlib.Core.Path.{refl, ap, subst, ◌∙◌}
use Prim.Native.Nat.{ℕ, ◌<◌, ◌≤◌}
use native.Mathlib.Omega.{arith}
use Rattle.dogwood_rules.specs.Tree.{run_of}
use Rattle.dogwood_layout.specs.View.{tokens}
use Rattle.dogwood_layout.proofs.Splits.{filled-count, item_count, sets_start, sets_turn, sets_stop, sets_end, found_start, found_turn, found_two, found_end, item_here}
use Rattle.dogwood_layout.proofs.Ends.{holds_whole}
use Rattle.dogwood_layout.proofs.Tables.{ready_part}
use Rattle.dogwood_runs.specs.Separators.{set_number}
use Rattle.dogwood_runs.proofs.Separators.{set_at}
use Rattle.dogwood_runs.proofs.run.split_items.Goals as goal

pub sets-init : goal.sets-init
sets-init c = (refl, sets_start _)

pub loop-i-init : goal.loop-i-init
loop-i-init c = (c.sets.invariant.0, found_start _ _ _ c.args.run.ready c.requires)

pub slice_bounds-rest-count : goal.slice_bounds-rest-count
slice_bounds-rest-count c = c.loop-i.invariant.1.at.fits

pub slice_bounds-rest-start : goal.slice_bounds-rest-start
slice_bounds-rest-start c = c.loop-i.invariant.1.at.fits

pub overflow_add-i : goal.overflow_add-i
overflow_add-i c =
    let h = (item_here _ _ _ _ _ c.loop-i.invariant.1.at c.loop-i-test.true c.item_end_by-m.ensures).fits in
    let s = c.args.run.ready.short in
    omega arith

pub slice_bounds-filled-end : goal.slice_bounds-filled-end
slice_bounds-filled-end c = (item_here _ _ _ _ _ c.loop-i.invariant.1.at c.loop-i-test.true c.item_end_by-m.ensures).fits

pub filled-requires : goal.filled-requires
filled-requires c =
    let h = (item_here _ _ _ _ _ c.loop-i.invariant.1.at c.loop-i-test.true c.item_end_by-m.ensures) in
    holds_whole _ _ (ready_part _ _ _ _ h.count c.args.run.ready c.loop-i.invariant.1.at.holds h.words).holds

pub loop-i-smaller : goal.loop-i-smaller
loop-i-smaller c =
    let h = (item_here _ _ _ _ _ c.loop-i.invariant.1.at c.loop-i-test.true c.item_end_by-m.ensures) in
    let a = h.some in
    let b = h.fits in
    omega arith

pub loop-i-preserved : goal.loop-i-preserved
loop-i-preserved c = (
  c.loop-i.invariant.0,
  found_turn _ _ _ _ _ _ c.loop-i.invariant.1 (item_here _ _ _ _ _ c.loop-i.invariant.1.at c.loop-i-test.true c.item_end_by-m.ensures) c.args.run.ready (c.from-found.ensures ∙ filled-count _ c.filled.ensures) (omega (arith, c.if-found-gt1.false)),
)

pub sets-preserved : goal.sets-preserved
sets-preserved c =
    let few = found_end _ _ _ _ _ c.loop-i.invariant.1 (omega (arith, c.loop-i-test.false)) in
    (c.loop-i.invariant.0, sets_turn _ _ c.sets.invariant.1 c.sets-test.true (subst (λ (n : ℕ). item_count n (run_of (tokens c.args.run.text.now c.args.run.table.now)) ≤ 1) (set_at _ c.sets-test.true) few))

pub returns-after-sets : goal.returns-after-sets
returns-after-sets c = ap set_number c.sets.invariant.0 ∙ sets_end _ _ c.sets.invariant.1 (omega (arith, c.sets-test.false))

pub returns-then-found-gt1 : goal.returns-then-found-gt1
returns-then-found-gt1 c =
    let two = found_two _ _ _ _ _ _ c.loop-i.invariant.1 (item_here _ _ _ _ _ c.loop-i.invariant.1.at c.loop-i-test.true c.item_end_by-m.ensures) c.args.run.ready (c.from-found.ensures ∙ filled-count _ c.filled.ensures) c.if-found-gt1.true in
    set_at _ c.sets-test.true ∙ sets_stop _ _ c.sets.invariant.1 c.sets-test.true (subst (λ (n : ℕ). 1 < item_count n (run_of (tokens c.args.run.text.now c.args.run.table.now))) (set_at _ c.sets-test.true) two)
