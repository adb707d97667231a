use native.Mathlib.Omega.{arith}
use borrow.Author.Rules.{rules}
use Rattle.dogwood_layout.proofs.Places.{until_start, until_there, until_turn, until_stop, until_end}
use Rattle.dogwood_statements.proofs.file.until.Goals as goal

pub loop-i-init : goal.loop-i-init
loop-i-init c = until_start _ _ c.requires

pub overflow_add-i : goal.overflow_add-i
overflow_add-i c =
    let a = until_there _ _ _ c.loop-i.invariant c.loop-i-test.true in
    let g = c.well_formed in
    search rules

pub offset_bounds-table-i : goal.offset_bounds-table-i
offset_bounds-table-i c =
    let a = until_there _ _ _ c.loop-i.invariant c.loop-i-test.true in
    let g = c.well_formed in
    search rules

pub bounds-table-i : goal.bounds-table-i
bounds-table-i c =
    let a = until_there _ _ _ c.loop-i.invariant c.loop-i-test.true in
    search rules

pub overflow_add-i-in-loop-i : goal.overflow_add-i-in-loop-i
overflow_add-i-in-loop-i c =
    let a = until_there _ _ _ c.loop-i.invariant c.loop-i-test.true in
    let g = c.well_formed in
    search rules

pub loop-i-smaller : goal.loop-i-smaller
loop-i-smaller c = (let a = c.loop-i-test.true in omega arith)

pub loop-i-preserved : goal.loop-i-preserved
loop-i-preserved c = until_turn _ _ _ c.loop-i.invariant c.loop-i-test.true (omega (arith, c.if-place-table.false))

pub returns-after-loop-i : goal.returns-after-loop-i
returns-after-loop-i c = until_end _ _ _ c.loop-i.invariant (omega (arith, c.loop-i-test.false))

pub returns-then-place-table : goal.returns-then-place-table
returns-then-place-table c = until_stop _ _ _ c.loop-i.invariant c.loop-i-test.true c.if-place-table.true
