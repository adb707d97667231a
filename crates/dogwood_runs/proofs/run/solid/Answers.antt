use native.Mathlib.Omega.{arith}
use borrow.Author.Rules.{rules}
use Rattle.dogwood_layout.proofs.Ends.{back_start, back_there, back_turn, back_stop, back_none}
use Rattle.dogwood_runs.proofs.run.solid.Goals as goal

pub loop-n-init : goal.loop-n-init
loop-n-init c = back_start _ c.requires

pub overflow_sub-n : goal.overflow_sub-n
overflow_sub-n c = back_there _ _ c.loop-n.invariant c.loop-n-test.true

pub offset_bounds-table-n : goal.offset_bounds-table-n
offset_bounds-table-n c = (let a = c.loop-n.invariant.fits in let g = c.well_formed in search rules)

pub bounds-table-n : goal.bounds-table-n
bounds-table-n c = (let a = c.loop-n.invariant.fits in let b = c.loop-n-test.true in omega arith)

pub overflow_sub-n-in-loop-n : goal.overflow_sub-n-in-loop-n
overflow_sub-n-in-loop-n c = back_there _ _ c.loop-n.invariant c.loop-n-test.true

pub loop-n-smaller : goal.loop-n-smaller
loop-n-smaller c = (let b = c.loop-n-test.true in omega arith)

pub loop-n-preserved : goal.loop-n-preserved
loop-n-preserved c = back_turn _ _ c.loop-n.invariant c.loop-n-test.true (omega arith)

pub returns-after-loop-n : goal.returns-after-loop-n
returns-after-loop-n c = back_none _ _ c.loop-n.invariant (omega (arith, c.loop-n-test.false))

pub returns-then-table-n : goal.returns-then-table-n
returns-then-table-n c = back_stop _ _ c.loop-n.invariant c.loop-n-test.true c.if-table-n.true
