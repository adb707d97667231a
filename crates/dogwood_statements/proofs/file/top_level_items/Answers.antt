use mathlib.Core.Path.{refl, sym, subst}
use Prim.Native.Nat.{◌+◌}
use native.Mathlib.Omega.{arith}
use borrow.Author.Rules.{rules}
use Rattle.pen.proofs.Laws.{wrote-length}
use Rattle.dogwood_layout.specs.Pieces.{settings}
use Rattle.dogwood_layout.specs.View.{Holds}
use Rattle.dogwood_layout.proofs.Tables.{part_rest}
use Rattle.dogwood_layout.proofs.Statements.{cut_here, rest_whole}
use Rattle.dogwood_layout.proofs.Outlines.{statement_at_lem, file_start, next_parts, next_paired, next_before, next_own, next_bounded, file_turn, file_last}
use Rattle.dogwood_layout.proofs.Totals.{file_laid}
use Rattle.dogwood_statements.proofs.file.top_level_items.Goals as goal

pub loop-o-init : goal.loop-o-init
loop-o-init c = (refl, file_start _ _ _ _ _ c.args.run.ready.holds c.requires.0 c.requires.1)

pub bounds-outline-o : goal.bounds-outline-o
bounds-outline-o c =
    let s = (statement_at_lem c.args.outline.now c.loop-o.o c.loop-o-test.true c.loop-o.invariant.1.exact).fits in
    search rules

pub until-requires : goal.until-requires
until-requires c = rest_whole c.args.run.text.now c.args.run.table.now c.loop-o.i c.loop-o.invariant.1.holds

pub overflow_add-a : goal.overflow_add-a
overflow_add-a c =
    let a = c.loop-o.invariant.1 in
    let u = cut_here c.args.run.text.now c.args.run.table.now c.loop-o.i _ _ a.holds a.fits c.until.ensures in
    let f = u.fits in
    let g = c.well_formed in
    omega arith

pub offset_bounds-run-a : goal.offset_bounds-run-a
offset_bounds-run-a c =
    let a = c.loop-o.invariant.1 in
    let u = cut_here c.args.run.text.now c.args.run.table.now c.loop-o.i _ _ a.holds a.fits c.until.ensures in
    let f = u.fits in
    let g = c.well_formed in
    search rules

pub slice_bounds-until-count-in-loop-o : goal.slice_bounds-until-count-in-loop-o
slice_bounds-until-count-in-loop-o c =
    let a = c.loop-o.invariant.1 in
    let u = cut_here c.args.run.text.now c.args.run.table.now c.loop-o.i _ _ a.holds a.fits c.until.ensures in
    let f = u.fits in
    omega arith

pub slice_bounds-until-start-in-loop-o : goal.slice_bounds-until-start-in-loop-o
slice_bounds-until-start-in-loop-o c =
    let a = c.loop-o.invariant.1 in
    let u = cut_here c.args.run.text.now c.args.run.table.now c.loop-o.i _ _ a.holds a.fits c.until.ensures in
    let f = u.fits in
    omega arith

pub bounds-outline-o-in-loop-o : goal.bounds-outline-o-in-loop-o
bounds-outline-o-in-loop-o c =
    let s = (statement_at_lem c.args.outline.now c.loop-o.o c.loop-o-test.true c.loop-o.invariant.1.exact).fits in
    search rules

pub until-requires-in-loop-o : goal.until-requires-in-loop-o
until-requires-in-loop-o c =
    let a = c.loop-o.invariant.1 in
    let u = cut_here c.args.run.text.now c.args.run.table.now c.loop-o.i _ _ a.holds a.fits c.until.ensures in
    rest_whole c.args.run.text.now c.args.run.table.now (c.loop-o.i + c.until.result) u.holds

pub overflow_add-b : goal.overflow_add-b
overflow_add-b c =
    let a = c.loop-o.invariant.1 in
    let u = cut_here c.args.run.text.now c.args.run.table.now c.loop-o.i _ _ a.holds a.fits c.until.ensures in
    let v = cut_here c.args.run.text.now c.args.run.table.now (c.loop-o.i + c.until.result) _ _ u.holds u.fits c.until-in-loop-o.ensures in
    let f = v.fits in
    let g = c.well_formed in
    omega arith

pub slice_bounds-before-end : goal.slice_bounds-before-end
slice_bounds-before-end c =
    let a = c.loop-o.invariant.1 in
    let u = cut_here c.args.run.text.now c.args.run.table.now c.loop-o.i _ _ a.holds a.fits c.until.ensures in
    let v = cut_here c.args.run.text.now c.args.run.table.now (c.loop-o.i + c.until.result) _ _ u.holds u.fits c.until-in-loop-o.ensures in
    let e = u.fits in
    let f = v.fits in
    let g = c.well_formed in
    search rules

pub slice_bounds-own-end : goal.slice_bounds-own-end
slice_bounds-own-end c =
    let a = c.loop-o.invariant.1 in
    let u = cut_here c.args.run.text.now c.args.run.table.now c.loop-o.i _ _ a.holds a.fits c.until.ensures in
    let v = cut_here c.args.run.text.now c.args.run.table.now (c.loop-o.i + c.until.result) _ _ u.holds u.fits c.until-in-loop-o.ensures in
    let e = u.fits in
    let f = v.fits in
    let g = c.well_formed in
    search rules

pub bounds-outline-o-in-loop-o-2 : goal.bounds-outline-o-in-loop-o-2
bounds-outline-o-in-loop-o-2 c =
    let s = (statement_at_lem c.args.outline.now c.loop-o.o c.loop-o-test.true c.loop-o.invariant.1.exact).fits in
    search rules

pub slice_bounds-lay_next-end-in-loop-o : goal.slice_bounds-lay_next-end-in-loop-o
slice_bounds-lay_next-end-in-loop-o c =
    let s = (statement_at_lem c.args.outline.now c.loop-o.o c.loop-o-test.true c.loop-o.invariant.1.exact).fits in
    let g = c.well_formed in
    search rules

pub invariant_of-before : goal.invariant_of-before
invariant_of-before c =
    let S = settings c.args.page in
    let a = c.loop-o.invariant.1 in
    let s = statement_at_lem c.args.outline.now c.loop-o.o c.loop-o-test.true a.exact in
    let u = cut_here c.args.run.text.now c.args.run.table.now c.loop-o.i _ _ a.holds a.fits c.until.ensures in
    let v = cut_here c.args.run.text.now c.args.run.table.now (c.loop-o.i + c.until.result) _ _ u.holds u.fits c.until-in-loop-o.ensures in
    record { ready = next_before S _ _ _ a s u v c.args.run.ready }

pub invariant_of-own : goal.invariant_of-own
invariant_of-own c =
    let S = settings c.args.page in
    let a = c.loop-o.invariant.1 in
    let s = statement_at_lem c.args.outline.now c.loop-o.o c.loop-o-test.true a.exact in
    let u = cut_here c.args.run.text.now c.args.run.table.now c.loop-o.i _ _ a.holds a.fits c.until.ensures in
    let v = cut_here c.args.run.text.now c.args.run.table.now (c.loop-o.i + c.until.result) _ _ u.holds u.fits c.until-in-loop-o.ensures in
    record { ready = next_own S _ _ _ a s u v c.args.run.ready }

pub lay_next-requires : goal.lay_next-requires
lay_next-requires c =
    let S = settings c.args.page in
    let a = c.loop-o.invariant.1 in
    let s = statement_at_lem c.args.outline.now c.loop-o.o c.loop-o-test.true a.exact in
    let u = cut_here c.args.run.text.now c.args.run.table.now c.loop-o.i _ _ a.holds a.fits c.until.ensures in
    let v = cut_here c.args.run.text.now c.args.run.table.now (c.loop-o.i + c.until.result) _ _ u.holds u.fits c.until-in-loop-o.ensures in (
      next_paired S _ _ _ a s u v,
      next_parts S _ _ _ a s u v,
      next_bounded S _ _ _ a s u v c.requires.2,
    )

pub loop-o-preserved : goal.loop-o-preserved
loop-o-preserved c =
    let a = c.loop-o.invariant.1 in
    let s = statement_at_lem c.args.outline.now c.loop-o.o c.loop-o-test.true a.exact in
    let u = cut_here c.args.run.text.now c.args.run.table.now c.loop-o.i _ _ a.holds a.fits c.until.ensures in
    let v = cut_here c.args.run.text.now c.args.run.table.now (c.loop-o.i + c.until.result) _ _ u.holds u.fits c.until-in-loop-o.ensures in
    let g = file_turn (settings c.args.page) _ _ _ a s u v c.clip-at.ensures.place (omega (arith, c.loop-o.invariant.0, c.well_formed)) c.lay_next.ensures c.add-n.ensures.sum in
    (wrote-length g.wrote, g)

pub put_remarks-last-requires : goal.put_remarks-last-requires
put_remarks-last-requires c = subst (Holds c.args.run.text.now) (sym (part_rest c.args.run.table.now c.loop-o.i)) c.loop-o.invariant.1.holds

pub returns : goal.returns
returns c =
    file_laid c.args.page c.args.run.text.now c.args.run.table.now c.args.outline.now c.args.run.ready c.requires.2 c.requires.1
    (file_last (settings c.args.page) c.args.run.text.now c.args.run.table.now c.args.outline.now c.loop-o.invariant.1 (omega (arith, c.loop-o-test.false)) c.clip-at-2.ensures.place (omega (arith, c.loop-o.invariant.0, c.well_formed)) c.put_remarks-last.ensures c.add.ensures.sum)
