use mathlib.Core.Path.{refl}
use Prim.Native.Nat.{◌+◌}
use native.Mathlib.Omega.{arith}
use borrow.Author.Rules.{rules}
use Rattle.pen.proofs.Laws.{wrote-length}
use Rattle.dogwood_layout.proofs.Statements.{cut_here, rest_whole, parts_start, part_here, part_ready, part_bounded, parts_turn, parts_over}
use Rattle.dogwood_layout.specs.Pieces.{settings}
use Rattle.dogwood_statements.proofs.file.lay_statement.Goals as goal

pub loop-j-init : goal.loop-j-init
loop-j-init c = (refl, parts_start _ _ _ _ _ c.args.run.ready.holds c.requires.0 c.requires.1)

pub until-requires : goal.until-requires
until-requires c = rest_whole c.args.run.text.now c.args.run.table.now c.loop-j.i c.loop-j.invariant.1.holds

pub overflow_add-a : goal.overflow_add-a
overflow_add-a c =
    let a = c.loop-j.invariant.1 in
    let u = cut_here c.args.run.text.now c.args.run.table.now c.loop-j.i _ _ a.holds a.fits c.until.ensures in
    let f = u.fits in
    let g = c.well_formed in
    omega arith

pub offset_bounds-run-a : goal.offset_bounds-run-a
offset_bounds-run-a c =
    let a = c.loop-j.invariant.1 in
    let u = cut_here c.args.run.text.now c.args.run.table.now c.loop-j.i _ _ a.holds a.fits c.until.ensures in
    let f = u.fits in
    let g = c.well_formed in
    search rules

pub slice_bounds-until-count-in-loop-j : goal.slice_bounds-until-count-in-loop-j
slice_bounds-until-count-in-loop-j c =
    let a = c.loop-j.invariant.1 in
    let u = cut_here c.args.run.text.now c.args.run.table.now c.loop-j.i _ _ a.holds a.fits c.until.ensures in
    let f = u.fits in
    omega arith

pub slice_bounds-until-start-in-loop-j : goal.slice_bounds-until-start-in-loop-j
slice_bounds-until-start-in-loop-j c =
    let a = c.loop-j.invariant.1 in
    let u = cut_here c.args.run.text.now c.args.run.table.now c.loop-j.i _ _ a.holds a.fits c.until.ensures in
    let f = u.fits in
    omega arith

pub until-requires-in-loop-j : goal.until-requires-in-loop-j
until-requires-in-loop-j c =
    let a = c.loop-j.invariant.1 in
    let u = cut_here c.args.run.text.now c.args.run.table.now c.loop-j.i _ _ a.holds a.fits c.until.ensures in
    rest_whole c.args.run.text.now c.args.run.table.now (c.loop-j.i + c.until.result) u.holds

pub overflow_add-b : goal.overflow_add-b
overflow_add-b c =
    let a = c.loop-j.invariant.1 in
    let u = cut_here c.args.run.text.now c.args.run.table.now c.loop-j.i _ _ a.holds a.fits c.until.ensures in
    let v = cut_here c.args.run.text.now c.args.run.table.now (c.loop-j.i + c.until.result) _ _ u.holds u.fits c.until-in-loop-j.ensures in
    let f = v.fits in
    let g = c.well_formed in
    omega arith

pub offset_bounds-run-a-in-loop-j : goal.offset_bounds-run-a-in-loop-j
offset_bounds-run-a-in-loop-j c =
    let a = c.loop-j.invariant.1 in
    let u = cut_here c.args.run.text.now c.args.run.table.now c.loop-j.i _ _ a.holds a.fits c.until.ensures in
    let v = cut_here c.args.run.text.now c.args.run.table.now (c.loop-j.i + c.until.result) _ _ u.holds u.fits c.until-in-loop-j.ensures in
    let f = v.fits in
    let g = c.well_formed in
    search rules

pub slice_bounds-part-end : goal.slice_bounds-part-end
slice_bounds-part-end c =
    let a = c.loop-j.invariant.1 in
    let u = cut_here c.args.run.text.now c.args.run.table.now c.loop-j.i _ _ a.holds a.fits c.until.ensures in
    let v = cut_here c.args.run.text.now c.args.run.table.now (c.loop-j.i + c.until.result) _ _ u.holds u.fits c.until-in-loop-j.ensures in
    let f = v.fits in
    omega arith

pub invariant_of-part : goal.invariant_of-part
invariant_of-part c =
    let a = c.loop-j.invariant.1 in
    let u = cut_here c.args.run.text.now c.args.run.table.now c.loop-j.i _ _ a.holds a.fits c.until.ensures in
    let v = cut_here c.args.run.text.now c.args.run.table.now (c.loop-j.i + c.until.result) _ _ u.holds u.fits c.until-in-loop-j.ensures in
    record { ready = part_ready (settings c.args.page) _ _ _ a c.loop-j-test.true u v c.args.run.ready }

pub lay_part-laid-requires : goal.lay_part-laid-requires
lay_part-laid-requires c =
    let a = c.loop-j.invariant.1 in
    let u = cut_here c.args.run.text.now c.args.run.table.now c.loop-j.i _ _ a.holds a.fits c.until.ensures in
    let v = cut_here c.args.run.text.now c.args.run.table.now (c.loop-j.i + c.until.result) _ _ u.holds u.fits c.until-in-loop-j.ensures in
    let h = c.loop-j-test.true in (
      part_here (settings c.args.page) _ _ _ a h u v,
      part_bounded (settings c.args.page) _ _ _ a h u v c.requires.2,
    )

pub loop-j-preserved : goal.loop-j-preserved
loop-j-preserved c =
    let a = c.loop-j.invariant.1 in
    let u = cut_here c.args.run.text.now c.args.run.table.now c.loop-j.i _ _ a.holds a.fits c.until.ensures in
    let v = cut_here c.args.run.text.now c.args.run.table.now (c.loop-j.i + c.until.result) _ _ u.holds u.fits c.until-in-loop-j.ensures in
    let g = parts_turn (settings c.args.page) _ _ _ a c.loop-j-test.true u v c.clip-at.ensures.place (omega (arith, c.loop-j.invariant.0, c.well_formed)) c.lay_part-laid.ensures c.add-n.ensures.sum in
    (wrote-length g.wrote, g)

pub returns : goal.returns
returns c = parts_over _ _ _ _ c.loop-j.invariant.1 (omega (arith, c.loop-j-test.false))
