use Prim.Native.Nat.{◌-◌}
use native.Mathlib.Omega.{arith}
use lib.ListN.{length, take, drop, length-drop, length-take}
use borrow.Author.Rules.{rules}
use Rattle.dogwood_layout.proofs.Ends.{front_fits, back_fits, whole_rest, rest_back}
use Rattle.dogwood_runs.proofs.run.trimmed.Goals as goal

pub offset_bounds-table-a : goal.offset_bounds-table-a
offset_bounds-table-a c = let f = front_fits c.args.table.now in let g = c.well_formed in search rules

pub slice_bounds-solid-count : goal.slice_bounds-solid-count
slice_bounds-solid-count c = let f = front_fits c.args.table.now in omega (arith, c.lead-a.ensures)

pub slice_bounds-solid-start : goal.slice_bounds-solid-start
slice_bounds-solid-start c = let f = front_fits c.args.table.now in omega (arith, c.lead-a.ensures)

pub solid-requires : goal.solid-requires
solid-requires c = whole_rest c.args.table.now c.lead-a.result c.lead-a.ensures c.requires

pub overflow_add-result : goal.overflow_add-result
overflow_add-result c =
    let ws = c.args.table.now in
    let a = c.lead-a.result in
    let f = front_fits ws in
    let b = back_fits (take (length ws - a) (drop a ws)) in
    let l = length-take (length ws - a) (drop a ws) in
    let d = length-drop a ws in
    let e = c.lead-a.ensures in
    let s = c.solid.ensures in
    let g = c.well_formed in
    omega arith

pub returns : goal.returns
returns c =
    rest_back c.args.table.now c.lead-a.result c.solid.result c.lead-a.ensures c.solid.ensures
