use mathlib.Core.Path.{refl}
use native.Mathlib.Omega.{arith}
use Rattle.dogwood_formatter.proofs.Offering.{offered_all, offered_none, given_text, mark_few, size_whole, size_small, file_written}
use Rattle.dogwood_formatter.proofs.offer.offer_file.Goals as goal

pub invariant_of-run : goal.invariant_of-run
invariant_of-run c = record { ready = (given_text c.args.source.now c.args.outline.now c.args.table.now c.args.page c.split_bom.ensures.mark c.split_bom.ensures.text c.requires).0 }

pub top_level_items-requires : goal.top_level_items-requires
top_level_items-requires c = let g = given_text c.args.source.now c.args.outline.now c.args.table.now c.args.page c.split_bom.ensures.mark c.split_bom.ensures.text c.requires in (g.1, g.2, g.3)

pub overflow_add-size : goal.overflow_add-size
overflow_add-size c =
    let m = mark_few c.args.source.now c.args.outline.now c.args.table.now c.args.page c.split_bom.ensures.mark c.split_bom.ensures.text in
    let s = size_small c.args.source.now c.args.outline.now c.args.table.now c.args.page c.split_bom.ensures.mark c.split_bom.ensures.text c.top_level_items.ensures c.requires in
    omega arith

pub returns-then-out-size : goal.returns-then-out-size
returns-then-out-size c =
    let size = size_whole c.args.source.now c.args.outline.now c.args.table.now c.args.page c.split_bom.ensures.mark c.split_bom.ensures.text c.top_level_items.ensures in
    offered_none _ _ size (omega arith) refl

pub top_level_items-requires-2 : goal.top_level_items-requires-2
top_level_items-requires-2 c = let g = given_text c.args.source.now c.args.outline.now c.args.table.now c.args.page c.split_bom.ensures.mark c.split_bom.ensures.text c.requires in (g.1, g.2, g.3)

pub overflow_add-result : goal.overflow_add-result
overflow_add-result c =
    let m = mark_few c.args.source.now c.args.outline.now c.args.table.now c.args.page c.split_bom.ensures.mark c.split_bom.ensures.text in
    let s = size_small c.args.source.now c.args.outline.now c.args.table.now c.args.page c.split_bom.ensures.mark c.split_bom.ensures.text c.top_level_items-2.ensures c.requires in
    omega arith

pub returns : goal.returns
returns c =
    let old = size_whole c.args.source.now c.args.outline.now c.args.table.now c.args.page c.split_bom.ensures.mark c.split_bom.ensures.text c.top_level_items.ensures in
    let size = size_whole c.args.source.now c.args.outline.now c.args.table.now c.args.page c.split_bom.ensures.mark c.split_bom.ensures.text c.top_level_items-2.ensures in
    offered_all _ _ size (omega arith) (file_written c.args.source.now c.args.outline.now c.args.table.now c.args.page c.split_bom.ensures.mark c.split_bom.ensures.text (omega arith) c.put_all.ensures c.top_level_items-2.ensures)
