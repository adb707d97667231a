use mathlib.Core.Path.{refl, sym, ap, subst}
use Prim.Native.Nat.{ℕ, ◌+◌, ◌-◌, ◌≤◌}
use native.Mathlib.Omega.{arith}
use lib.ListN.{length-take, length-drop, length, drop}
use borrow.Author.Rules.{rules}
use Rattle.pen.specs.Over.{cap}
use Rattle.pen.proofs.Laws.{wrote_then, wrote-same, wrote-nil, wrote-length}
use Rattle.dogwood_rules.specs.Utf8.{encode}
use Rattle.dogwood_layout.specs.Pieces.{OnePiece, settings}
use Rattle.dogwood_layout.specs.Ends.{Whole}
use Rattle.dogwood_layout.proofs.Lengths.{laid_out, laid-wrote}
use Rattle.dogwood_layout.proofs.Tables.{held_at, ready_part, part_rest}
use Rattle.dogwood_layout.proofs.Bounds.{bounded_less, length_part, bounded_part, width_le}
use Rattle.dogwood_layout.proofs.Shapes.{run_from, formed_from}
use Rattle.dogwood_layout.proofs.Groups.{joined_bound}
use Rattle.dogwood_layout.proofs.Parts.{trimmed_here, trimmed_formed, trimmed_length, group_here, group_formed}
use Rattle.dogwood_layout.proofs.Laying.{indent_bound, width_bound, run_measured, run_flat, run_walked, item-nothing, item_written, piece-laid, piece-single, group_stays, group_breaks, group-laid, broken_here, group_written, carried, piece_bound}
use Rattle.dogwood_layout.proofs.Ends.{holds_whole}
use Rattle.dogwood_layout.proofs.Splits.{item_here}
use Rattle.dogwood_layout.proofs.Lays.{run_rest, LinesAt, lines_start, lines_turn, lines_end, run_start, run_turn, run_end, piece_here}
use Rattle.dogwood_groups.proofs.lay.+laying.Goals as goal

pub lay_group-overflow_sub-end : goal.lay_group-overflow_sub-end
lay_group-overflow_sub-end t c =
    let l = (broken_here _ _ c.args.run.ready c.requires.0.shaped c.requires.2 c.requires.0.tokens).long in
    omega arith

pub lay_group-entry_at-requires : goal.lay_group-entry_at-requires
lay_group-entry_at-requires t c =
    let l = (broken_here _ _ c.args.run.ready c.requires.0.shaped c.requires.2 c.requires.0.tokens).long in
    omega arith

pub lay_group-invariant_of-opener : goal.lay_group-invariant_of-opener
lay_group-invariant_of-opener t c =
    let l = (broken_here _ _ c.args.run.ready c.requires.0.shaped c.requires.2 c.requires.0.tokens).long in
    record { held = held_at c.args.run.text.now c.args.run.table.now 0 c.args.run.ready.holds (omega arith) c.entry_at.ensures }

pub lay_group-slice_bounds-inside-count : goal.lay_group-slice_bounds-inside-count
lay_group-slice_bounds-inside-count t c =
    let l = (broken_here _ _ c.args.run.ready c.requires.0.shaped c.requires.2 c.requires.0.tokens).long in
    omega arith

pub lay_group-slice_bounds-inside-start : goal.lay_group-slice_bounds-inside-start
lay_group-slice_bounds-inside-start t c =
    let l = (broken_here _ _ c.args.run.ready c.requires.0.shaped c.requires.2 c.requires.0.tokens).long in
    search rules

pub lay_group-invariant_of-inside : goal.lay_group-invariant_of-inside
lay_group-invariant_of-inside t c =
    record { ready = (broken_here _ _ c.args.run.ready c.requires.0.shaped c.requires.2 c.requires.0.tokens).ready }

pub lay_group-lay_items-requires : goal.lay_group-lay_items-requires
lay_group-lay_items-requires t c =
    let h = (broken_here _ _ c.args.run.ready c.requires.0.shaped c.requires.2 c.requires.0.tokens) in
    let l = h.long in
    let a = length-take (length c.args.run.table.now - 3 - 3) (drop 3 c.args.run.table.now) in
    let b = length-drop 3 c.args.run.table.now in
    (omega (arith, c.decreases), (group_formed h, bounded_less _ _ c.requires.1 (omega arith)))

pub lay_group-entry_at-requires-2 : goal.lay_group-entry_at-requires-2
lay_group-entry_at-requires-2 t c =
    let l = (broken_here _ _ c.args.run.ready c.requires.0.shaped c.requires.2 c.requires.0.tokens).long in
    omega arith

pub lay_group-invariant_of-closer : goal.lay_group-invariant_of-closer
lay_group-invariant_of-closer t c =
    let h = (broken_here _ _ c.args.run.ready c.requires.0.shaped c.requires.2 c.requires.0.tokens) in
    let l = h.long in
    record { held = held_at c.args.run.text.now c.args.run.table.now (length c.args.run.table.now - 3) h.last_holds (omega arith) c.entry_at-2.ensures }

pub lay_group-returns : goal.lay_group-returns
lay_group-returns t c =
    let v = wrote_then c.put_token-a.ensures c.clip-at.ensures.place (let l = wrote-length c.put_token-a.ensures in let g = c.well_formed.0.1 in omega arith) c.lay_items.ensures c.add-b.ensures.sum in
    wrote-same (group_written (settings c.args.page) c.args.depth c.args.run.text.now c.args.run.table.now (broken_here _ _ c.args.run.ready c.requires.0.shaped c.requires.2 c.requires.0.tokens) c.requires.2 c.entry_at.ensures c.entry_at-2.ensures) (wrote_then v c.clip-bt.ensures.place (let l = wrote-length v in let g = c.well_formed.0.1 in omega arith) c.put_closing.ensures c.add.ensures.sum)

pub lay_item-trimmed-t-requires : goal.lay_item-trimmed-t-requires
lay_item-trimmed-t-requires t c = holds_whole c.args.run.text.now c.args.run.table.now c.args.run.ready.holds

pub lay_item-returns-then-t : goal.lay_item-returns-then-t
lay_item-returns-then-t t c =
    wrote-same (item-nothing (settings c.args.page) c.args.depth c.args.run.text.now c.args.run.table.now c.requires.0 (trimmed_here _ _ c.args.run.ready c.requires.0 c.trimmed-t.ensures) c.if-t.true) (wrote-nil c.args.out.now)

pub lay_item-offset_bounds-run-t : goal.lay_item-offset_bounds-run-t
lay_item-offset_bounds-run-t t c =
    let h = (trimmed_here _ _ c.args.run.ready c.requires.0 c.trimmed-t.ensures) in
    let f = h.fits in
    let o = h.ordered in
    let s = c.args.run.ready.short in
    search rules

pub lay_item-slice_bounds-inner-end : goal.lay_item-slice_bounds-inner-end
lay_item-slice_bounds-inner-end t c =
    (trimmed_here _ _ c.args.run.ready c.requires.0 c.trimmed-t.ensures).fits

pub lay_item-invariant_of-inner : goal.lay_item-invariant_of-inner
lay_item-invariant_of-inner t c =
    record { ready = (trimmed_here _ _ c.args.run.ready c.requires.0 c.trimmed-t.ensures).ready }

pub lay_item-lay_out-requires : goal.lay_item-lay_out-requires
lay_item-lay_out-requires t c =
    let h = (trimmed_here _ _ c.args.run.ready c.requires.0 c.trimmed-t.ensures) in
    let f = h.fits in
    let o = h.ordered in
    let l = trimmed_length h in
    (omega (arith, c.decreases), (trimmed_formed h, bounded_less _ _ c.requires.1 (omega arith)))

pub lay_item-returns : goal.lay_item-returns
lay_item-returns t c =
    let h = trimmed_here _ _ c.args.run.ready c.requires.0 c.trimmed-t.ensures in
    let l = trimmed_length h in
    let f = h.fits in
    let o = h.ordered in
    let line = c.put_line-c.ensures in
    let room : length c.put_line-c.new.out ≤ cap = omega (arith, wrote-length line, c.well_formed.0.1) in
    let laid = laid-wrote c.args.page c.args.depth _ _ h.ready (trimmed_formed h) (bounded_less _ _ c.requires.1 (omega arith)) c.lay_out.ensures in
    wrote-same (item_written (settings c.args.page) c.args.depth _ _ c.requires.0 h (omega arith))
    (wrote_then line c.clip-at.ensures.place room laid c.add.ensures.sum)

pub lay_items-loop-i-init : goal.lay_items-loop-i-init
lay_items-loop-i-init t c =
    (refl, subst (λ (k : ℕ). LinesAt (settings c.args.page) c.args.depth c.args.run.text.now c.args.run.table.now k c.args.out.now c.args.out.now 0 0) (sym c.split_items-set.ensures) (lines_start _ _ _ _ _ c.args.run.ready c.requires.0))

pub lay_items-overflow_add-item : goal.lay_items-overflow_add-item
lay_items-overflow_add-item t c =
    let h = (item_here _ _ _ _ _ c.loop-i.invariant.1.at c.loop-i-test.true c.item_end_by-m.ensures).fits in
    let s = c.args.run.ready.short in
    omega arith

pub lay_items-slice_bounds-item-end : goal.lay_items-slice_bounds-item-end
lay_items-slice_bounds-item-end t c =
    (item_here _ _ _ _ _ c.loop-i.invariant.1.at c.loop-i-test.true c.item_end_by-m.ensures).fits

pub lay_items-invariant_of-item : goal.lay_items-invariant_of-item
lay_items-invariant_of-item t c =
    let h = (item_here _ _ _ _ _ c.loop-i.invariant.1.at c.loop-i-test.true c.item_end_by-m.ensures) in
    record { ready = ready_part _ _ _ _ h.count c.args.run.ready c.loop-i.invariant.1.at.holds h.words }

pub lay_items-lay_item-requires : goal.lay_items-lay_item-requires
lay_items-lay_item-requires t c =
    let h = (item_here _ _ _ _ _ c.loop-i.invariant.1.at c.loop-i-test.true c.item_end_by-m.ensures) in
    ((let f = h.fits in let l = length_part c.args.run.table.now c.loop-i.i c.item_end_by-m.result f in omega (arith, c.decreases)), (formed_from h.first.head_shaped h.head_tokens, bounded_part _ _ _ _ _ c.requires.1 h.fits))

pub lay_items-loop-i-smaller : goal.lay_items-loop-i-smaller
lay_items-loop-i-smaller t c =
    let h = (item_here _ _ _ _ _ c.loop-i.invariant.1.at c.loop-i-test.true c.item_end_by-m.ensures) in
    let a = h.some in
    let b = h.fits in
    omega arith

pub lay_items-loop-i-preserved : goal.lay_items-loop-i-preserved
lay_items-loop-i-preserved t c =
    let g = lines_turn _ _ _ _ c.loop-i.invariant.1 (item_here _ _ _ _ _ c.loop-i.invariant.1.at c.loop-i-test.true c.item_end_by-m.ensures) c.clip-at.ensures.place (omega (arith, c.loop-i.invariant.0, c.well_formed.0.1)) c.lay_item.ensures c.add-n.ensures.sum in
    (wrote-length g.wrote, g)

pub lay_items-returns : goal.lay_items-returns
lay_items-returns t c = lines_end _ _ _ _ c.split_items-set.ensures c.loop-i.invariant.1 (omega (arith, c.loop-i-test.false))

pub lay_out-trimmed-t-requires : goal.lay_out-trimmed-t-requires
lay_out-trimmed-t-requires t c = holds_whole c.args.run.text.now c.args.run.table.now c.args.run.ready.holds

pub lay_out-offset_bounds-run-t : goal.lay_out-offset_bounds-run-t
lay_out-offset_bounds-run-t t c =
    let h = (trimmed_here _ _ c.args.run.ready c.requires.0 c.trimmed-t.ensures) in
    let f = h.fits in
    let o = h.ordered in
    let s = c.args.run.ready.short in
    search rules

pub lay_out-slice_bounds-inner-end : goal.lay_out-slice_bounds-inner-end
lay_out-slice_bounds-inner-end t c =
    (trimmed_here _ _ c.args.run.ready c.requires.0 c.trimmed-t.ensures).fits

pub lay_out-invariant_of-inner : goal.lay_out-invariant_of-inner
lay_out-invariant_of-inner t c =
    record { ready = (trimmed_here _ _ c.args.run.ready c.requires.0 c.trimmed-t.ensures).ready }

pub lay_out-overflow_add-margin : goal.lay_out-overflow_add-margin
lay_out-overflow_add-margin t c =
    let p = (indent_bound _ _ _ c.requires.1) in
    let w = width_bound _ _ _ (trimmed_here _ _ c.args.run.ready c.requires.0 c.trimmed-t.ensures).ready c.measure-span.ensures in
    search rules

pub lay_out-returns-then-margin-span : goal.lay_out-returns-then-margin-span
lay_out-returns-then-margin-span t c =
    laid_out _ _ _ _ c.args.run.ready c.requires.0 c.requires.1
    (wrote-same (ap encode (run_flat (settings c.args.page) c.args.depth c.args.run.text.now c.args.run.table.now c.requires.0 (trimmed_here _ _ c.args.run.ready c.requires.0 c.trimmed-t.ensures) _ c.measure-span.ensures c.if-margin-span.true)) c.flat.ensures)

pub lay_out-lay_run-requires : goal.lay_out-lay_run-requires
lay_out-lay_run-requires t c =
    let h = (trimmed_here _ _ c.args.run.ready c.requires.0 c.trimmed-t.ensures) in
    let f = h.fits in
    let o = h.ordered in
    let l = trimmed_length h in
    let s = c.args.run.ready.short in
    let p = (indent_bound _ _ _ c.requires.1) in
    (omega (arith, c.decreases), (trimmed_formed h, bounded_less _ _ c.requires.1 (omega arith), run_measured (settings c.args.page) c.args.depth c.args.run.text.now c.args.run.table.now c.requires.0 h _ c.measure-span.ensures, omega arith))

pub lay_out-returns : goal.lay_out-returns
lay_out-returns t c =
    laid_out _ _ _ _ c.args.run.ready c.requires.0 c.requires.1
    (wrote-same (ap encode (run_walked (settings c.args.page) c.args.depth c.args.run.text.now c.args.run.table.now c.requires.0 (trimmed_here _ _ c.args.run.ready c.requires.0 c.trimmed-t.ensures) _ c.measure-span.ensures (omega (arith, c.if-margin-span.false)))) c.lay_run.ensures)

pub lay_piece-returns-then-run-eq3 : goal.lay_piece-returns-then-run-eq3
lay_piece-returns-then-run-eq3 t c =
    piece-laid (piece-single (settings c.args.page) c.args.depth c.args.col c.args.follow c.args.run.text.now c.args.run.table.now c.args.run.ready c.requires.2 c.requires.0.tokens c.if-run-eq3.true) c.requires.3 c.flat.ensures

pub lay_piece-overflow_sub-end : goal.lay_piece-overflow_sub-end
lay_piece-overflow_sub-end t c =
    let l = (group_here _ _ c.args.run.ready c.requires.0.shaped c.requires.2 c.requires.0.tokens c.if-run-eq3.false).long in
    omega arith

pub lay_piece-slice_bounds-filled-count : goal.lay_piece-slice_bounds-filled-count
lay_piece-slice_bounds-filled-count t c =
    let l = (group_here _ _ c.args.run.ready c.requires.0.shaped c.requires.2 c.requires.0.tokens c.if-run-eq3.false).long in
    omega arith

pub lay_piece-slice_bounds-filled-start : goal.lay_piece-slice_bounds-filled-start
lay_piece-slice_bounds-filled-start t c =
    let l = (group_here _ _ c.args.run.ready c.requires.0.shaped c.requires.2 c.requires.0.tokens c.if-run-eq3.false).long in
    search rules

pub lay_piece-filled-requires : goal.lay_piece-filled-requires
lay_piece-filled-requires t c =
    holds_whole c.args.run.text.now _ (group_here _ _ c.args.run.ready c.requires.0.shaped c.requires.2 c.requires.0.tokens c.if-run-eq3.false).ready.holds

pub lay_piece-overflow_add-col : goal.lay_piece-overflow_add-col
lay_piece-overflow_add-col t c =
    let w = width_bound _ _ _ c.args.run.ready c.requires.3 in
    let f = c.requires.4 in
    search rules

pub lay_piece-overflow_add-col-2 : goal.lay_piece-overflow_add-col-2
lay_piece-overflow_add-col-2 t c =
    let w = width_bound _ _ _ c.args.run.ready c.requires.3 in
    let f = c.requires.4 in
    search rules

pub lay_piece-returns-then-filled-col : goal.lay_piece-returns-then-filled-col
lay_piece-returns-then-filled-col t c =
    piece-laid (group_stays (settings c.args.page) c.args.depth c.args.col c.args.follow c.args.run.text.now c.args.run.table.now (group_here _ _ c.args.run.ready c.requires.0.shaped c.requires.2 c.requires.0.tokens c.if-run-eq3.false) c.requires.0.tokens c.requires.3 c.filled.ensures c.if-filled-col.true) c.requires.3 c.flat-then-filled-col.ensures

pub lay_piece-lay_group-requires : goal.lay_piece-lay_group-requires
lay_piece-lay_group-requires t c =
    (omega (arith, c.decreases), (c.requires.0, c.requires.1, (group_breaks (settings c.args.page) c.args.depth c.args.col c.args.follow c.args.run.text.now c.args.run.table.now (group_here _ _ c.args.run.ready c.requires.0.shaped c.requires.2 c.requires.0.tokens c.if-run-eq3.false) c.requires.0.tokens c.requires.3 c.filled.ensures c.if-filled-col.false).0))

pub lay_piece-returns : goal.lay_piece-returns
lay_piece-returns t c =
    group-laid (settings c.args.page) c.args.depth c.args.col c.args.follow c.args.run.text.now c.args.run.table.now (group_here _ _ c.args.run.ready c.requires.0.shaped c.requires.2 c.requires.0.tokens c.if-run-eq3.false) (group_breaks (settings c.args.page) c.args.depth c.args.col c.args.follow c.args.run.text.now c.args.run.table.now (group_here _ _ c.args.run.ready c.requires.0.shaped c.requires.2 c.requires.0.tokens c.if-run-eq3.false) c.requires.0.tokens c.requires.3 c.filled.ensures c.if-filled-col.false).1 c.lay_group.ensures

pub lay_run-loop-i-init : goal.lay_run-loop-i-init
lay_run-loop-i-init t c =
    (refl, run_start _ _ _ _ _ _ c.args.run.ready c.requires.0 c.requires.2 c.requires.3)

pub lay_run-overflow_add-piece : goal.lay_run-overflow_add-piece
lay_run-overflow_add-piece t c =
    let h = (piece_here (settings c.args.page) _ _ _ _ c.loop-i.invariant.1.at c.loop-i-test.true c.piece_end-m.ensures).fits in
    let s = c.args.run.ready.short in
    omega arith

pub lay_run-slice_bounds-piece-end : goal.lay_run-slice_bounds-piece-end
lay_run-slice_bounds-piece-end t c =
    (piece_here (settings c.args.page) _ _ _ _ c.loop-i.invariant.1.at c.loop-i-test.true c.piece_end-m.ensures).fits

pub lay_run-invariant_of-piece : goal.lay_run-invariant_of-piece
lay_run-invariant_of-piece t c =
    let h = (piece_here (settings c.args.page) _ _ _ _ c.loop-i.invariant.1.at c.loop-i-test.true c.piece_end-m.ensures) in
    record { ready = ready_part _ _ _ _ h.count c.args.run.ready c.loop-i.invariant.1.at.holds h.words }

pub lay_run-overflow_sub-rest : goal.lay_run-overflow_sub-rest
lay_run-overflow_sub-rest t c =
    let r = run_rest _ _ _ _ _ c.loop-i.invariant.1 (piece_here (settings c.args.page) _ _ _ _ c.loop-i.invariant.1.at c.loop-i-test.true c.piece_end-m.ensures) in
    width_le _ _ _ _ _ c.measure-span.ensures r

pub lay_run-lead-requires : goal.lay_run-lead-requires
lay_run-lead-requires t c =
    subst Whole (sym (part_rest c.args.run.table.now (c.loop-i.i + c.piece_end-m.result))) (holds_whole c.args.run.text.now (drop (c.loop-i.i + c.piece_end-m.result) c.args.run.table.now) (piece_here (settings c.args.page) _ _ _ _ c.loop-i.invariant.1.at c.loop-i-test.true c.piece_end-m.ensures).next.holds)

pub lay_run-overflow_sub-follow : goal.lay_run-overflow_sub-follow
lay_run-overflow_sub-follow t c =
    (carried (settings c.args.page) c.args.depth c.args.start c.args.run.text.now c.args.run.table.now c.loop-i.invariant.1 (piece_here (settings c.args.page) c.args.run.text.now c.args.run.table.now c.loop-i.i c.piece_end-m.result c.loop-i.invariant.1.at c.loop-i-test.true c.piece_end-m.ensures) c.measure-span.ensures c.lead.ensures).0

pub lay_run-lay_piece-laid-requires : goal.lay_run-lay_piece-laid-requires
lay_run-lay_piece-laid-requires t c =
    let h = (piece_here (settings c.args.page) c.args.run.text.now c.args.run.table.now c.loop-i.i c.piece_end-m.result c.loop-i.invariant.1.at c.loop-i-test.true c.piece_end-m.ensures) in
    let a = c.loop-i.invariant.1 in
    let f = h.fits in
    let l = length_part c.args.run.table.now c.loop-i.i c.piece_end-m.result f in
    let d = length-drop c.loop-i.i c.args.run.table.now in
    let j = joined_bound c.args.run.text.now (drop c.loop-i.i c.args.run.table.now) a.at.holds c.args.run.ready.small in
    let w = a.wide in
    let far = a.far in
    let s = c.args.run.ready.short in
    (omega (arith, c.decreases), (formed_from h.first.one_shaped h.one_tokens, bounded_part _ _ _ _ _ c.requires.1 f, subst OnePiece (sym (run_from h.first.one_shaped h.one_tokens)) h.first.piece, c.measure-span.ensures, omega arith))

pub lay_run-loop-i-smaller : goal.lay_run-loop-i-smaller
lay_run-loop-i-smaller t c =
    let h = (piece_here (settings c.args.page) _ _ _ _ c.loop-i.invariant.1.at c.loop-i-test.true c.piece_end-m.ensures) in
    let a = h.some in
    let b = h.fits in
    omega arith

pub lay_run-loop-i-preserved : goal.lay_run-loop-i-preserved
lay_run-loop-i-preserved t c =
    let h = (piece_here (settings c.args.page) c.args.run.text.now c.args.run.table.now c.loop-i.i c.piece_end-m.result c.loop-i.invariant.1.at c.loop-i-test.true c.piece_end-m.ensures) in
    let a = c.loop-i.invariant.1 in
    let k = carried (settings c.args.page) c.args.depth c.args.start c.args.run.text.now c.args.run.table.now a h c.measure-span.ensures c.lead.ensures in
    let g = run_turn (settings c.args.page) c.args.depth c.args.start c.args.run.text.now c.args.run.table.now a h k.2 k.1 c.clip-at.ensures.place (omega (arith, c.loop-i.invariant.0, c.well_formed.0.1)) c.lay_piece-laid.ensures c.add-n.ensures.sum (piece_bound (settings c.args.page) c.args.depth c.args.start c.args.run.text.now c.args.run.table.now a h c.args.run.ready (indent_bound _ _ _ c.requires.1) c.lay_piece-laid.ensures) in
    (wrote-length g.wrote, g)

pub lay_run-returns : goal.lay_run-returns
lay_run-returns t c = run_end _ _ _ _ _ c.loop-i.invariant.1 (omega (arith, c.loop-i-test.false))
