use mathlib.Core.Bool.{Bool, not, ◌&&◌}
use mathlib.Core.Path.{◌≡◌, sym, ap, ◌∙◌}
use Prim.Native.Nat.{◌*◌, ◌≤◌}
use native.Mathlib.Omega.{arith}
use lib.ListN.{length}
use Rattle.dogwood_layout.proofs.Loops.{item_start, item_before, item_after, item_turn, item_end_lem}
use Rattle.dogwood_layout.proofs.Tables.{held_at}
use Rattle.dogwood_runs.proofs.Pieces.{piece_there, piece_is, pieces_all, piece_next}
use Rattle.dogwood_runs.proofs.run.item_end_by.Goals as goal

pub loop-k-init : goal.loop-k-init
loop-k-init c = item_start _ _ _ c.args.run.ready.holds

pub invariant_of-token : goal.invariant_of-token
invariant_of-token c = record { held = held_at _ _ _ c.loop-k.invariant.holds (piece_there _ _ c.as_chunks.ensures.front_len c.loop-k-test.true) (piece_is _ _ c.as_chunks.ensures.front c.as_chunks.ensures.front_len c.loop-k-test.true) }

pub returns-then-first-cuts_before : goal.returns-then-first-cuts_before
returns-then-first-cuts_before c =
    item_before _ _ _ _ _ _ c.loop-k.invariant (piece_there _ _ c.as_chunks.ensures.front_len c.loop-k-test.true) _ (piece_is _ _ c.as_chunks.ensures.front c.as_chunks.ensures.front_len c.loop-k-test.true) (ap (λ (b : Bool). not c.loop-k.first && b) (sym c.cuts_before.ensures) ∙ c.if-first-cuts_before.true)

pub returns-then-cuts_after : goal.returns-then-cuts_after
returns-then-cuts_after c =
    item_after _ _ _ _ _ _ c.loop-k.invariant (piece_there _ _ c.as_chunks.ensures.front_len c.loop-k-test.true) _ (piece_is _ _ c.as_chunks.ensures.front c.as_chunks.ensures.front_len c.loop-k-test.true) (ap (λ (b : Bool). not c.loop-k.first && b) (sym c.cuts_before.ensures) ∙ c.if-first-cuts_before.false) (sym c.cuts_after.ensures ∙ c.if-cuts_after.true)

pub depth_after-depth-requires : goal.depth_after-depth-requires
depth_after-depth-requires c =
    let t = c.loop-k-test.true in
    let w = piece_there _ _ c.as_chunks.ensures.front_len t in
    let a = c.loop-k.invariant.fits in
    let b = c.loop-k.invariant.low in
    let d = c.args.run.ready.short in
    omega arith

pub loop-k-preserved : goal.loop-k-preserved
loop-k-preserved c =
    let g = item_turn _ _ _ _ _ _ c.loop-k.invariant (piece_there _ _ c.as_chunks.ensures.front_len c.loop-k-test.true) _ (piece_is _ _ c.as_chunks.ensures.front c.as_chunks.ensures.front_len c.loop-k-test.true) (ap (λ (b : Bool). not c.loop-k.first && b) (sym c.cuts_before.ensures) ∙ c.if-first-cuts_before.false) (sym c.cuts_after.ensures ∙ c.if-cuts_after.false) c.depth_after-depth.ensures in
    rw (piece_next c.loop-k.k) at g

pub returns : goal.returns
returns c =
    let f = c.loop-k.invariant.fits in
    let w : length c.args.run.table.now ≤ 3 * c.loop-k.k = pieces_all _ _ _ c.args.run.ready.holds c.as_chunks.ensures.front_len (omega (arith, c.loop-k-test.false)) in
    let q : length c.args.run.table.now ≡ 3 * c.loop-k.k = omega arith in
    q ∙ item_end_lem _ _ _ _ _ _ c.loop-k.invariant w
