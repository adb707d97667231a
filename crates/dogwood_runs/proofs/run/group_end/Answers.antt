use mathlib.Core.Path.{◌≡◌, sym, ◌∙◌}
use Prim.Native.Nat.{◌*◌, ◌≤◌}
use lib.ListN.{length}
use native.Mathlib.Omega.{arith}
use Rattle.dogwood_layout.proofs.Loops.{group_start, group_turn, group_stop, group_end_lem}
use Rattle.dogwood_layout.proofs.Tables.{held_at}
use Rattle.dogwood_runs.proofs.Pieces.{piece_there, piece_is, pieces_all, piece_next}
use Rattle.dogwood_runs.proofs.run.group_end.Goals as goal

pub loop-k-init : goal.loop-k-init
loop-k-init c = group_start _ _ c.args.run.ready.holds

pub invariant_of-token : goal.invariant_of-token
invariant_of-token c =
    let t = c.loop-k-test.true in
    let n = c.as_chunks.ensures.front_len in
    record { held = held_at _ _ _ c.loop-k.invariant.holds (piece_there _ _ n t) (piece_is _ _ c.as_chunks.ensures.front n t) }

pub depth_after-depth-requires : goal.depth_after-depth-requires
depth_after-depth-requires c =
    let a = c.as_chunks.ensures.front_len in
    let t = c.loop-k-test.true in
    let w = piece_there _ _ a t in
    let f = c.loop-k.invariant.fits in
    let b = c.loop-k.invariant.low in
    let d = c.args.run.ready.short in
    omega arith

pub loop-k-preserved : goal.loop-k-preserved
loop-k-preserved c =
    let a = c.as_chunks.ensures in
    let t = c.loop-k-test.true in
    let n = a.front_len in
    let g = group_turn _ _ _ _ c.loop-k.invariant (piece_there _ _ n t) _ (piece_is _ _ a.front n t) c.depth_after-depth.ensures (λ e. omega arith) in
    rw (piece_next c.loop-k.k) at g

pub returns-then-depth-eq0 : goal.returns-then-depth-eq0
returns-then-depth-eq0 c =
    let a = c.as_chunks.ensures in
    let t = c.loop-k-test.true in
    let n = a.front_len in
    sym (piece_next c.loop-k.k) ∙ group_stop _ _ _ _ c.loop-k.invariant (piece_there _ _ n t) _ (piece_is _ _ a.front n t) c.depth_after-depth.ensures c.if-depth-eq0.true

pub returns : goal.returns
returns c =
    let f = c.loop-k.invariant.fits in
    let w : length c.args.run.table.now ≤ 3 * c.loop-k.k = pieces_all _ _ _ c.args.run.ready.holds c.as_chunks.ensures.front_len (omega (arith, c.loop-k-test.false)) in
    let q : length c.args.run.table.now ≡ 3 * c.loop-k.k = omega arith in
    q ∙ group_end_lem _ _ _ _ c.loop-k.invariant w
