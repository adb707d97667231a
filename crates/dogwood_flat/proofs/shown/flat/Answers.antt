use mathlib.Core.Path.{refl}
use native.Mathlib.Omega.{arith}
use Rattle.pen.proofs.Laws.{wrote-length}
use Rattle.dogwood_layout.proofs.Loops.{flat_start, flat_turn, flat_end}
use Rattle.dogwood_layout.proofs.Tables.{held_at}
use Rattle.dogwood_runs.proofs.Pieces.{piece_there, piece_is, pieces_all, piece_next}
use Rattle.dogwood_flat.proofs.shown.flat.Goals as goal

pub loop-kind-init : goal.loop-kind-init
loop-kind-init c = (refl, flat_start _ _ _ c.requires)

pub invariant_of-put_token : goal.invariant_of-put_token
invariant_of-put_token c =
    let a = c.as_chunks.ensures in
    let t = c.loop-kind-test.true in
    record { held = held_at _ _ _ c.loop-kind.invariant.1.holds (piece_there _ _ a.front_len t) (piece_is _ _ a.front a.front_len t) }

pub loop-kind-preserved : goal.loop-kind-preserved
loop-kind-preserved c =
    let a = c.as_chunks.ensures in
    let t = c.loop-kind-test.true in
    let g = flat_turn _ _ _ _ _ _ c.loop-kind.invariant.1 (piece_there _ _ a.front_len t) (piece_is _ _ a.front a.front_len t) c.clip-at.ensures.place (omega (arith, c.loop-kind.invariant.0, c.well_formed.0.1)) c.put_token.ensures c.add-n.ensures.sum in
    (wrote-length g.wrote, rw (piece_next c.loop-kind.kind-index) at g)

pub returns : goal.returns
returns c =
    flat_end _ _ _ _ _ _ c.loop-kind.invariant.1 (pieces_all _ _ _ c.requires c.as_chunks.ensures.front_len (omega (arith, c.loop-kind-test.false)))
