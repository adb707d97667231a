use native.Mathlib.Omega.{arith}
use Rattle.dogwood_layout.proofs.Bytes.{bytes_start, bytes_turn, bytes_end}
use Rattle.dogwood_flat.proofs.span.past_bytes.Goals as goal

pub loop-b-init : goal.loop-b-init
loop-b-init c = bytes_start _ _

pub past_byte-s-requires : goal.past_byte-s-requires
past_byte-s-requires c =
    let w = c.loop-b.invariant.wide in
    let f = c.loop-b.invariant.far in
    let i = c.loop-b.invariant.fits in
    let p = c.requires in
    let g = c.well_formed in
    (omega (arith, p.0, c.loop-b-test.true, g.0.1), omega (arith, p.1, c.loop-b-test.true, g.0.1))

pub loop-b-smaller : goal.loop-b-smaller
loop-b-smaller c = (let a = c.loop-b-test.true in omega arith)

pub loop-b-preserved : goal.loop-b-preserved
loop-b-preserved c = bytes_turn _ _ _ _ c.loop-b.invariant c.loop-b-test.true c.past_byte-s.ensures

pub returns : goal.returns
returns c = bytes_end _ _ _ _ c.loop-b.invariant (omega (arith, c.loop-b-test.false))
