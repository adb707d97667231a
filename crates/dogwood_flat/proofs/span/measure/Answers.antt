use native.Mathlib.Omega.{arith}
use Rattle.dogwood_layout.proofs.Loops.{span_start, span_turn, span_end}
use Rattle.dogwood_layout.proofs.Tables.{held_at, entry_there}
use Rattle.dogwood_flat.proofs.span.measure.Goals as goal

pub loop-i-init : goal.loop-i-init
loop-i-init c = span_start _ _ _ c.args.run.ready.holds

pub entry_at-requires : goal.entry_at-requires
entry_at-requires c = entry_there _ _ _ c.loop-i.invariant.holds c.loop-i-test.true

pub invariant_of-token : goal.invariant_of-token
invariant_of-token c = record { held = held_at _ _ _ c.loop-i.invariant.holds c.loop-i-test.true c.entry_at.ensures }

pub past_token-s-requires : goal.past_token-s-requires
past_token-s-requires c =
    ((let w = c.loop-i.invariant.wide in let f = c.loop-i.invariant.fits in let d = c.args.run.ready.short in omega arith), (let w = c.loop-i.invariant.far in let f = c.loop-i.invariant.fits in let d = c.args.run.ready.short in let e = c.requires in omega arith))

pub overflow_add-i : goal.overflow_add-i
overflow_add-i c = (let a = c.loop-i.invariant.fits in let d = c.args.run.ready.short in omega arith)

pub loop-i-smaller : goal.loop-i-smaller
loop-i-smaller c = (let a = c.loop-i-test.true in omega arith)

pub loop-i-preserved : goal.loop-i-preserved
loop-i-preserved c =
    span_turn _ _ _ _ _ c.loop-i.invariant c.args.run.ready.small c.loop-i-test.true c.entry_at.ensures c.past_token-s.ensures

pub returns : goal.returns
returns c = span_end _ _ _ _ _ c.loop-i.invariant c.args.run.ready.small (omega (arith, c.loop-i-test.false))
