use mathlib.Core.Path.{sym, ◌∙◌}
use native.Mathlib.Omega.{arith}
use Rattle.utf8.proofs.Inside.{inside}
use Rattle.dogwood_scans.proofs.Run.{run_on, run_off}
use Rattle.dogwood_scans.proofs.runs.take_decoded.Goals as goal

pub overflow_add-i : goal.overflow_add-i
overflow_add-i g c = omega (arith, inside c.args.s.now c.loop-code.i (sym c.decode.ensures ∙ c.in-Some.is))

pub loop-code-smaller : goal.loop-code-smaller
loop-code-smaller g c = omega (arith, inside c.args.s.now c.loop-code.i (sym c.decode.ensures ∙ c.in-Some.is))

pub loop-code-preserved : goal.loop-code-preserved
loop-code-preserved g c = sym (run_on g.C.Class.members c.args.s.now c.loop-code.i (sym c.decode.ensures ∙ c.in-Some.is) (sym c.has.ensures ∙ c.if-not-has.false)) ∙ c.loop-code.invariant

pub returns-then-not-has : goal.returns-then-not-has
returns-then-not-has g c = sym (run_off g.C.Class.members c.args.s.now c.loop-code.i (sym c.decode.ensures ∙ c.in-Some.is) (sym c.has.ensures ∙ c.if-not-has.true)) ∙ c.loop-code.invariant
