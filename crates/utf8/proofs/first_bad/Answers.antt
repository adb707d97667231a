use mathlib.Core.Path.{sym, ◌∙◌}
use native.Mathlib.Omega.{arith}
use Rattle.utf8.proofs.Inside.{inside}
use Rattle.utf8.proofs.Valid.{bad_char, bad_ascii, bad_fault, bad_end}
use Rattle.utf8.proofs.Whole.{bad_from_lem}
use Rattle.utf8.proofs.first_bad.Goals as goal

pub loop-i-preserved-then-s-i-lt128 : goal.loop-i-preserved-then-s-i-lt128
loop-i-preserved-then-s-i-lt128 c = sym (bad_ascii c.args.s.now c.loop-i.i c.loop-i-test.true c.if-s-i-lt128.true) ∙ c.loop-i.invariant

pub returns-in_default : goal.returns-in_default
returns-in_default c = sym (bad_fault _ _ c.loop-i-test.true (sym c.decode.ensures ∙ c.in_default.is)) ∙ c.loop-i.invariant ∙ bad_from_lem c.args.s.now

pub overflow_add-i-else-s-i-lt128 : goal.overflow_add-i-else-s-i-lt128
overflow_add-i-else-s-i-lt128 c = omega (arith, inside c.args.s.now c.loop-i.i (sym c.in-Some.ensures))

pub loop-i-smaller : goal.loop-i-smaller
loop-i-smaller c = omega (arith, c.ascii_end-i-else-s-i-lt128.ensures.0, inside c.args.s.now c.loop-i.i (sym c.in-Some.ensures))

pub loop-i-preserved : goal.loop-i-preserved
loop-i-preserved c = c.ascii_end-i-else-s-i-lt128.ensures.1 ∙ sym (bad_char c.args.s.now c.loop-i.i c.loop-i-test.true (sym c.in-Some.ensures)) ∙ c.loop-i.invariant

pub returns : goal.returns
returns c = sym (bad_end _ _ c.loop-i-test.false) ∙ c.loop-i.invariant ∙ bad_from_lem c.args.s.now
