use Prim.Native.Nat.{◌+◌}
use mathlib.Core.Path.{sym, ap, ◌∙◌}
use native.Mathlib.Omega.{arith}
use Rattle.utf8.proofs.Inside.{inside}
use Rattle.dogwood_tokens.specs.Scan.{scan_from}
use Rattle.dogwood_tokens.proofs.Bounds.{string_inside}
use Rattle.dogwood_tokens.proofs.Scan.{open_scan, scan_out, scan_fault, byte_closed, byte_open, byte_comment, comment_inside, byte_past, wide_past}
use Rattle.dogwood_tokens.proofs.open.first_open.Goals as goal

pub returns-in_default : goal.returns-in_default
returns-in_default c = sym (byte_open c.args.s.now c.loop-i.i c.loop-i-test.true c.if-b-eq34.true (sym c.string_end.ensures ∙ c.in_default.is)) ∙ c.loop-i.invariant ∙ sym (open_scan c.args.s.now 0)

pub loop-i-smaller-then-b-eq34 : goal.loop-i-smaller-then-b-eq34
loop-i-smaller-then-b-eq34 c = omega (arith, string_inside c.args.s.now (c.loop-i.i + 1) _ (sym c.string_end.ensures ∙ c.in-Some.is))

pub loop-i-preserved-then-b-eq34 : goal.loop-i-preserved-then-b-eq34
loop-i-preserved-then-b-eq34 c = sym (byte_closed c.args.s.now c.loop-i.i c.loop-i-test.true c.if-b-eq34.true (sym c.string_end.ensures ∙ c.in-Some.is)) ∙ c.loop-i.invariant

pub returns-in_err-i : goal.returns-in_err-i
returns-in_err-i c = c.from_residual.ensures ∙ sym (scan_fault c.args.s.now c.loop-i.i (sym c.decode.ensures ∙ c.in_err-i.was)) ∙ c.loop-i.invariant ∙ sym (open_scan c.args.s.now 0)

pub overflow_add-i-then-b-ge128 : goal.overflow_add-i-then-b-ge128
overflow_add-i-then-b-ge128 c = omega (arith, inside c.args.s.now c.loop-i.i (sym c.decode.ensures ∙ c.in_ok-i.was))

pub loop-i-smaller-then-b-ge128 : goal.loop-i-smaller-then-b-ge128
loop-i-smaller-then-b-ge128 c = omega (arith, inside c.args.s.now c.loop-i.i (sym c.decode.ensures ∙ c.in_ok-i.was))

pub loop-i-preserved-then-b-ge128 : goal.loop-i-preserved-then-b-ge128
loop-i-preserved-then-b-ge128 c = sym (wide_past c.args.s.now c.loop-i.i c.loop-i-test.true (sym c.decode.ensures ∙ c.in_ok-i.was) c.if-b-ge128.true) ∙ c.loop-i.invariant

pub loop-i-smaller-then-comment : goal.loop-i-smaller-then-comment
loop-i-smaller-then-comment c = omega (arith, c.take_while-i.ensures, comment_inside c.args.s.now c.loop-i.i c.loop-i-test.true c.if-b-eq47.true)

pub loop-i-preserved-then-comment : goal.loop-i-preserved-then-comment
loop-i-preserved-then-comment c = ap (scan_from c.args.s.now) c.take_while-i.ensures ∙ sym (byte_comment c.args.s.now c.loop-i.i c.loop-i-test.true c.if-b-eq47.true (sym c.byte-comment.ensures ∙ c.if-comment.true)) ∙ c.loop-i.invariant

pub loop-i-preserved-else-comment : goal.loop-i-preserved-else-comment
loop-i-preserved-else-comment c = sym (byte_past c.args.s.now c.loop-i.i c.loop-i-test.true c.if-b-ge128.false c.if-b-eq34.false (λ _ e. c.if-comment.false (c.byte-comment.ensures ∙ e))) ∙ c.loop-i.invariant

pub loop-i-preserved : goal.loop-i-preserved
loop-i-preserved c = sym (byte_past c.args.s.now c.loop-i.i c.loop-i-test.true c.if-b-ge128.false c.if-b-eq34.false (λ e _. c.if-b-eq47.false e)) ∙ c.loop-i.invariant

pub returns : goal.returns
returns c = sym (scan_out c.args.s.now c.loop-i.i c.loop-i-test.false) ∙ c.loop-i.invariant ∙ sym (open_scan c.args.s.now 0)
