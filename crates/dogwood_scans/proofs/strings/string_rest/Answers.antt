use Prim.Native.Nat.{◌+◌}
use mathlib.Core.Path.{sym, ◌∙◌}
use native.Mathlib.Omega.{arith}
use Rattle.utf8.proofs.Inside.{inside}
use Rattle.dogwood_scans.proofs.Run.{string_cut, string_close, string_past, string_escape, string_open}
use Rattle.dogwood_scans.proofs.strings.string_rest.Goals as goal

pub returns-in_err-code : goal.returns-in_err-code
returns-in_err-code c = c.from_residual.ensures ∙ sym (string_cut _ _ (sym c.decode.ensures ∙ c.in_err-code.was)) ∙ c.loop-code.invariant

pub overflow_add-i : goal.overflow_add-i
overflow_add-i c = omega (arith, inside c.args.s.now c.loop-code.i (sym c.decode.ensures ∙ c.in_ok-code.was))

pub returns-then-code-eq34 : goal.returns-then-code-eq34
returns-then-code-eq34 c = sym (string_close _ _ (sym c.decode.ensures ∙ c.in_ok-code.was) c.if-code-eq34.true) ∙ c.loop-code.invariant

pub returns-in_err-i : goal.returns-in_err-i
returns-in_err-i c = c.from_residual-in_err-i.ensures ∙ sym (string_open _ _ (sym c.decode.ensures ∙ c.in_ok-code.was) c.if-code-eq34.false c.if-code-eq92.true (sym c.decode-then-code-eq92.ensures ∙ c.in_err-i.was)) ∙ c.loop-code.invariant

pub overflow_add-i-then-code-eq92 : goal.overflow_add-i-then-code-eq92
overflow_add-i-then-code-eq92 c = omega (arith, inside c.args.s.now c.loop-code.i (sym c.decode.ensures ∙ c.in_ok-code.was), inside c.args.s.now (c.loop-code.i + c.in_ok-code.field-0.len) (sym c.decode-then-code-eq92.ensures ∙ c.in_ok-i.was))

pub loop-code-smaller-then-code-eq92 : goal.loop-code-smaller-then-code-eq92
loop-code-smaller-then-code-eq92 c = omega (arith, inside c.args.s.now c.loop-code.i (sym c.decode.ensures ∙ c.in_ok-code.was), inside c.args.s.now (c.loop-code.i + c.in_ok-code.field-0.len) (sym c.decode-then-code-eq92.ensures ∙ c.in_ok-i.was))

pub loop-code-preserved-then-code-eq92 : goal.loop-code-preserved-then-code-eq92
loop-code-preserved-then-code-eq92 c = sym (string_escape _ _ (sym c.decode.ensures ∙ c.in_ok-code.was) c.if-code-eq34.false c.if-code-eq92.true (sym c.decode-then-code-eq92.ensures ∙ c.in_ok-i.was)) ∙ c.loop-code.invariant

pub loop-code-smaller : goal.loop-code-smaller
loop-code-smaller c = omega (arith, inside c.args.s.now c.loop-code.i (sym c.decode.ensures ∙ c.in_ok-code.was))

pub loop-code-preserved : goal.loop-code-preserved
loop-code-preserved c = sym (string_past _ _ (sym c.decode.ensures ∙ c.in_ok-code.was) c.if-code-eq34.false c.if-code-eq92.false) ∙ c.loop-code.invariant
