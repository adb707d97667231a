use Prim.Native.Nat.{◌+◌}
use mathlib.Core.Path.{refl, sym, ◌∙◌}
use native.Mathlib.Omega.{arith}
use Rattle.utf8.proofs.Inside.{plain}
use Rattle.utf8.proofs.Reading.{end_fault}
use Rattle.dogwood_scans.proofs.Run.{string_out, string_close, string_past, string_escape, string_open}
use Rattle.dogwood_scans.proofs.strings.string_end.Goals as goal

pub returns-then-b-eq34 : goal.returns-then-b-eq34
returns-then-b-eq34 c = sym (string_close c.args.s.now c.loop-i.i (plain c.args.s.now c.loop-i.i _ c.loop-i-test.true refl (omega arith)) c.if-b-eq34.true) ∙ c.loop-i.invariant

pub returns-then-s-i : goal.returns-then-s-i
returns-then-s-i c = sym (string_open c.args.s.now c.loop-i.i (plain c.args.s.now c.loop-i.i _ c.loop-i-test.true refl c.if-b-ge128.false) c.if-b-eq34.false c.if-b-eq92.true (end_fault c.args.s.now (c.loop-i.i + 1) c.if-s-i.true)) ∙ c.loop-i.invariant

pub loop-i-preserved-then-b-eq92 : goal.loop-i-preserved-then-b-eq92
loop-i-preserved-then-b-eq92 c = sym (string_escape c.args.s.now c.loop-i.i (plain c.args.s.now c.loop-i.i _ c.loop-i-test.true refl c.if-b-ge128.false) c.if-b-eq34.false c.if-b-eq92.true (plain c.args.s.now (c.loop-i.i + 1) _ c.if-s-i.false refl c.if-s-i-ge128.false)) ∙ c.loop-i.invariant

pub loop-i-preserved : goal.loop-i-preserved
loop-i-preserved c = sym (string_past c.args.s.now c.loop-i.i (plain c.args.s.now c.loop-i.i _ c.loop-i-test.true refl c.if-b-ge128.false) c.if-b-eq34.false (λ e. omega arith)) ∙ c.loop-i.invariant

pub returns : goal.returns
returns c = string_out c.args.s.now c.loop-i.i c.loop-i-test.false ∙ c.loop-i.invariant
