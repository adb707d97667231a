use mathlib.Core.Bool.{not}
use mathlib.Core.Path.{refl, sym, ap, ◌∙◌}
use native.Mathlib.Omega.{arith}
use Rattle.dogwood_rules.specs.Token.{white}
use Rattle.utf8.proofs.Inside.{inside, plain}
use Rattle.dogwood_layout.proofs.Kept.{kept_start, kept_white, kept_word, kept_fault, kept_end}
use Rattle.dogwood_remarks.proofs.remark.kept.Goals as goal

pub loop-i-init : goal.loop-i-init
loop-i-init c = kept_start _ c.requires

pub loop-i-preserved-then-not-is_space : goal.loop-i-preserved-then-not-is_space
loop-i-preserved-then-not-is_space c = kept_word _ c.loop-i.invariant c.loop-i-test.true (plain c.args.bytes.now c.loop-i.i _ c.loop-i-test.true refl c.if-b-lt128.true) (c.is_space.ensures ∙ ap white c.from.ensures) (ap not c.if-not-is_space.true)

pub loop-i-preserved-else-not-is_space : goal.loop-i-preserved-else-not-is_space
loop-i-preserved-else-not-is_space c = kept_white _ c.loop-i.invariant c.loop-i-test.true (plain c.args.bytes.now c.loop-i.i _ c.loop-i-test.true refl c.if-b-lt128.true) (c.is_space.ensures ∙ ap white c.from.ensures) (ap not c.if-not-is_space.false)

pub returns-in_default : goal.returns-in_default
returns-in_default c = absurd (kept_fault _ c.loop-i.invariant c.loop-i-test.true (sym c.decode.ensures ∙ c.in_default.is))

pub overflow_add-i-else-b-lt128 : goal.overflow_add-i-else-b-lt128
overflow_add-i-else-b-lt128 c =
    let k = inside c.args.bytes.now c.loop-i.i (sym c.decode.ensures ∙ c.in-Some.is) in
    let g = c.well_formed in
    omega arith

pub loop-i-smaller-then-not-is_space-2 : goal.loop-i-smaller-then-not-is_space-2
loop-i-smaller-then-not-is_space-2 c =
    let k = inside c.args.bytes.now c.loop-i.i (sym c.decode.ensures ∙ c.in-Some.is) in
    omega arith

pub loop-i-preserved-then-not-is_space-2 : goal.loop-i-preserved-then-not-is_space-2
loop-i-preserved-then-not-is_space-2 c = kept_word _ c.loop-i.invariant c.loop-i-test.true (sym c.decode.ensures ∙ c.in-Some.is) c.is_space-else-b-lt128.ensures (ap not c.if-not-is_space-2.true)

pub loop-i-smaller : goal.loop-i-smaller
loop-i-smaller c =
    let k = inside c.args.bytes.now c.loop-i.i (sym c.decode.ensures ∙ c.in-Some.is) in
    omega arith

pub loop-i-preserved : goal.loop-i-preserved
loop-i-preserved c = kept_white _ c.loop-i.invariant c.loop-i-test.true (sym c.decode.ensures ∙ c.in-Some.is) c.is_space-else-b-lt128.ensures (ap not c.if-not-is_space-2.false)

pub returns : goal.returns
returns c = kept_end _ c.loop-i.invariant (omega (arith, c.loop-i-test.false))
