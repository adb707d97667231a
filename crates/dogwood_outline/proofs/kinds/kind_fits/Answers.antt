use mathlib.Core.Path.{◌≡◌, sym, ap, ◌∙◌}
use mathlib.Core.Bool.{Bool, ◌&&◌}
use native.Mathlib.Omega.{arith}
use lib.Dec.{eqb}
use lib.ListN.{get_or}
use borrow.Author.Tests.{eq-eqb, ne_eqb}
use Rattle.std.proofs.lemmas.Bool.Decides.{nat_tests}
use Rattle.dogwood_outline.proofs.KindOf.{kind_policy, kind_none, kind_count, kind_span}
use Rattle.dogwood_outline.proofs.kinds.kind_fits.Goals as goal

pub returns-in-1 : goal.returns-in-1
returns-in-1 c = sym (kind_policy c.args.record.now 0 (omega arith))

pub returns-in-1-2 : goal.returns-in-1-2
returns-in-1-2 c = sym (kind_policy c.args.record.now 0 (omega arith))

pub returns-then-start-first : goal.returns-then-start-first
returns-then-start-first c =
    let r = c.args.record.now in
    let e = kind_span r 0 (omega arith) (omega arith) in
    sym (e ∙ ap (λ (b : Bool). b && eqb (get_or r 2 0) (get_or r 5 0)) (eq-eqb _ _ c.if-start-first.true))

pub returns-else-start-first : goal.returns-else-start-first
returns-else-start-first c =
    let r = c.args.record.now in
    let e = kind_span r 0 (omega arith) (omega arith) in
    let n = ne_eqb (get_or r 1 0) (get_or r 4 0) c.if-start-first.false in
    n ∙ sym (e ∙ ap (λ (b : Bool). b && eqb (get_or r 2 0) (get_or r 5 0)) n)

pub returns-in_default-3 : goal.returns-in_default-3
returns-in_default-3 c = sym (kind_none c.args.record.now 0 (λ e. omega arith) (λ e. omega arith))

pub returns-in_default-4 : goal.returns-in_default-4
returns-in_default-4 c =
    let r = c.args.record.now in
    let n : get_or r 3 0 ≡ 1 → ⊥ = λ e. grind (arith, nat_tests, c.if-record-lt6.branch) in
    sym (kind_count r 0 (λ e. omega arith) n)
