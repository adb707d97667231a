use Rattle.std.proofs.Common.{◌≡◌, ◌∙◌, ◌+◌, inl, inr, ℕ, suc, Bool, true, Result, Ok, Err, IfErr, IsErrAnd, refl, sym, ap, subst, add-one, arith}
use Rattle.std.specs.Fn.{Shared}
use denote.MutBor.{MutBor}
use Rattle.files.specs.Replays.{Step, Steps, Failed}
use Rattle.files.proofs.records.run_each.Goals as goal

module _ {F I O E : Type 0} (g : Shared F (MutBor I × (MutBor O × Unit {0})) (Result Bool E × (MutBor I × (MutBor O × Unit {0})))) (f : F) where
  answers_as : {i i' : I} {o o' : O} {r r' : Result Bool E} → r ≡ r' → Step g f i o r i' o' → Step g f i o r' i' o'
  answers_as {i} {i'} {o} {o'} e s = subst (λ (r : Result Bool E). Step g f i o r i' o') e s

  one_more : (n : ℕ) (i : I) (o : O) {j i' : I} {p o' : O} → Steps g f n i o j p → Step g f j p (Ok true) i' o' → Steps g f (n + 1) i o i' o'
  one_more n i o {j} {i'} {p} {o'} before s = let all : Steps g f (suc n) i o i' o' = (j, p, before, s) in rw add-one all

  failed_as : (n : ℕ) (i : I) (o : O) {j i' : I} {p o' : O} {r : Result Bool E} (q : Result (Unit {0}) E) (e : E) → Steps g f n i o j p → r ≡ Err e → IsErrAnd q (λ x. x ≡ e) → Step g f j p r i' o'
      → IfErr q (λ x. Failed g f i o x i' o')
  failed_as n i o (Ok u) e before k l s = absurd l
  failed_as n i o {j} {i'} {p} {o'} (Err x) e before k l s = record { count = n; j = j; p = p; before = before; last = answers_as (k ∙ ap Err (sym l)) s }

pub loop-init : goal.loop-init
loop-init g c = (refl, refl)

pub loop-preserved : goal.loop-preserved
loop-preserved g c =
    let s : Step g.F.Fn c.args.step c.loop.input c.loop.out c.step.result c.step.new.arg2 c.step.new.arg3 =
    record { input = _; output = _; input_is = refl; output_is = refl; input_left = _; output_left = _; met = c.step.ensures; left_input = refl; left_output = refl } in
    one_more g.F.Fn c.args.step c.loop.counter _ _ c.loop.invariant (answers_as g.F.Fn c.args.step (c.in_ok-step.was ∙ ap Ok c.if-not-branch.false) s)

pub returns-in_err-step-clause-failed : goal.returns-in_err-step-clause-failed
returns-in_err-step-clause-failed g c =
    let s : Step g.F.Fn c.args.step c.loop.input c.loop.out c.step.result c.step.new.arg2 c.step.new.arg3 =
    record { input = _; output = _; input_is = refl; output_is = refl; input_left = _; output_left = _; met = c.step.ensures; left_input = refl; left_output = refl } in
    failed_as g.F.Fn c.args.step c.loop.counter _ _ c.from_residual.result _ c.loop.invariant c.in_err-step.was c.from_residual.ensures.1 s

pub returns-then-not-branch-clause-ended : goal.returns-then-not-branch-clause-ended
returns-then-not-branch-clause-ended g c =
    let s : Step g.F.Fn c.args.step c.loop.input c.loop.out c.step.result c.step.new.arg2 c.step.new.arg3 =
    record { input = _; output = _; input_is = refl; output_is = refl; input_left = _; output_left = _; met = c.step.ensures; left_input = refl; left_output = refl } in
    record { count = _; j = _; p = _; before = c.loop.invariant; last = inl (answers_as g.F.Fn c.args.step (c.in_ok-step.was ∙ ap Ok c.if-not-branch.true) s) }

pub returns-clause-ended : goal.returns-clause-ended
returns-clause-ended g c = record { count = c.loop.counter; j = _; p = _; before = c.loop.invariant; last = inr (omega arith, refl, refl) }
