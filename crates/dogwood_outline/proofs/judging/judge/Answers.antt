use mathlib.Core.Path.{sym}
use Rattle.dogwood_outline.proofs.JudgeSteps.{judged_misfit, judged_remarked, judged-empty, judged-deep, judged_fine}
use Rattle.dogwood_outline.proofs.judging.judge.Goals as goal

pub returns-then-not-fit : goal.returns-then-not-fit
returns-then-not-fit c = judged_misfit _ _ _ (sym c.if-not-fit.ensures)

pub returns-in-Some : goal.returns-in-Some
returns-in-Some c = judged_remarked _ _ _ (sym c.if-not-fit.ensures) c.in-Some.ensures

pub returns-then-nothing_there : goal.returns-then-nothing_there
returns-then-nothing_there c = judged-empty _ _ _ (sym c.if-not-fit.ensures) c.in_default.ensures (sym c.if-nothing_there.ensures)

pub returns-in-Some-deep_opener : goal.returns-in-Some-deep_opener
returns-in-Some-deep_opener c =
    judged-deep _ _ _ (sym c.if-not-fit.ensures) c.in_default.ensures (sym c.if-nothing_there.ensures) c.in-Some-deep_opener.ensures

pub returns : goal.returns
returns c = judged_fine _ _ _ (sym c.if-not-fit.ensures) c.in_default.ensures (sym c.if-nothing_there.ensures) c.in_default-deep_opener.ensures
