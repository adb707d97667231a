use Rattle.std.proofs.Common.{◌⊎◌, inr, Result, Ok, Err, OnOk, OnErr, IfErr}
use Rattle.files.proofs.records.replay.Goals as goal

on_ok : (A B : Type 0) {E : Type 0} (r : Result (Unit {0}) E) → OnOk r B → OnOk r (A ⊎ B)
on_ok A B (Ok u) h = inr h
on_ok A B (Err e) h = tt

if_err : {E : Type 0} (A : E → Type 0) (B : Type 0) (r : Result (Unit {0}) E) → OnErr r B → IfErr r (λ e. A e ⊎ B)
if_err A B (Ok u) h = tt
if_err A B (Err e) h = inr h

pub returns-in-None-clause-ended : goal.returns-in-None-clause-ended
returns-in-None-clause-ended g c = on_ok _ _ c.put_text.result c.put_text.ensures.ok

pub returns-in-None-clause-failed : goal.returns-in-None-clause-failed
returns-in-None-clause-failed g c = if_err _ _ c.put_text.result c.put_text.ensures.err
