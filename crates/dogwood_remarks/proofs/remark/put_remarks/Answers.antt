use mathlib.Core.Path.{subst}
use native.Mathlib.Omega.{arith}
use Rattle.dogwood_layout.proofs.Remarked.{RemarksAt, remarks_start, remarks_turn, remarks_end}
use Rattle.dogwood_remarks.proofs.remark.put_remarks.Goals as goal

pub loop-row-init : goal.loop-row-init
loop-row-init c = rw (c.into_iter-row-iterator.ensures.into_iter_gives, c.of-row-items.ensures) (remarks_start _ _ _ _ c.requires)

pub invariant_of-token : goal.invariant_of-token
invariant_of-token c = record { held = (subst (RemarksAt _ _ _ _ _ _ _) c.in-Some.ensures.steps c.loop-row.invariant).held.0 }

pub loop-row-preserved : goal.loop-row-preserved
loop-row-preserved c =
    remarks_turn _ _ _ (subst (RemarksAt _ _ _ _ _ _ _) c.in-Some.ensures.steps c.loop-row.invariant) c.clip-at.ensures.place (omega arith) c.put_remark-remark.ensures c.add-n.ensures.sum

pub returns : goal.returns
returns c = remarks_end _ _ _ (subst (RemarksAt _ _ _ _ _ _ _) c.in-None.ensures.steps.0 c.loop-row.invariant)
