use mathlib.Core.Path.{refl, sym, ap, ◌∙◌}
use native.Mathlib.Omega.{arith}
use lib.ListN.{length-set}
use lib.Seq.{take_all}
use Rattle.pen.specs.Over.{over}
use Rattle.pen.proofs.Laws.{over-nil, over_step, over_clip}
use Rattle.pen.proofs.put_all.Goals as goal

pub loop-i-init : goal.loop-i-init
loop-i-init c = (omega arith, refl, sym (over-nil _))

pub loop-i-preserved : goal.loop-i-preserved
loop-i-preserved c = (omega arith, simp length-set c.loop-i.invariant.1, rw c.loop-i.invariant.2 (over_step c.args.out.now c.args.text.now c.loop-i.i (omega arith) (omega arith)))

pub returns-after-loop-i : goal.returns-after-loop-i
returns-after-loop-i c = record { count = omega arith; bytes = c.loop-i.invariant.2 ∙ ap (over _) (take_all c.loop-i.i c.args.text.now (omega arith)) }

pub returns-then-out-i : goal.returns-then-out-i
returns-then-out-i c = record { count = omega arith; bytes = c.loop-i.invariant.2 ∙ over_clip c.args.out.now c.args.text.now c.loop-i.i (omega arith) }
