use Prim.Native.Nat.{◌-◌}
use lib.ListN.{length}
use Rattle.dogwood_layout.proofs.Loops.{SpanAt}
use Rattle.dogwood_flat.proofs.span.measure.Given as goal

abbrev pub invariant-loop-i : goal.invariant-loop-i
invariant-loop-i l = SpanAt l.run.text.now l.run.table.now l.initial.s.col l.s l.i

abbrev pub decreases-loop-i : goal.decreases-loop-i
decreases-loop-i l = length l.run.table.now - l.i
