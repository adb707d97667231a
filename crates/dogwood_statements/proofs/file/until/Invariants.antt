use Prim.Native.Nat.{◌-◌}
use lib.ListN.{length}
use Rattle.dogwood_layout.proofs.Places.{UntilAt}
use Rattle.dogwood_statements.proofs.file.until.Given as goal

abbrev pub invariant-loop-i : goal.invariant-loop-i
invariant-loop-i l = UntilAt l.place l.table l.i

abbrev pub decreases-loop-i : goal.decreases-loop-i
decreases-loop-i l = length l.table - l.i
