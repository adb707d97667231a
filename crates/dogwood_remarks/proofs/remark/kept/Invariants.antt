use Prim.Native.Nat.{◌-◌}
use lib.ListN.{length}
use Rattle.dogwood_layout.proofs.Kept.{KeptAt}
use Rattle.dogwood_remarks.proofs.remark.kept.Given as goal

abbrev pub invariant-loop-i : goal.invariant-loop-i
invariant-loop-i l = KeptAt l.bytes l.keep l.i

abbrev pub decreases-loop-i : goal.decreases-loop-i
decreases-loop-i l = length l.bytes - l.i
