use Rattle.dogwood_layout.proofs.Ends.{BackAt}
use Rattle.dogwood_runs.proofs.run.solid.Given as goal

abbrev pub invariant-loop-n : goal.invariant-loop-n
invariant-loop-n l = BackAt l.table l.n

abbrev pub decreases-loop-n : goal.decreases-loop-n
decreases-loop-n l = l.n
