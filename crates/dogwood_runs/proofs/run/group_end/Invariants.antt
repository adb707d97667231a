use Prim.Native.Nat.{◌*◌}
use Rattle.dogwood_layout.proofs.Loops.{GroupAt}
use Rattle.dogwood_runs.proofs.run.group_end.Given as goal

abbrev pub invariant-loop-k : goal.invariant-loop-k
invariant-loop-k l = GroupAt l.run.text.now l.run.table.now l.depth (3 * l.k)
