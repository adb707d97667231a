use Prim.Native.Nat.{◌*◌}
use Rattle.dogwood_layout.proofs.Loops.{ItemAt}
use Rattle.dogwood_runs.specs.Separators.{set_number}
use Rattle.dogwood_runs.proofs.run.item_end_by.Given as goal

abbrev pub invariant-loop-k : goal.invariant-loop-k
invariant-loop-k l = ItemAt l.run.text.now l.run.table.now (set_number l.set) l.first l.depth (3 * l.k)
