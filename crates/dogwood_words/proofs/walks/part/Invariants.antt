use Prim.Native.Nat.{◌-◌, ◌≤◌}
use mathlib.Core.Path.{◌≡◌}
use mathlib.Core.Bool.{false}
use lib.ListN.{length, drop}
use Rattle.dogwood_words.specs.Rows.{part_in}
use Rattle.dogwood_words.proofs.walks.part.Given as goal

abbrev pub invariant-loop-row : goal.invariant-loop-row
invariant-loop-row l = (part_in l.text l.n l.depth l.seen l.i (drop l.i l.table) ≡ part_in l.text l.n 0 false l.from (drop l.from l.table)) × (l.depth ≤ l.i)

abbrev pub decreases-loop-row : goal.decreases-loop-row
decreases-loop-row l = length l.table - l.i
