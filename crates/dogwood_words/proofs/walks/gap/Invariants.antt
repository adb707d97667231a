use Prim.Native.Nat.{◌-◌}
use mathlib.Core.Path.{◌≡◌}
use lib.ListN.{length, drop}
use Rattle.dogwood_words.specs.Rows.{gap_in}
use Rattle.dogwood_words.proofs.walks.gap.Given as goal

abbrev pub invariant-loop-row : goal.invariant-loop-row
invariant-loop-row l = gap_in l.end l.n l.i (drop l.i l.table) ≡ gap_in l.end l.n l.from (drop l.from l.table)

abbrev pub decreases-loop-row : goal.decreases-loop-row
decreases-loop-row l = length l.table - l.i
