use Prim.Native.Nat.{◌-◌}
use mathlib.Core.Path.{◌≡◌}
use lib.ListN.{length, drop}
use Rattle.dogwood_words.specs.Rows.{skip_in}
use Rattle.dogwood_words.proofs.rows.skip.Given as goal

abbrev pub invariant-loop-row : goal.invariant-loop-row
invariant-loop-row l = skip_in l.n l.i (drop l.i l.table) ≡ skip_in l.n l.from (drop l.from l.table)

abbrev pub decreases-loop-row : goal.decreases-loop-row
decreases-loop-row l = length l.table - l.i
