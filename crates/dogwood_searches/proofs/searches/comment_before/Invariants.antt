use Prim.Native.Nat.{◌-◌}
use mathlib.Core.Path.{◌≡◌}
use lib.ListN.{length, drop}
use Rattle.dogwood_searches.specs.Searches.{comment_before}
use Rattle.dogwood_searches.proofs.searches.comment_before.Given as goal

abbrev pub invariant-loop-row : goal.invariant-loop-row
invariant-loop-row l = comment_before l.n (drop l.i l.table) ≡ comment_before l.n (drop l.from l.table)

abbrev pub decreases-loop-row : goal.decreases-loop-row
decreases-loop-row l = length l.table - l.i
