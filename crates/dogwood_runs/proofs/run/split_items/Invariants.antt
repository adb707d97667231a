use mathlib.Core.Path.{◌≡◌}
use Prim.Native.Nat.{◌-◌}
use lib.ListN.{length}
use Rattle.dogwood_rules.specs.Tree.{run_of}
use Rattle.dogwood_layout.specs.View.{tokens}
use Rattle.dogwood_layout.proofs.Splits.{FoundAt, SetsAt}
use Rattle.std.specs.Prelude.{Some, None}
use Rattle.dogwood_runs.specs.Separators.{set_number}
use Rattle.dogwood_runs.proofs.run.split_items.Given as goal

abbrev pub invariant-loop-i : goal.invariant-loop-i
invariant-loop-i l = (l.chosen ≡ None) × FoundAt l.run.text.now l.run.table.now (set_number (Some l.set)) l.found l.i

abbrev pub decreases-loop-i : goal.decreases-loop-i
decreases-loop-i l = length l.run.table.now - l.i

abbrev pub invariant-sets : goal.invariant-sets
invariant-sets l = (l.chosen ≡ None) × SetsAt (run_of (tokens l.run.text.now l.run.table.now)) l.set-index
