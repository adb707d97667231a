use mathlib.Core.Path.{◌≡◌}
use Prim.Native.Nat.{◌+◌, ◌-◌, ◌*◌}
use lib.ListN.{length}
use Rattle.dogwood_layout.specs.Pieces.{settings}
use Rattle.dogwood_layout.proofs.Lays.{LinesAt, RunAt}
use Rattle.dogwood_runs.specs.Separators.{set_number}
use Rattle.dogwood_groups.proofs.lay.+laying.Given as goal

abbrev pub decreases-lay_group : goal.decreases-lay_group
decreases-lay_group l = 6 * length l.run.table.now + 0

abbrev pub decreases-lay_item : goal.decreases-lay_item
decreases-lay_item l = 6 * length l.run.table.now + 4

abbrev pub decreases-lay_items : goal.decreases-lay_items
decreases-lay_items l = 6 * length l.run.table.now + 5

abbrev pub decreases-lay_out : goal.decreases-lay_out
decreases-lay_out l = 6 * length l.run.table.now + 3

abbrev pub decreases-lay_piece : goal.decreases-lay_piece
decreases-lay_piece l = 6 * length l.run.table.now + 1

abbrev pub decreases-lay_run : goal.decreases-lay_run
decreases-lay_run l = 6 * length l.run.table.now + 2

abbrev pub invariant-lay_items-loop-i : goal.invariant-lay_items-loop-i
invariant-lay_items-loop-i l = (length l.out ≡ length l.initial.out) × LinesAt (settings l.page) l.depth l.run.text.now l.run.table.now (set_number l.set) l.initial.out l.out l.n l.i

abbrev pub decreases-lay_items-loop-i : goal.decreases-lay_items-loop-i
decreases-lay_items-loop-i l = length l.run.table.now - l.i

abbrev pub invariant-lay_run-loop-i : goal.invariant-lay_run-loop-i
invariant-lay_run-loop-i l = (length l.out ≡ length l.initial.out) × RunAt (settings l.page) l.depth l.start l.run.text.now l.run.table.now l.initial.out l.out l.n l.i l.col l.rest

abbrev pub decreases-lay_run-loop-i : goal.decreases-lay_run-loop-i
decreases-lay_run-loop-i l = length l.run.table.now - l.i
