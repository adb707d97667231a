use mathlib.Core.Path.{◌≡◌}
use Prim.Native.Nat.{◌-◌}
use lib.ListN.{length}
use Rattle.dogwood_layout.specs.Pieces.{settings}
use Rattle.dogwood_layout.proofs.Outlines.{FileAt}
use Rattle.dogwood_statements.proofs.file.top_level_items.Given as goal

abbrev pub invariant-loop-o : goal.invariant-loop-o
invariant-loop-o l = (length l.out ≡ length l.initial.out) × FileAt (settings l.page) l.run.text.now l.run.table.now l.outline l.initial.out l.out l.n l.feeds l.i l.o

abbrev pub decreases-loop-o : goal.decreases-loop-o
decreases-loop-o l = length l.outline - l.o
