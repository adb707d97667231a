use mathlib.Core.Path.{◌≡◌}
use Prim.Native.Nat.{◌-◌}
use lib.ListN.{length}
use Rattle.dogwood_layout.proofs.Statements.{PartsAt}
use Rattle.dogwood_layout.specs.Pieces.{settings}
use Rattle.dogwood_statements.proofs.file.lay_statement.Given as goal

abbrev pub invariant-loop-j : goal.invariant-loop-j
invariant-loop-j l = (length l.out ≡ length l.initial.out) × PartsAt (settings l.page) l.run.text.now l.run.table.now l.parts l.initial.out l.out l.n l.feeds l.i l.j

abbrev pub decreases-loop-j : goal.decreases-loop-j
decreases-loop-j l = length l.parts - l.j
