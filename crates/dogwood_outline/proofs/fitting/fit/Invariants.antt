use Prim.Native.Nat.{◌-◌, ◌≤◌}
use mathlib.Core.Path.{◌≡◌}
use lib.ListN.{length}
use Rattle.dogwood_outline.specs.Table.{fits_in}
use Rattle.dogwood_outline.proofs.RecordTurns.{records_left}
use Rattle.dogwood_outline.proofs.fitting.fit.Given as goal

abbrev pub invariant-loop-record : goal.invariant-loop-record
invariant-loop-record l = (records_left l.text l.table l.outline l.i l.row ≡ fits_in l.text l.table l.outline) × (l.i ≤ length l.outline)

abbrev pub decreases-loop-record : goal.decreases-loop-record
decreases-loop-record l = length l.outline - l.i
