use Prim.Native.Nat.{◌*◌}
use mathlib.Core.Path.{◌≡◌}
use mathlib.Core.Bool.{false}
use lib.ListN.{drop}
use Rattle.dogwood_outline.proofs.PartTurns.{parts_left}
use Rattle.dogwood_outline.proofs.fitting.parts.Given as goal

abbrev pub invariant-loop-start : goal.invariant-loop-start
invariant-loop-start l =
    parts_left l.text l.table l.end l.seen l.at (drop (2 * l.start-index) l.bounds) ≡ parts_left l.text l.table l.end false l.row l.bounds
