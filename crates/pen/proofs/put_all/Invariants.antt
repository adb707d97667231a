use mathlib.Core.Path.{◌≡◌}
use Prim.Native.Nat.{◌≤◌}
use lib.ListN.{length, take}
use Rattle.pen.specs.Over.{over}
use Rattle.pen.proofs.put_all.Given as goal

abbrev pub invariant-loop-i : goal.invariant-loop-i
invariant-loop-i l = (l.i ≤ length l.initial.out) × (length l.out ≡ length l.initial.out) × (l.out ≡ over l.initial.out (take l.i l.text))
