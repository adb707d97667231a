use Prim.Native.Nat.{◌-◌}
use mathlib.Core.Path.{◌≡◌}
use lib.ListN.{length}
use Rattle.dogwood_scans.specs.Run.{string_end}
use Rattle.dogwood_scans.proofs.strings.string_rest.Given as goal

abbrev pub invariant-loop-code : goal.invariant-loop-code
invariant-loop-code l = string_end l.s l.i ≡ string_end l.s l.at

abbrev pub decreases-loop-code : goal.decreases-loop-code
decreases-loop-code l = length l.s - l.i
