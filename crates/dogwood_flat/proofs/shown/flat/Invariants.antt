use mathlib.Core.Path.{◌≡◌}
use Prim.Native.Nat.{◌*◌}
use lib.ListN.{length}
use Rattle.dogwood_layout.proofs.Loops.{FlatAt}
use Rattle.dogwood_flat.proofs.shown.flat.Given as goal

abbrev pub invariant-loop-kind : goal.invariant-loop-kind
invariant-loop-kind l = (length l.out ≡ length l.initial.out) × FlatAt l.text l.table l.initial.out l.out l.n (3 * l.kind-index)
