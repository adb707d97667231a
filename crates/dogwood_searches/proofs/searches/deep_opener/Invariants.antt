use Prim.Native.Nat.{◌*◌, ◌≤◌}
use mathlib.Core.Path.{◌≡◌}
use lib.ListN.{drop}
use Rattle.dogwood_searches.specs.Searches.{deep_in}
use Rattle.dogwood_searches.proofs.searches.deep_opener.Given as goal

abbrev pub invariant-loop-kind : goal.invariant-loop-kind
invariant-loop-kind l = (deep_in l.text l.depth (drop (3 * l.kind-index) l.table) ≡ deep_in l.text 0 l.table) × (l.depth ≤ 64)
