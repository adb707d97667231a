use Prim.Native.Nat.{◌-◌}
use mathlib.Core.Path.{◌≡◌}
use lib.ListN.{length}
use Rattle.dogwood_rules.specs.Outline.{statements}
use Rattle.dogwood_searches.specs.Searches.{first_comment_in}
use Rattle.dogwood_searches.proofs.TableSearch.{comments_left}
use Rattle.dogwood_searches.proofs.searches.first_comment.Given as goal

abbrev pub invariant-loop-record : goal.invariant-loop-record
invariant-loop-record l = comments_left l.table l.outline l.at l.i ≡ first_comment_in l.table (statements l.outline).0 0

abbrev pub decreases-loop-record : goal.decreases-loop-record
decreases-loop-record l = length l.outline - l.i
