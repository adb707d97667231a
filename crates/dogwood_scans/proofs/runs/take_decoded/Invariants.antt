use Rattle.std.proofs.Common.{◌≡◌, ◌-◌, length}
use Rattle.dogwood_scans.specs.Run.{run_end}
use Rattle.dogwood_scans.proofs.runs.take_decoded.Given as goal

abbrev pub invariant-loop-code : goal.invariant-loop-code
invariant-loop-code g l = run_end g.C.Class.members l.s l.i ≡ run_end g.C.Class.members l.s l.at

abbrev pub decreases-loop-code : goal.decreases-loop-code
decreases-loop-code g l = length l.s - l.i
