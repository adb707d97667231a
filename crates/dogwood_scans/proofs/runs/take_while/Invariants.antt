use Rattle.std.proofs.Common.{◌≡◌}
use Rattle.dogwood_scans.specs.Run.{run_end}
use Rattle.dogwood_scans.proofs.runs.take_while.Given as goal

abbrev pub invariant-loop-i : goal.invariant-loop-i
invariant-loop-i g l = run_end g.C.Class.members l.s l.i ≡ run_end g.C.Class.members l.s l.at
