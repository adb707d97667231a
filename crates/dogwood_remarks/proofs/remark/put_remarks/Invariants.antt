use Rattle.dogwood_layout.proofs.Remarked.{RemarksAt}
use Rattle.dogwood_runs.specs.Promises.{entries_left}
use Rattle.dogwood_remarks.proofs.remark.put_remarks.Given as goal

abbrev pub invariant-loop-row : goal.invariant-loop-row
invariant-loop-row l = RemarksAt l.text l.table l.feeds l.initial.out l.out l.n l.due (entries_left l.row-iterator)
