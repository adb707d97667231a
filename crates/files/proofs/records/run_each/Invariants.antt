-- As many steps were taken as turns.
use Rattle.files.specs.Replays.{Steps}
use Rattle.files.proofs.records.run_each.Given as goal

abbrev pub invariant-loop : goal.invariant-loop
invariant-loop g l = Steps g.F.Fn l.step l.counter l.initial.input l.initial.out l.input l.out
