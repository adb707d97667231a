use Rattle.std.proofs.Common.{◌≡◌, ◌-◌}
use Rattle.dogwood_reader.specs.Standing.{onwards}
use Rattle.dogwood_reader.proofs.reading_ahead.Given as goal

abbrev pub invariant-moves : goal.invariant-moves
invariant-moves l = onwards l.src (l.n - l.counter) l.after ≡ onwards l.src l.n l.initial.after
