use native.Mathlib.Omega.{arith}
use Rattle.pen.proofs.Laws.{over_one, over_full}
use Rattle.pen.proofs.put.Goals as goal

pub returns-then-out-gt0 : goal.returns-then-out-gt0
returns-then-out-gt0 c = record { count = omega arith; bytes = over_one _ _ c.if-out-gt0.true }

pub returns-else-out-gt0 : goal.returns-else-out-gt0
returns-else-out-gt0 c = record { count = omega arith; bytes = over_full _ _ c.if-out-gt0.false }
