use native.Mathlib.Omega.{arith}
use Rattle.pen.proofs.Laws.{wrote_then}
use Rattle.pen.proofs.put_line.Goals as goal

pub returns : goal.returns
returns c =
    wrote_then c.put-a.ensures c.clip-at.ensures.place (omega arith) c.put_copies.ensures c.add.ensures.sum
