use native.Mathlib.Omega.{arith}
use Rattle.pen.proofs.Laws.{wrote_then, wrote-length}
use Rattle.dogwood_flat.proofs.shown.put_closing.Goals as goal

pub returns : goal.returns
returns c =
    wrote_then c.put_line-a.ensures c.clip-at.ensures.place (let l = wrote-length c.put_line-a.ensures in let g = c.well_formed.0.1 in omega arith) c.put_token.ensures c.add.ensures.sum
