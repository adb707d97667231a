use native.Mathlib.Omega.{arith}
use Rattle.pen.proofs.Laws.{wrote_then, wrote-same, wrote-length}
use Rattle.dogwood_layout.proofs.Dues.{next-bytes}
use Rattle.dogwood_statements.proofs.file.lay_next.Goals as goal

pub put_remarks-remarks-requires : goal.put_remarks-remarks-requires
put_remarks-remarks-requires c = c.args.before.ready.holds

pub returns : goal.returns
returns c =
    let remarks = c.put_remarks-remarks.ensures in
    let good = c.well_formed in
    let first = wrote-length remarks.wrote in
    let feeds = wrote_then remarks.wrote c.clip-at.ensures.place (omega arith) c.put_copies.ensures c.add-a.ensures.sum in
    let both = wrote-length feeds in
    wrote-same (next-bytes _ _ remarks.due) (wrote_then feeds c.clip-bt.ensures.place (omega arith) c.lay_statement.ensures c.add.ensures.sum)
