use Prim.Native.Nat.{ℕ}
use native.Mathlib.Omega.{arith}
use lib.ListN.{length-take}
use Rattle.pen.proofs.Laws.{wrote_then, wrote-length}
use Rattle.dogwood_layout.proofs.Remarked.{remark_none, remark_valid, remark-fits, remark_written}
use Rattle.dogwood_remarks.proofs.remark.put_remark.Goals as goal

pub returns-then-token : goal.returns-then-token
returns-then-token c = remark_none _ _ _ c.if-token.true _

pub kept-requires : goal.kept-requires
kept-requires c = remark_valid c.args.token.held c.bytes-bytes.ensures

pub slice_bounds-put_all-end-2 : goal.slice_bounds-put_all-end-2
slice_bounds-put_all-end-2 c =
    let f = remark-fits c.args.token.held c.bytes-bytes.ensures c.kept.ensures in
    omega (arith, length-take {A = ℕ})

pub returns : goal.returns
returns c =
    let feeds = c.put_copies-n.ensures in
    let room = wrote-length feeds in
    let good = c.well_formed in
    remark_written c.args.token.held c.bytes-bytes.ensures c.kept.ensures (omega arith) _
    (wrote_then feeds c.clip-at.ensures.place (omega arith) c.put_all.ensures c.add.ensures.sum)
