use native.Mathlib.Omega.{arith}
use Rattle.pen.proofs.Laws.{wrote_then, wrote-length}
use Rattle.dogwood_layout.proofs.Ends.{holds_whole}
use Rattle.dogwood_layout.proofs.Forming.{formed}
use Rattle.dogwood_layout.proofs.Lengths.{laid-wrote}
use Rattle.dogwood_layout.proofs.Statements.{part_none, part_written}
use Rattle.dogwood_statements.proofs.file.lay_part.Goals as goal

pub filled-requires : goal.filled-requires
filled-requires c = holds_whole c.args.run.text.now _ c.args.run.ready.holds

pub returns-then-not-filled : goal.returns-then-not-filled
returns-then-not-filled c = part_none _ _ c.args.run.ready.holds _ c.requires.0 c.filled.ensures _ c.if-not-filled.true _

pub lay_out-requires : goal.lay_out-requires
lay_out-requires c = (formed _ c.requires.0.sound c.requires.0.balance, c.requires.1)

pub returns : goal.returns
returns c =
    let feeds = c.put_copies-n.ensures in
    let room = wrote-length feeds in
    let good = c.well_formed in
    let laid = laid-wrote c.args.page 0 _ _ c.args.run.ready (formed _ c.requires.0.sound c.requires.0.balance) c.requires.1 c.lay_out.ensures in
    part_written _ _ c.args.run.ready.holds _ c.requires.0 c.filled.ensures _ c.if-not-filled.false
    (wrote_then feeds c.clip-at.ensures.place (omega arith) laid c.add.ensures.sum)
