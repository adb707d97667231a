use Rattle.std.proofs.Common.{arith}
use Rattle.std.proofs.lemmas.Bool.Decides.{nat_tests}
use Rattle.dogwood_layout.specs.Scan.{depth_after}
use Rattle.dogwood_layout.proofs.Tables.{opener_at, closer_at}
use Rattle.dogwood_runs.proofs.table.depth_after.Goals as goal

pub returns-in-40 : goal.returns-in-40
unfolding depth_after
returns-in-40 c =
    let o = opener_at c.args.token.held c.bytes.ensures in
    let k = closer_at c.args.token.held c.bytes.ensures in
    grind (arith, nat_tests)

pub returns-in-41 : goal.returns-in-41
unfolding depth_after
returns-in-41 c =
    let o = opener_at c.args.token.held c.bytes.ensures in
    let k = closer_at c.args.token.held c.bytes.ensures in
    grind (arith, nat_tests)

pub returns-in_default : goal.returns-in_default
unfolding depth_after
returns-in_default c =
    let o = opener_at c.args.token.held c.bytes.ensures in
    let k = closer_at c.args.token.held c.bytes.ensures in
    grind (arith, nat_tests)

pub returns-in_default-2 : goal.returns-in_default-2
unfolding depth_after
returns-in_default-2 c =
    let o = opener_at c.args.token.held c.bytes.ensures in
    let k = closer_at c.args.token.held c.bytes.ensures in
    grind (arith, nat_tests)

pub returns-in_default-3 : goal.returns-in_default-3
unfolding depth_after
returns-in_default-3 c =
    let o = opener_at c.args.token.held c.bytes.ensures in
    let k = closer_at c.args.token.held c.bytes.ensures in
    grind (arith, nat_tests)
