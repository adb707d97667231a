use Rattle.std.proofs.Common.{arith}
use Rattle.std.proofs.lemmas.Bool.Decides.{nat_tests}
use Rattle.dogwood_layout.proofs.Tables.{opener_at}
use Rattle.dogwood_runs.proofs.table.opens.Goals as goal

pub returns-in-40 : goal.returns-in-40
returns-in-40 c = let k = opener_at c.args.token.held c.bytes.ensures in grind (arith, nat_tests)

pub returns-in_default : goal.returns-in_default
returns-in_default c = let k = opener_at c.args.token.held c.bytes.ensures in grind (arith, nat_tests)

pub returns-in_default-2 : goal.returns-in_default-2
returns-in_default-2 c = let k = opener_at c.args.token.held c.bytes.ensures in grind (arith, nat_tests)

pub returns-in_default-3 : goal.returns-in_default-3
returns-in_default-3 c = let k = opener_at c.args.token.held c.bytes.ensures in grind (arith, nat_tests)
