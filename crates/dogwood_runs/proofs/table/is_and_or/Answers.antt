use Rattle.std.proofs.Common.{arith}
use Rattle.std.proofs.lemmas.Bool.Decides.{nat_tests}
use Rattle.dogwood_layout.proofs.Tables.{and-or_at}
use Rattle.dogwood_runs.proofs.table.is_and_or.Goals as goal

pub returns-in-38 : goal.returns-in-38
returns-in-38 c = let k = and-or_at c.args.token.held c.bytes.ensures in grind (arith, nat_tests)

pub returns-in-38-2 : goal.returns-in-38-2
returns-in-38-2 c = let k = and-or_at c.args.token.held c.bytes.ensures in grind (arith, nat_tests)

pub returns-in_default : goal.returns-in_default
returns-in_default c = let k = and-or_at c.args.token.held c.bytes.ensures in grind (arith, nat_tests)

pub returns-in_default-2 : goal.returns-in_default-2
returns-in_default-2 c = let k = and-or_at c.args.token.held c.bytes.ensures in grind (arith, nat_tests)

pub returns-in_default-3 : goal.returns-in_default-3
returns-in_default-3 c = let k = and-or_at c.args.token.held c.bytes.ensures in grind (arith, nat_tests)

pub returns-in_default-4 : goal.returns-in_default-4
returns-in_default-4 c = let k = and-or_at c.args.token.held c.bytes.ensures in grind (arith, nat_tests)

pub returns-in_default-5 : goal.returns-in_default-5
returns-in_default-5 c = let k = and-or_at c.args.token.held c.bytes.ensures in grind (arith, nat_tests)
