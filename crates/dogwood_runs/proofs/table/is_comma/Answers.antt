use Rattle.std.proofs.Common.{arith}
use Rattle.std.proofs.lemmas.Bool.Decides.{nat_tests}
use Rattle.dogwood_layout.proofs.Tables.{comma_at}
use Rattle.dogwood_runs.proofs.table.is_comma.Goals as goal

pub returns-in-44 : goal.returns-in-44
returns-in-44 c = let k = comma_at c.args.token.held c.bytes.ensures in grind (arith, nat_tests)

pub returns-in_default : goal.returns-in_default
returns-in_default c = let k = comma_at c.args.token.held c.bytes.ensures in grind (arith, nat_tests)

pub returns-in_default-2 : goal.returns-in_default-2
returns-in_default-2 c = let k = comma_at c.args.token.held c.bytes.ensures in grind (arith, nat_tests)

pub returns-in_default-3 : goal.returns-in_default-3
returns-in_default-3 c = let k = comma_at c.args.token.held c.bytes.ensures in grind (arith, nat_tests)
