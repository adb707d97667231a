use native.Mathlib.Omega.{arith}
use borrow.Author.Tests.{lt-ltb, le-ltb}
use lib.ListN.{length}
use Rattle.dogwood_tokens.specs.Cursor.{tokens_at}
use Rattle.dogwood_syntax.specs.Table.{short_of}
use Rattle.dogwood_tokens.proofs.Seam.{count_all}
use Rattle.dogwood_tokens.proofs.Tokens.{tokens_few}
use Rattle.dogwood_syntax.proofs.table.shortage.Goals as goal

pub returns-then-enough : goal.returns-then-enough
unfolding short_of
returns-then-enough c = simp (le-ltb c.args.rows (length (tokens_at c.args.text.now 0)) (omega (arith, tokens_few c.args.text.now 0 (omega arith), count_all c.args.text.now)))

pub returns-then-rows-n : goal.returns-then-rows-n
unfolding short_of
returns-then-rows-n c = simp (← c.count-n.ensures, lt-ltb _ _ c.if-rows-n.true)

pub returns-else-rows-n : goal.returns-else-rows-n
unfolding short_of
returns-else-rows-n c = simp (← c.count-n.ensures, le-ltb _ _ c.if-rows-n.false)
