use mathlib.Core.List.{◌∷◌}
use mathlib.Core.Path.{sym, ap, ◌∙◌}
use Prim.Native.Nat.{ℕ, ◌+◌}
use native.Mathlib.Omega.{arith}
use lib.ListN.{length, drop, length-drop}
use borrow.Author.Rules.{rules}
use Rattle.dogwood_layout.specs.View.{rows}
use Rattle.dogwood_layout.proofs.Tables.{rows_short, rows_first}
use Rattle.dogwood_runs.proofs.entries.EntriesIterator.next.Goals as goal

pub returns-then-self-behind-clause-steps : goal.returns-then-self-behind-clause-steps
returns-then-self-behind-clause-steps c =
    let e = rows_short (drop c.args.self.now.at c.args.self.now.table.now) (let t = c.if-self-behind.true in omega (arith, length-drop {A = ℕ})) in
    (e, e)

pub returns-clause-steps : goal.returns-clause-steps
returns-clause-steps c =
    rows_first c.args.self.now.table.now c.args.self.now.at (let t = c.if-self-behind.false in omega arith) ∙ ap (λ e. e ∷ rows (drop (c.args.self.now.at + 3) c.args.self.now.table.now)) (sym c.entry_at-e.ensures)

pub returns-clause-goes : goal.returns-clause-goes
returns-clause-goes c =
    let e = ap length (rows_first c.args.self.now.table.now c.args.self.now.at (let t = c.if-self-behind.false in omega arith)) in
    search rules
