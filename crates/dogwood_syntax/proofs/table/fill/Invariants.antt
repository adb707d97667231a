use Prim.Native.Nat.{◌+◌, ◌-◌, ◌*◌, ◌≤◌}
use mathlib.Core.Path.{◌≡◌}
use lib.ListN.{length}
use lib.Seq.{sets}
use Rattle.dogwood_rules.specs.Token.{words_of}
use Rattle.dogwood_tokens.specs.Cursor.{tokens_at}
use Rattle.dogwood_syntax.proofs.table.fill.Given as goal

abbrev pub invariant-loop-token : goal.invariant-loop-token
invariant-loop-token l =
    (l.n ≤ l.cursor.at) × (l.cursor.at ≤ length l.text) × (length l.table ≡ length l.initial.table)
    × (l.n + length (tokens_at l.text l.cursor.at) ≡ length (tokens_at l.text 0))
    × (length (words_of (tokens_at l.text 0)) ≤ length l.initial.table
    → sets l.table (3 * l.n) (words_of (tokens_at l.text l.cursor.at)) ≡ sets l.initial.table 0 (words_of (tokens_at l.text 0)))

abbrev pub decreases-loop-token : goal.decreases-loop-token
decreases-loop-token l = length l.text - l.cursor.at
