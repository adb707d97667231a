-- What `measure` promises, and that no second answer keeps it. What is written is promised by `Wrote` of pen.
use Rattle.std.specs.Prelude.{◌≡◌, List, ℕ}
use Rattle.std.proofs.Common.{sym, ◌∙◌}
use Rattle.dogwood_rules.specs.Tree.{joined}
use Rattle.dogwood_layout.specs.declared.Span.{Span}
use Rattle.dogwood_layout.specs.View.{tokens}
use Rattle.dogwood_layout.specs.Measure.{span_after}

-- r is the width of a table's tokens, each white-space token one blank, and the column behind them where they start in column col
abbrev pub SpanIs : List ℕ → List ℕ → ℕ → Span → Type 0
SpanIs text table col r = r ≡ span_after (record { width = 0; col = col }) (joined (tokens text table))

pub span_only : (text table : List ℕ) (col : ℕ) (r r' : Span) → SpanIs text table col r → SpanIs text table col r' → r ≡ r'
span_only text table col r r' p q = p ∙ sym q
