use mathlib.Core.Path.{sym, ap, ◌∙◌}
use Rattle.dogwood_layout.specs.Measure.{span_after, past_bytes}
use Rattle.dogwood_layout.proofs.Bytes.{past-encode, span_blank}
use Rattle.dogwood_layout.proofs.Tables.{shown-blank, shown-bytes}
use Rattle.dogwood_flat.proofs.span.past_token.Goals as goal

pub returns-then-token : goal.returns-then-token
returns-then-token c = span_blank _ ∙ ap (span_after _) (sym (shown-blank _ _ c.if-token.true))

pub past_bytes-requires : goal.past_bytes-requires
past_bytes-requires c = c.requires

pub returns : goal.returns
returns c =
    c.past_bytes.ensures ∙ ap (past_bytes _) (c.bytes.ensures ∙ sym (shown-bytes c.args.token.held c.if-token.false)) ∙ past-encode _ _
