use Rattle.dogwood_layout.proofs.Bytes.{past_lf, past_first, past_inner}
use Rattle.dogwood_flat.proofs.span.past_byte.Goals as goal

pub returns-then-b-eq10 : goal.returns-then-b-eq10
returns-then-b-eq10 c = past_lf _ _ c.if-b-eq10.true

pub returns-then-b : goal.returns-then-b
returns-then-b c = past_first _ _ c.if-b-eq10.false c.if-b.true

pub returns : goal.returns
returns c = past_inner _ _ c.if-b-eq10.false c.if-b.false
