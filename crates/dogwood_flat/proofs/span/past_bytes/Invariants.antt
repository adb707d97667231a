use Rattle.dogwood_layout.proofs.Bytes.{BytesAt}
use Rattle.dogwood_flat.proofs.span.past_bytes.Given as goal

abbrev pub invariant-loop-b : goal.invariant-loop-b
invariant-loop-b l = BytesAt l.bytes l.initial.s l.s l.b-index
