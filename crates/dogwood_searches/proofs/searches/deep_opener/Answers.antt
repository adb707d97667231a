use Prim.Native.Nat.{ℕ, ◌+◌, ◌*◌}
use mathlib.Core.Path.{ap, ◌∙◌}
use native.Mathlib.Omega.{arith}
use lib.ListN.{drop}
use Rattle.dogwood_words.specs.Search.{found_of}
use Rattle.dogwood_rows.proofs.Chunks.{triple}
use Rattle.dogwood_words.proofs.Chunks.{pieces_end}
use Rattle.dogwood_searches.specs.Searches.{deep_in}
use Rattle.dogwood_searches.proofs.TableSearch.{deep_done, deep_here, deep_open, deep_close, deep_on}
use Rattle.dogwood_searches.proofs.searches.deep_opener.Goals.{then-opens+else-depth-eq-DEEPEST, else-opens+then-closes, else-opens+else-closes}
use Rattle.dogwood_searches.proofs.searches.deep_opener.Goals as goal

pub returns-then-depth-eq-DEEPEST : goal.returns-then-depth-eq-DEEPEST
returns-then-depth-eq-DEEPEST c =
    let t = triple c.args.table.now c.loop-kind.kind-index c.as_chunks.ensures.front c.as_chunks.ensures.front_len c.loop-kind-test.true in
    ap found_of (deep_here c.args.text.now c.args.table.now _ _ t c.byte-first.ensures c.if-opens.ensures c.if-depth-eq-DEEPEST.true ∙ c.loop-kind.invariant.0)

pub loop-kind-preserved : goal.loop-kind-preserved
loop-kind-preserved c =
    let t = triple c.args.table.now c.loop-kind.kind-index c.as_chunks.ensures.front c.as_chunks.ensures.front_len c.loop-kind-test.true in
    let f = λ (d : ℕ). deep_in c.args.text.now d (drop (3 * (c.loop-kind.kind-index + 1)) c.args.table.now) in
    let i = c.loop-kind.invariant in
    elim c.if-opens.branch [
      | then-opens+else-depth-eq-DEEPEST w ↦ (ap f w.depth-is ∙ deep_open _ c.args.table.now _ (3 * c.loop-kind.kind-index) t c.byte-first.ensures w.if-opens.ensures w.if-depth-eq-DEEPEST.false ∙ i.0, omega (arith, i.1, w.depth-is, w.if-depth-eq-DEEPEST.false))
      | else-opens+then-closes w ↦ (ap f w.depth-is ∙ deep_close _ c.args.table.now _ (3 * c.loop-kind.kind-index) t c.byte-first.ensures w.if-opens.ensures w.if-closes.ensures w.saturating_sub-depth.ensures ∙ i.0, omega (arith, i.1, w.depth-is, w.saturating_sub-depth.ensures))
      | else-opens+else-closes w ↦ (ap f w.depth-is ∙ deep_on _ c.args.table.now _ (3 * c.loop-kind.kind-index) t c.byte-first.ensures w.if-opens.ensures w.if-closes.ensures ∙ i.0, omega (arith, i.1, w.depth-is))
    ]

pub returns : goal.returns
returns c =
    ap found_of (deep_done c.args.text.now c.args.table.now c.loop-kind.depth (3 * c.loop-kind.kind-index) (pieces_end c.args.table.now c.loop-kind.kind-index (omega (arith, c.loop-kind-test.false, c.as_chunks.ensures.front_len))) ∙ c.loop-kind.invariant.0)
