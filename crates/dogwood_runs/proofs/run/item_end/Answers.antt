use mathlib.Core.Bool.{true}
use mathlib.Core.Path.{ap, ◌∙◌}
use Prim.Native.Nat.{ℕ, ◌*◌}
use Rattle.std.specs.Prelude.{Option}
use Rattle.dogwood_layout.specs.View.{tokens}
use Rattle.dogwood_layout.specs.Scan.{item_len}
use Rattle.dogwood_runs.specs.declared.parts.Separator.{Separator}
use Rattle.dogwood_runs.specs.Separators.{set_number}
use Rattle.dogwood_runs.proofs.Separators.{numbered_cuts}
use Rattle.dogwood_runs.proofs.run.item_end.Goals as goal

pub returns : goal.returns
returns c =
    let ts = tokens c.args.run.text.now c.args.run.table.now in
    c.item_end_by.ensures ∙ ap (λ (n : ℕ). 3 * n) (ap (λ (s : Option Separator). item_len true (set_number s) 0 ts) c.numbered.ensures ∙ numbered_cuts true c.args.set 0 ts)
