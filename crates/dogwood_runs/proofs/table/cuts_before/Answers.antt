use mathlib.Core.Bool.{◌&&◌}
use mathlib.Core.Path.{◌∙◌}
use lib.Dec.{eqb}
use Rattle.dogwood_layout.specs.Scan.{cut_before}
use Rattle.dogwood_runs.proofs.Separators.{is-and-or_set}
use Rattle.dogwood_runs.proofs.table.cuts_before.Goals as goal

pub returns : goal.returns
unfolding cut_before
returns c = λ i. (c.eq.ensures ∙ is-and-or_set c.args.set) i && eqb c.args.depth 0 && c.is_and_or.ensures i
