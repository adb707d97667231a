use mathlib.Core.Bool.{◌&&◌}
use mathlib.Core.Path.{◌∙◌}
use lib.Dec.{eqb}
use Rattle.dogwood_layout.specs.Scan.{cut_after_token}
use Rattle.dogwood_runs.proofs.Separators.{is-comma_set}
use Rattle.dogwood_runs.proofs.table.cuts_after.Goals as goal

pub returns : goal.returns
unfolding cut_after_token
returns c = λ i. (c.eq.ensures ∙ is-comma_set c.args.set) i && eqb c.args.depth 0 && c.is_comma.ensures i
