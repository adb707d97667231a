use mathlib.Core.Path.{refl, ◌∙◌}
use Rattle.dogwood_reader.proofs.Numbered.{one_onwards}
use Rattle.dogwood_reader.proofs.TokenReader.next.Goals as goal

pub returns : goal.returns
returns c = record { holds = refl; stands = c.reading_after-state.ensures ∙ one_onwards c.args.self.src.now c.args.self.state }
