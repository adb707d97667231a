use mathlib.Core.Path.{refl, ◌∙◌}
use Rattle.dogwood_reader.proofs.Numbered.{one_onwards}
use Rattle.dogwood_reader.proofs.read.Goals as goal

pub returns : goal.returns
returns c = record {
  gives = refl;
  moves = record { holds = refl; stands = c.reading_after-r.ensures ∙ one_onwards c.args.r.now.src.now c.args.r.now.state };
}
