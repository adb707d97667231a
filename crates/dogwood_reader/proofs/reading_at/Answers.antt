use mathlib.Core.Path.{sym, ◌∙◌}
use Rattle.dogwood_reader.proofs.Places.{place_is}
use Rattle.dogwood_reader.proofs.reading_at.Goals as goal

pub returns-in-Token : goal.returns-in-Token
returns-in-Token c = place_is c.args.src.now _ c.args.at c.split_bom.ensures.text (sym c.next.ensures ∙ c.in-Token.is)

pub returns-in-Unended : goal.returns-in-Unended
returns-in-Unended c = place_is c.args.src.now _ c.args.at c.split_bom.ensures.text (sym c.next.ensures ∙ c.in-Unended.is)

pub returns-in-Ended : goal.returns-in-Ended
returns-in-Ended c = place_is c.args.src.now _ c.args.at c.split_bom.ensures.text (sym c.next.ensures ∙ c.in-Ended.is)
