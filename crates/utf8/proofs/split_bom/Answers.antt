use mathlib.Core.Path.{sym, ◌∙◌}
use Rattle.utf8.proofs.Mark.{mark_starts, mark_front, mark_behind, none_front, none_behind}
use Rattle.utf8.proofs.split_bom.Goals as goal

pub returns-then-starts_with-clause-mark : goal.returns-then-starts_with-clause-mark
returns-then-starts_with-clause-mark c = c.split_at.ensures.front ∙ mark_front c.args.src.now (sym (mark_starts c.args.src.now) ∙ sym c.starts_with.ensures.value ∙ c.if-starts_with.true)

pub returns-then-starts_with-clause-text : goal.returns-then-starts_with-clause-text
returns-then-starts_with-clause-text c = c.split_at.ensures.back ∙ mark_behind c.args.src.now (sym (mark_starts c.args.src.now) ∙ sym c.starts_with.ensures.value ∙ c.if-starts_with.true)

pub returns-clause-mark : goal.returns-clause-mark
returns-clause-mark c = c.split_at-2.ensures.front ∙ none_front c.args.src.now (sym (mark_starts c.args.src.now) ∙ sym c.starts_with.ensures.value ∙ c.if-starts_with.false)

pub returns-clause-text : goal.returns-clause-text
returns-clause-text c = c.split_at-2.ensures.back ∙ none_behind c.args.src.now (sym (mark_starts c.args.src.now) ∙ sym c.starts_with.ensures.value ∙ c.if-starts_with.false)
