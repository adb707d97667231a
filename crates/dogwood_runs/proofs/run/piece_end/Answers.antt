use mathlib.Core.Path.{sym, ◌∙◌}
use Rattle.dogwood_layout.proofs.Loops.{piece-group, piece_one}
use Rattle.dogwood_layout.proofs.Tables.{held_at, entry_there}
use Rattle.dogwood_runs.proofs.run.piece_end.Goals as goal

pub entry_at-requires : goal.entry_at-requires
entry_at-requires c = entry_there _ _ 0 c.args.run.ready.holds c.requires

pub invariant_of-first : goal.invariant_of-first
invariant_of-first c = record { held = held_at _ _ 0 c.args.run.ready.holds c.requires c.entry_at.ensures }

pub returns-then-opens : goal.returns-then-opens
returns-then-opens c =
    c.group_end.ensures ∙ piece-group _ _ c.requires c.args.run.ready.holds c.entry_at.ensures (sym c.opens.ensures ∙ c.if-opens.true)

pub returns : goal.returns
returns c =
    piece_one _ _ c.requires c.args.run.ready.holds c.entry_at.ensures (sym c.opens.ensures ∙ c.if-opens.false)
