use mathlib.Core.Path.{◌∙◌}
use native.Mathlib.Omega.{arith}
use Rattle.dogwood_words.proofs.Words.{rest_of, read_none, read_less, read_short, read_whole}
use Rattle.dogwood_words.proofs.records.record_at.Goals as goal

pub returns-in_err-get : goal.returns-in_err-get
returns-in_err-get c = c.from_residual.ensures ∙ read_none _ _ (omega (arith, c.in_err-get.ensures.lookup.0))

pub returns-in_default : goal.returns-in_default
returns-in_default c = read_less c.args.outline.now c.args.i (rest_of c.args.outline.now c.args.i c.in_ok-get.ensures.lookup.0.2) c.in_default.len_below

pub returns-then-rest-parts : goal.returns-then-rest-parts
returns-then-rest-parts c = read_short c.args.outline.now c.args.i (rest_of c.args.outline.now c.args.i c.in_ok-get.ensures.lookup.0.2) c.in-len4-up.len_at_least c.if-rest-parts.true

pub returns : goal.returns
returns c = read_whole c.args.outline.now c.args.i (rest_of c.args.outline.now c.args.i c.in_ok-get.ensures.lookup.0.2) c.in-len4-up.len_at_least c.if-rest-parts.false
