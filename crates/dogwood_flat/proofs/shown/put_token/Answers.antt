use mathlib.Core.Path.{sym, ap, ◌∙◌}
use Rattle.pen.proofs.Laws.{wrote-same}
use Rattle.dogwood_rules.specs.Utf8.{encode, bytes_of}
use Rattle.dogwood_layout.proofs.Tables.{shown-blank, shown-bytes}
use Rattle.dogwood_flat.proofs.shown.put_token.Goals as goal

pub returns-then-token : goal.returns-then-token
unfolding encode bytes_of
returns-then-token c = wrote-same (sym (ap encode (shown-blank _ _ c.if-token.true))) c.put.ensures

pub returns : goal.returns
returns c =
    wrote-same (c.bytes.ensures ∙ sym (shown-bytes c.args.token.held c.if-token.false)) c.put_all.ensures
