use mathlib.Core.Path.{refl, sym, ap, ◌∙◌}
use Rattle.std.specs.Prelude.{Err}
use native.Mathlib.Omega.{arith}
use Rattle.std.proofs.Common.{length-take-le}
use Rattle.dogwood_outline.proofs.Outcomes.{roomy, ample}
use Rattle.dogwood_formatter.proofs.Answering.{part_ready, refused_answered, unended_answered, settled_answered}
use Rattle.dogwood_formatter.proofs.format.format_policies.Goals as goal

pub overflow_mul-tokens : goal.overflow_mul-tokens
overflow_mul-tokens c =
    let r = roomy c.args.source.now c.args.table.now c.tokenize.new.table _ c.in-Ok.is c.tokenize.ensures refl in
    let g = c.well_formed in
    omega arith

pub slice_bounds-format_tokens-end : goal.slice_bounds-format_tokens-end
slice_bounds-format_tokens-end c =
    let r = ample c.args.source.now c.args.table.now c.tokenize.new.table _ c.in-Ok.is c.tokenize.ensures refl in
    omega arith

pub slice_bounds-format_tokens-end-in-Ok : goal.slice_bounds-format_tokens-end-in-Ok
slice_bounds-format_tokens-end-in-Ok c =
    let r = ample c.args.source.now c.args.table.now c.tokenize.new.table _ c.in-Ok.is c.tokenize.ensures refl in
    sym (length-take-le _ _ (omega arith))

pub format_tokens-requires : goal.format_tokens-requires
format_tokens-requires c =
    part_ready c.args.source.now c.args.outline.now c.args.table.now c.args.output.now c.tokenize.new.table _ c.in-Ok.is c.tokenize.ensures refl

pub returns-in-Err-TooLong : goal.returns-in-Err-TooLong
returns-in-Err-TooLong c =
    refused_answered c.args.source.now c.args.outline.now c.args.table.now c.args.output.now c.tokenize.new.table _ (c.in-Err-TooLong.is ∙ ap Err c.in-Err-TooLong.field-0-is) c.tokenize.ensures (λ e. omega arith) refl

pub returns-in-Err-NotUtf8 : goal.returns-in-Err-NotUtf8
returns-in-Err-NotUtf8 c =
    refused_answered c.args.source.now c.args.outline.now c.args.table.now c.args.output.now c.tokenize.new.table _ (c.in-Err-NotUtf8.is ∙ ap Err c.in-Err-NotUtf8.field-0-is) c.tokenize.ensures (λ e. omega arith) refl

pub returns-in-Err-Unended : goal.returns-in-Err-Unended
returns-in-Err-Unended c =
    unended_answered c.args.source.now c.args.outline.now c.args.table.now c.args.output.now c.tokenize.new.table _ (c.in-Err-Unended.is ∙ ap Err c.in-Err-Unended.field-0-is) c.tokenize.ensures refl c.hand_back.ensures

pub returns-in-Err-Small : goal.returns-in-Err-Small
returns-in-Err-Small c =
    refused_answered c.args.source.now c.args.outline.now c.args.table.now c.args.output.now c.tokenize.new.table _ (c.in-Err-Small.is ∙ ap Err c.in-Err-Small.field-0-is) c.tokenize.ensures (λ e. omega arith) refl

pub returns-in-Ok : goal.returns-in-Ok
returns-in-Ok c =
    settled_answered c.args.source.now c.args.outline.now c.args.table.now c.args.output.now c.tokenize.new.table _ c.in-Ok.is c.tokenize.ensures refl c.format_tokens.ensures
