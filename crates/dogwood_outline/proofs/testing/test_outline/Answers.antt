use mathlib.Core.Path.{refl}
use Prim.Native.Nat.{◌*◌}
use native.Mathlib.Omega.{arith}
use lib.ListN.{length-take}
use Rattle.std.proofs.lemmas.Result.{err_from_is_err_and}
use Rattle.dogwood_outline.proofs.Outcomes.{roomy, ample, refused_kept, refusal_some, fit_kept}
use Rattle.dogwood_outline.proofs.testing.test_outline.Goals as goal

pub returns-in_err-tokens : goal.returns-in_err-tokens
returns-in_err-tokens c =
    let p = err_from_is_err_and c.from_residual.result c.from_residual.ensures.1 in
    rw (p.1, p.2) (refused_kept c.args.source.now c.args.table.now c.tokenize.new.table _ c.in_err-tokens.was c.tokenize.ensures c.args.outline.now (refusal_some _))

pub overflow_mul-tokens : goal.overflow_mul-tokens
overflow_mul-tokens c =
    let r = roomy c.args.source.now c.args.table.now c.tokenize.new.table _ c.in_ok-tokens.was c.tokenize.ensures refl in
    omega arith

pub slice_bounds-fit-end : goal.slice_bounds-fit-end
slice_bounds-fit-end c =
    ample c.args.source.now c.args.table.now c.tokenize.new.table _ c.in_ok-tokens.was c.tokenize.ensures refl

pub slice_bounds-fit-end-2 : goal.slice_bounds-fit-end-2
slice_bounds-fit-end-2 c =
    let r = ample c.args.source.now c.args.table.now c.tokenize.new.table _ c.in_ok-tokens.was c.tokenize.ensures refl in
    let t = length-take (3 * c.in_ok-tokens.tokens) c.tokenize.new.table in
    omega arith

pub returns-then-not-fit : goal.returns-then-not-fit
returns-then-not-fit c =
    fit_kept c.args.source.now c.args.table.now c.tokenize.new.table _ c.in_ok-tokens.was c.tokenize.ensures refl c.args.outline.now c.split_bom.ensures.text c.if-not-fit.ensures

pub returns : goal.returns
returns c =
    fit_kept c.args.source.now c.args.table.now c.tokenize.new.table _ c.in_ok-tokens.was c.tokenize.ensures refl c.args.outline.now c.split_bom.ensures.text c.if-not-fit.ensures
