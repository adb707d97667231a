use Prim.Native.Nat.{ℕ, ◌+◌, ◌-◌, ◌<◌}
use mathlib.Core.Path.{◌∙◌, subst}
use native.Mathlib.Omega.{arith}
use lib.ListN.{get_or, drop}
use Rattle.std.proofs.lemmas.List.{get_or-take, get_or-drop}
use Rattle.utf8.proofs.Valid.{bad_run}
use Rattle.utf8.proofs.ascii_end.Goals as goal

pub loop-i-preserved : goal.loop-i-preserved
loop-i-preserved c =
    let s = c.args.s.now in
    let i = c.loop-i.i in
    let below : (k : ℕ) → k < 16 → get_or s (i + k) 0 < 128 =
    λ k m.
    let e = get_or-take (i + 16 - i) (drop i s) k 0 (omega arith) ∙ get_or-drop i s k 0 in
    subst (λ (x : ℕ). x < 128) e (c.if-is_ascii.ensures.cases k) in
    (omega arith, bad_run s i 16 (omega arith) below ∙ c.loop-i.invariant.1)
