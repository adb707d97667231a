use Prim.Native.Nat.{ℕ, ◌-◌}
use mathlib.Core.Path.{◌≡◌, ap, ◌∙◌}
use native.Mathlib.Omega.{arith}
use Rattle.dogwood_reader.specs.Standing.{onwards}
use Rattle.dogwood_reader.proofs.Numbered.{none_onwards}
use Rattle.dogwood_reader.proofs.reading_ahead.Goals as goal

pub returns : goal.returns
returns c =
    let e : 0 ≡ c.args.n - c.moves.counter = omega arith in
    none_onwards c.args.src.now c.moves.after ∙ ap (λ (k : ℕ). onwards c.args.src.now k c.moves.after) e ∙ c.moves.invariant
