-- The search for a deep opener, token by token.
use mathlib.Core.Path.{◌≡◌, refl}
use mathlib.Core.Bool.{true, false}
use mathlib.Core.List.{List, ◌∷◌}
use mathlib.Core.Option.{some}
use Prim.Native.Nat.{ℕ, suc, ◌-◌}
use lib.Dec.{eqb}
use Rattle.dogwood_rules.specs.Token.{Placed}
use Rattle.dogwood_rules.specs.Tree.{opener, closer}
use Rattle.dogwood_rules.specs.Searches.{too_deep}

module _ (d : ℕ) (p : Placed) (ps : List Placed) where
  pub deep_here : opener p.token ≡ true → eqb d 64 ≡ true → too_deep d (p ∷ ps) ≡ some p.start
  unfolding too_deep
  deep_here o e = rw (o, too_deep) (rw e refl)

  pub deep_open : opener p.token ≡ true → eqb d 64 ≡ false → too_deep d (p ∷ ps) ≡ too_deep (suc d) ps
  unfolding too_deep
  deep_open o e = rw (o, too_deep) (rw e refl)

  pub deep_close : opener p.token ≡ false → closer p.token ≡ true → too_deep d (p ∷ ps) ≡ too_deep (d - 1) ps
  unfolding too_deep
  deep_close o c = rw (o, too_deep) (rw c refl)

  pub deep-plain : opener p.token ≡ false → closer p.token ≡ false → too_deep d (p ∷ ps) ≡ too_deep d ps
  unfolding too_deep
  deep-plain o c = rw (o, too_deep) (rw c refl)
