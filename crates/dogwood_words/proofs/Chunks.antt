-- The ends of a list's pieces: no row and no span is behind them.
use Rattle.std.specs.Prelude.{None}
use mathlib.Core.Path.{◌≡◌, refl, ap}
use mathlib.Core.List.{List, [], ◌∷◌}
use Prim.Native.Nat.{ℕ, ◌*◌, ◌/◌, ◌<◌, ◌≤◌}
use native.Mathlib.Omega.{arith}
use lib.ListN.{length, drop, length-drop}
use Rattle.dogwood_words.specs.Rows.{row_of}
use Rattle.dogwood_words.specs.Records.{spans_in}

module _ (ws : List ℕ) (k : ℕ) where
  -- no row behind the last piece
  pub pieces_end : length ws / 3 ≤ k → None ≡ row_of (3 * k) (drop (3 * k) ws)
  pieces_end h = by (drop (3 * k) ws) (let a = length-drop (3 * k) ws in omega arith)
    where
      by : (l : List ℕ) → length l < 3 → None ≡ row_of (3 * k) l
      by [] q = refl
      by (a ∷ []) q = refl
      by (a ∷ b ∷ []) q = refl
      by (a ∷ b ∷ c ∷ t) q = absurd (omega arith)

  pub pairs_end : length ws / 2 ≤ k → [] ≡ spans_in (drop (2 * k) ws)
  unfolding spans_in
  pairs_end h = by (drop (2 * k) ws) (let a = length-drop (2 * k) ws in omega arith)
    where
      by : (l : List ℕ) → length l < 2 → [] ≡ spans_in l
      by [] q = refl
      by (a ∷ []) q = refl
      by (a ∷ b ∷ t) q = absurd (omega arith)
