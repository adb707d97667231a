-- White space at the ends of a table.
use Rattle.std.specs.Prelude.{◌≡◌, Bool, true, false, List, [], ◌∷◌, ℕ, zero, suc, ◌+◌, ◌*◌, eqb, length, drop}
use Rattle.dogwood_layout.specs.declared.Part.{Part}

-- a table of whole entries
pub record Whole (ws : List ℕ) : Type 0 where
  pub count : ℕ
  pub words : length ws ≡ 3 * count

abbrev pub front_step : Bool → ℕ → ℕ
front_step true n = suc n
front_step false n = 0

-- how many white-space entries stand at the front
unfoldable pub front_len : List ℕ → ℕ
front_len [] = 0
front_len (k ∷ []) = 0
front_len (k ∷ s ∷ []) = 0
front_len (k ∷ s ∷ e ∷ ws) = front_step (eqb k 0) (front_len ws)

abbrev pub back_step : Bool → ℕ → ℕ
back_step true zero = 0
back_step true (suc n) = suc (suc n)
back_step false n = suc n

-- how many entries are left without the white space at the end
unfoldable pub back_len : List ℕ → ℕ
back_len [] = 0
back_len (k ∷ []) = 0
back_len (k ∷ s ∷ []) = 0
back_len (k ∷ s ∷ e ∷ ws) = back_step (eqb k 0) (back_len ws)

-- what is left without the white space at both ends
abbrev pub trimmed_of : List ℕ → Part
trimmed_of ws =
    let a = 3 * front_len ws in record { start = a; end = a + 3 * back_len (drop a ws) }
