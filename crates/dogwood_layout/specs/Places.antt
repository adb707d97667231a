-- The tokens of a table with their places, and the spans that pairs of words stand for.
use Rattle.std.specs.Prelude.{◌≡◌, Bool, true, false, List, [], ◌∷◌, ℕ, suc, ◌*◌, ltb, length}
use Rattle.dogwood_rules.specs.Token.{Placed}
use Rattle.dogwood_rules.specs.Outline.{Span}
use Rattle.dogwood_layout.specs.View.{token_of}

-- the tokens of a table, with their bounds
unfoldable pub entries : List ℕ → List ℕ → List Placed
entries text [] = []
entries text (k ∷ []) = []
entries text (k ∷ s ∷ []) = []
entries text (k ∷ s ∷ e ∷ ws) = record { token = token_of text (record { kind = k; start = s; end = e }); start = s; stop = e } ∷ entries text ws

abbrev pub before_step : Bool → ℕ → ℕ
before_step true n = suc n
before_step false n = 0

-- how many entries at the front start before a place
unfoldable pub before_len : ℕ → List ℕ → ℕ
before_len place [] = 0
before_len place (k ∷ []) = 0
before_len place (k ∷ s ∷ []) = 0
before_len place (k ∷ s ∷ e ∷ ws) = before_step (ltb s place) (before_len place ws)

-- a start and an end each
unfoldable pub pairs : List ℕ → List Span
pairs [] = []
pairs (a ∷ []) = []
pairs (a ∷ b ∷ ws) = record { start = a; stop = b } ∷ pairs ws

-- words in pairs
pub record Paired (ws : List ℕ) : Type 0 where
  pub count : ℕ
  pub words : length ws ≡ 2 * count
