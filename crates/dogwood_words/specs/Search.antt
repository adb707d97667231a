-- What a search finds, as the code gives it.
use Rattle.std.specs.Prelude.{Bool, true, false, Option, None, Some, ℕ}
use Rattle.std.proofs.Math.Option.{Option as Maybe, none, some}

-- an answer of the rules as the code gives it
abbrev pub found_of : Maybe ℕ → Option ℕ
found_of none = None
found_of (some n) = Some n

abbrev pub absent : Maybe ℕ → Bool
absent none = true
absent (some n) = false
