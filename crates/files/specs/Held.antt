-- A count that stays within what is there.
use Rattle.std.specs.Prelude.{ℕ, cond, ◌≡◌, ◌≤◌, ltb, List, Option, length, take}
use Rattle.std.specs.Io.KnownBytes.{Consumes}
use Rattle.std.proofs.Common.{sym, ◌∙◌}

-- so many stand at the start: the part of them is within what is there, and has that many
abbrev pub IsPrefixLen : ℕ → List ℕ → Type 0
IsPrefixLen n xs = (n ≤ length xs) × (n ≡ length (take n xs))

-- a reader has lost just the n bytes that now stand at the start of a buffer
pub record Filled (before after : Option (List ℕ)) (buf : List ℕ) (n : ℕ) : Type 0 where
  pub prefix_len : IsPrefixLen n buf
  pub taken : Consumes before after (take n buf)

-- n, where that many are there, else 0
unfoldable pub held : ℕ → ℕ → ℕ
held n len = cond (ltb len n) 0 n

-- no second answer keeps the promise of `within`
pub within_only : (n len r r' : ℕ) → r ≡ held n len → r' ≡ held n len → r ≡ r'
within_only n len r r' p q = p ∙ sym q

pub front_only : (n : ℕ) (xs r r' : List ℕ) → r ≡ take (held n (length xs)) xs → r' ≡ take (held n (length xs)) xs → r ≡ r'
front_only n xs r r' p q = p ∙ sym q
