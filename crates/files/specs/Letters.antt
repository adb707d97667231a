-- The letters of the longest source and one more.
use Rattle.std.specs.Prelude.{◌≡◌, List, ℕ, eqb, replicate, drop, if◌then◌else◌}
use Rattle.std.proofs.Common.{sym, ◌∙◌}

unfoldable pub all_letters : List ℕ
all_letters = replicate 1048577 97

-- no second bytes keep the promise of `letters`
pub letters_only : (a b : List ℕ) → a ≡ all_letters → b ≡ all_letters → a ≡ b
letters_only a b p q = p ∙ sym q

-- one letter less for the longest source
abbrev pub unwritten_of : ℕ → List ℕ
unwritten_of size = if eqb size 1048576 then drop 1 all_letters else all_letters

-- no second bytes stand for a source
pub unwritten_only : (size : ℕ) (a b : List ℕ) → a ≡ unwritten_of size → b ≡ unwritten_of size → a ≡ b
unwritten_only size a b p q = p ∙ sym q
