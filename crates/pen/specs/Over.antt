-- What the clipped writer means. Assumes nothing: these are definitions.
use Rattle.std.specs.Prelude.{◌≡◌, ℕ, ◌+◌, min, List, [], ◌∷◌, length}

-- out with the piece written over its beginning, as far as it fits
unfoldable pub over : List ℕ → List ℕ → List ℕ
over [] p = []
over (x ∷ out) [] = x ∷ out
over (x ∷ out) (b ∷ p) = b ∷ over out p

-- where a running length stops counting: no piece that can be in memory is longer
abbrev pub cap : ℕ
cap = 0x7fff_ffff_ffff_ffff

-- the piece p was written over old, which is now new, and r is its whole length, counted up to the cap
pub record Wrote (old p : List ℕ) (r : ℕ) (new : List ℕ) : Type 0 where
  pub count : r ≡ min (length p) cap
  pub bytes : new ≡ over old p

-- no second answer and no second output
pub wrote_only : (old p : List ℕ) (r s : ℕ) (new other : List ℕ) → Wrote old p r new → Wrote old p s other → (r ≡ s) × (new ≡ other)
wrote_only old p r s new other a b = (cc, cc)

-- r is where the rest of an output of len bytes starts, n bytes on
pub record Clipped (n len r : ℕ) : Type 0 where
  pub place : r ≡ min n len

pub clipped_only : (n len r s : ℕ) → Clipped n len r → Clipped n len s → r ≡ s
clipped_only n len r s a b = cc

-- r is the sum of two lengths, counted up to the cap
pub record Added (a b r : ℕ) : Type 0 where
  pub sum : r ≡ min (a + b) cap

pub added_only : (a b r s : ℕ) → Added a b r → Added a b s → r ≡ s
added_only a b r s x y = cc
