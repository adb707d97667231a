-- What the functions of this crate promise. Each promise is one equation, and no second answer keeps it.
use Rattle.std.specs.Prelude.{◌≡◌, Bool, List, ℕ, Option}
use Rattle.std.proofs.Common.{sym, ◌∙◌}
use Rattle.dogwood_scans.specs.Run.{run_end, string_end}

-- r is where the longest run of characters ends that pass k and start at a place of s
abbrev pub RunIs : (ℕ → Bool) → List ℕ → ℕ → ℕ → Type 0
RunIs k s at r = r ≡ run_end k s at

pub run_only : (k : ℕ → Bool) (s : List ℕ) (at r r' : ℕ) → RunIs k s at r → RunIs k s at r' → r ≡ r'
run_only k s at r r' p q = p ∙ sym q

-- r is where the string of s ends whose opening quote stands before a place, if it has an end
abbrev pub StringIs : List ℕ → ℕ → Option ℕ → Type 0
StringIs s at r = r ≡ string_end s at

pub string_only : (s : List ℕ) (at : ℕ) (r r' : Option ℕ) → StringIs s at r → StringIs s at r' → r ≡ r'
string_only s at r r' p q = p ∙ sym q
