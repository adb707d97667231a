-- What `first_open` promises, and that no second answer keeps it. What the cursor promises stands in Cursor.
use Rattle.std.specs.Prelude.{◌≡◌, List, ℕ, Option}
use Rattle.std.proofs.Common.{sym, ◌∙◌}
use Rattle.dogwood_tokens.specs.Tokens.{open_from}

-- r is where the first string of s without end begins
abbrev pub OpenIs : List ℕ → Option ℕ → Type 0
OpenIs s r = r ≡ open_from s 0

pub open_only : (s : List ℕ) (r r' : Option ℕ) → OpenIs s r → OpenIs s r' → r ≡ r'
open_only s r r' p q = p ∙ sym q
