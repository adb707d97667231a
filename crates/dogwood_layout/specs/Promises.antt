-- What the one function of this crate promises, and that no second answer keeps it.
use Rattle.std.specs.Prelude.{◌≡◌, List, ℕ}
use Rattle.std.proofs.Common.{sym, ◌∙◌}
use Rattle.dogwood_layout.specs.declared.Entry.{Entry}
use Rattle.dogwood_layout.specs.View.{bytes_at}

-- r are the bytes between an entry's bounds
abbrev pub BytesAre : List ℕ → Entry → List ℕ → Type 0
BytesAre text e r = r ≡ bytes_at text e

pub bytes_only : (text : List ℕ) (e : Entry) (r r' : List ℕ) → BytesAre text e r → BytesAre text e r' → r ≡ r'
bytes_only text e r r' p q = p ∙ sym q
