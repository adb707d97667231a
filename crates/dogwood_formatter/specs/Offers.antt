-- Bytes that are written whole where there is room for them, and else not at all.
use Rattle.std.specs.Prelude.{◌≡◌, List, ℕ, leb, length, if◌then◌else◌}
use Rattle.dogwood_rules.specs.Promises.{over}

-- r is how many bytes were offered to old, which is now new
pub record Offered (bytes old : List ℕ) (r : ℕ) (new : List ℕ) : Type 0 where
  pub count : r ≡ length bytes
  pub written : new ≡ (if leb (length bytes) (length old) then over bytes old else old)
