-- The symbol that two characters begin with.
use Rattle.std.specs.Prelude.{ℕ, Option, Some, None, cond}
use Rattle.dogwood_rules.specs.Token.{single, double}

-- the length of the symbol that a and the byte b begin with
unfoldable pub symbol_len : ℕ → ℕ → Option ℕ
symbol_len a b = cond (double a b) (Some 2) (cond (single a) (Some 1) None)
