-- A scan that looks for quotes and comments alone.
use Rattle.std.specs.Prelude.{ℕ, ◌+◌, List, cond, ◌&&◌, length, get_or, eqb, None, Option, Some}
use Rattle.utf8.specs.Utf8.{decode_at}
use Rattle.utf8.specs.Walk.{Next, stop, go, from}
use Rattle.dogwood_scans.specs.Run.{run_end, string_end}
use Rattle.utf8.specs.declared.Char.{Char}
use Rattle.dogwood_letters.specs.Promises.{in_line}

-- past a string, or stop at the quote of one without end
abbrev pub quote : ℕ → Option ℕ → Next (Unit {0}) (Option ℕ)
quote i (Some e) = go tt e
quote i None = stop (Some i)

abbrev pub scanned : List ℕ → ℕ → Option Char → Next (Unit {0}) (Option ℕ)
scanned s i (Some c) =
    cond (eqb c.code 0x22) (quote i (string_end s (i + 1)))
    (cond (eqb c.code 0x2F && eqb (get_or s (i + 1) 0) 0x2F) (go tt (run_end in_line s i))
    (go tt (i + c.len)))
scanned s i None = stop None

unfoldable pub scan_step : List ℕ → ℕ → Next (Unit {0}) (Option ℕ)
scan_step s i = scanned s i (decode_at s i)

-- the opening quote of the first string without end from i on
unfoldable pub scan_from : List ℕ → ℕ → Option ℕ
unfolding scan_step
scan_from s i = from (scan_step s) (λ u r. r) None (length s) i
