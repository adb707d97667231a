-- Where a run of characters ends, and where a string does.
use Rattle.std.specs.Prelude.{ℕ, ◌+◌, List, Bool, cond, length, eqb, None, Option, Some}
use Rattle.utf8.specs.Utf8.{decode_at}
use Rattle.utf8.specs.Walk.{Next, stop, go, from}
use Rattle.utf8.specs.declared.Char.{Char}

-- past a character of the class; any other, and the end, is where the run ends
abbrev pub past_one : (ℕ → Bool) → ℕ → Option Char → Next (Unit {0}) ℕ
past_one k i (Some c) = cond (k c.code) (go tt (i + c.len)) (stop i)
past_one k i None = stop i

unfoldable pub run_step : (ℕ → Bool) → List ℕ → ℕ → Next (Unit {0}) ℕ
run_step k s i = past_one k i (decode_at s i)

-- the end of the longest run of characters of the class from i on
unfoldable pub run_end : (ℕ → Bool) → List ℕ → ℕ → ℕ
unfolding run_step
run_end k s i = from (run_step k s) (λ u r. r) (length s) (length s) i

-- past the character that a backslash escapes
abbrev pub escaped : ℕ → Option Char → Next (Unit {0}) (Option ℕ)
escaped i (Some c) = go tt (i + c.len)
escaped i None = stop None

-- the closing quote ends the string; a backslash goes with the character after it
abbrev pub quoted : List ℕ → ℕ → Option Char → Next (Unit {0}) (Option ℕ)
quoted s i (Some c) =
    cond (eqb c.code 0x22) (stop (Some (i + c.len)))
    (cond (eqb c.code 0x5C) (escaped (i + c.len) (decode_at s (i + c.len)))
    (go tt (i + c.len)))
quoted s i None = stop None

unfoldable pub string_step : List ℕ → ℕ → Next (Unit {0}) (Option ℕ)
string_step s i = quoted s i (decode_at s i)

-- the end of the string whose opening quote stands before i, if it has one
unfoldable pub string_end : List ℕ → ℕ → Option ℕ
unfolding string_step
string_end s i = from (string_step s) (λ u r. r) None (length s) i
