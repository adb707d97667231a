-- Texts as an example writes them, and a statement over a table of rows.
use Rattle.std.specs.Prelude.{List, [], ◌∷◌, ◌++◌, ℕ, zero, suc}
use Prim.Native.Char.{code}
use Prim.Native.String.{String}
use Prim.Native.String as S
use Rattle.dogwood_rules.specs.Utf8.{encode}

abbrev pub codes : String → List ℕ
codes S.[] = []
codes (S.◌∷◌ c s) = code c ∷ codes s

unfoldable pub bytes : String → List ℕ
bytes s = encode (codes s)

unfoldable pub many : ℕ → String → List ℕ
many zero s = []
many (suc n) s = bytes s ++ many n s

unfoldable pub mark : List ℕ
mark = 0xef ∷ 0xbb ∷ 0xbf ∷ []

-- an outline of one definition of n bytes
unfoldable pub definition : ℕ → List ℕ
definition n = 0 ∷ 0 ∷ n ∷ 1 ∷ 0 ∷ n ∷ []

-- each row holds
unfoldable pub All : {A : Type 0} → (A → Type 0) → List A → Type 0
All P [] = Unit {0}
All P (x ∷ xs) = P x × All P xs
