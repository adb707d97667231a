-- A part of the token table, three words a token, seen as the tokens that it stands for in a text.
use Rattle.std.specs.Prelude.{◌≡◌, List, [], ◌∷◌, ℕ, ◌+◌, ◌-◌, ◌≤◌, eqb, length, take, drop, get_or, if◌then◌else◌}
use Rattle.dogwood_rules.specs.Utf8.{encode, decode}
use Rattle.dogwood_rules.specs.Token.{Token, Kind, Whitespace, Comment, String, Identifier, Number, Symbol, Other}
use Rattle.dogwood_layout.specs.declared.Entry.{Entry}

-- the entry at word i
abbrev pub entry_at : List ℕ → ℕ → Entry
entry_at ws i = record { kind = get_or ws i 0; start = get_or ws (i + 1) 0; end = get_or ws (i + 2) 0 }

unfoldable pub kind_of : ℕ → Kind
kind_of n =
    if eqb n 0 then Whitespace
    else if eqb n 1 then Comment
    else if eqb n 2 then String
    else if eqb n 3 then Identifier
    else if eqb n 4 then Number
    else if eqb n 5 then Symbol
    else Other

-- the bytes between an entry's bounds
abbrev pub bytes_at : List ℕ → Entry → List ℕ
bytes_at text e = take (e.end - e.start) (drop e.start text)

unfoldable pub token_of : List ℕ → Entry → Token
token_of text e = record { kind = kind_of e.kind; text = (decode (bytes_at text e)).0 }

-- the tokens of a table
unfoldable pub tokens : List ℕ → List ℕ → List Token
tokens text [] = []
tokens text (k ∷ []) = []
tokens text (k ∷ s ∷ []) = []
tokens text (k ∷ s ∷ e ∷ ws) = token_of text (record { kind = k; start = s; end = e }) ∷ tokens text ws

-- the entries of a table
unfoldable pub rows : List ℕ → List Entry
rows [] = []
rows (k ∷ []) = []
rows (k ∷ s ∷ []) = []
rows (k ∷ s ∷ e ∷ ws) = record { kind = k; start = s; end = e } ∷ rows ws

-- an entry lies in the text, and its token spells the bytes there
pub record Held (text : List ℕ) (e : Entry) : Type 0 where
  pub ordered : e.start ≤ e.end
  pub inside : e.end ≤ length text
  pub spells : encode (token_of text e).text ≡ bytes_at text e

-- a table of whole entries, each held by the text
unfoldable pub Holds : List ℕ → List ℕ → Type 0
Holds text [] = Unit {0}
Holds text (k ∷ []) = ⊥
Holds text (k ∷ s ∷ []) = ⊥
Holds text (k ∷ s ∷ e ∷ ws) = Held text (record { kind = k; start = s; end = e }) × Holds text ws

-- a text and a part of its table, small enough that no count goes over
pub record Ready (text ws : List ℕ) : Type 0 where
  pub small : length text ≤ 1048576
  pub short : length ws ≤ 3145728
  pub holds : Holds text ws
