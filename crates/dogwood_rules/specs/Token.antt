-- White space, the seven token rules, the tokens of a text, their places, and the words of the token table. A text is a list of code points.
use Rattle.std.specs.Prelude.{Bool, true, false, not, ◌&&◌, ◌||◌, List, [], ◌∷◌, ◌++◌, ℕ, suc, ◌+◌, ◌<◌, eqb, take, if◌then◌else◌}
use Rattle.std.proofs.Math.Option.{Option, none, some}
use Rattle.dogwood_rules.specs.Basic.{within, one_of, run_length, cut}
use Rattle.dogwood_rules.specs.Utf8.{byte_length}

-- 01: "Kinds: 0 Whitespace, 1 Comment, 2 String, 3 Identifier, 4 Number, 5 Symbol, 6 Other."
pub data Kind : Type 0 where
  Whitespace Comment String Identifier Number Symbol Other : Kind

unfoldable pub kind_number : Kind → ℕ
kind_number Whitespace = 0
kind_number Comment = 1
kind_number String = 2
kind_number Identifier = 3
kind_number Number = 4
kind_number Symbol = 5
kind_number Other = 6

pub record Token : Type 0 where
  pub kind : Kind
  pub text : List ℕ

-- Characters ------------------------------------------------------------------------------------

-- 01: "White space is U+0009 to 000D, 0020, 0085, 00A0, 1680, 2000 to 200A, 2028, 2029, 202F, 205F, 3000."
unfoldable pub white : ℕ → Bool
white c = within 0x9 0xd c || eqb c 0x20 || eqb c 0x85 || eqb c 0xa0 || eqb c 0x1680 || within 0x2000 0x200a c || eqb c 0x2028 || eqb c 0x2029 || eqb c 0x202f || eqb c 0x205f || eqb c 0x3000

unfoldable pub digit : ℕ → Bool
digit c = within 48 57 c

-- an ASCII letter or _
unfoldable pub letter : ℕ → Bool
letter c = within 65 90 c || within 97 122 c || eqb c 95

-- an ASCII letter, a digit or _
unfoldable pub wordly : ℕ → Bool
wordly c = letter c || digit c

-- ( ) [ ] { } , ; @ . : ? + - * / % ! < > =
unfoldable pub single : ℕ → Bool
single c = one_of (40 ∷ 41 ∷ 91 ∷ 93 ∷ 123 ∷ 125 ∷ 44 ∷ 59 ∷ 64 ∷ 46 ∷ 58 ∷ 63 ∷ 43 ∷ 45 ∷ 42 ∷ 47 ∷ 37 ∷ 33 ∷ 60 ∷ 62 ∷ 61 ∷ []) c

-- == != <= >=, and :: && ||
unfoldable pub double : ℕ → ℕ → Bool
double a b =
    eqb b 61 && one_of (61 ∷ 33 ∷ 60 ∷ 62 ∷ []) a || eqb a b && one_of (58 ∷ 38 ∷ 124 ∷ []) a

-- LF or CR
unfoldable pub line_end : ℕ → Bool
line_end c = eqb c 10 || eqb c 13

-- 01: "free of white space, `"`, ASCII letters and digits, `_` and the single symbols. `&` and `|` do not end it."
unfoldable pub other : ℕ → Bool
other c = not (white c || eqb c 34 || wordly c || single c)

-- the test on the next character, if there is one
abbrev pub next : (ℕ → Bool) → List ℕ → Bool
next f [] = false
next f (c ∷ cs) = f c

-- The rules ---------------------------------------------------------------------------------------

-- a token of the first character and the n after it
unfoldable pub piece : Kind → ℕ → List ℕ → ℕ → Option (Token × ℕ)
piece k c cs n = some (record { kind = k; text = c ∷ take n cs }, n)

-- 01: "to the next unescaped `"`, a backslash escaping the one character after it; newlines are allowed inside".
-- Behind the opening quote, or behind a backslash there: how many characters up to the closing quote, itself included
unfoldable pub closing : Bool → List ℕ → Option ℕ
closing escaped [] = none
closing true (c ∷ cs) = elim (closing false cs) [ none ↦ none | some n ↦ some (suc n) ]
closing false (c ∷ cs) =
    elim (eqb c 34) [ true ↦ some 1 | false ↦ elim (closing (eqb c 92) cs) [ none ↦ none | some n ↦ some (suc n) ] ]

unfoldable pub string_piece : ℕ → List ℕ → Option ℕ → Option (Token × ℕ)
string_piece c cs none = none
string_piece c cs (some n) = piece String c cs n

-- 01: "At each place the first rule that applies decides": 1 white space, 2 `"`, 3 `//`, 4 ASCII letter or `_`, 5 ASCII digit, 6 the double symbols,
-- else the single ones, 7 Other. The token, with how many characters it has besides the first; none: a string without end
unfoldable pub token : List ℕ → Option (Token × ℕ)
token [] = none
token (c ∷ cs) =
    if white c then piece Whitespace c cs (run_length white cs)
    else if eqb c 34 then string_piece c cs (closing false cs)
    else if eqb c 47 && next (eqb 47) cs then piece Comment c cs (run_length (λ a. not (line_end a)) cs)
    else if letter c then piece Identifier c cs (run_length wordly cs)
    else if digit c then piece Number c cs (run_length digit cs)
    else if next (double c) cs then piece Symbol c cs 1
    else if single c then piece Symbol c cs 0
    else piece Other c cs (run_length other cs)

-- the tokens of a text, and what is left from the first string without end on
unfoldable pub tokenise : List ℕ → List Token × List ℕ
tokenise cs = cut token cs

-- the text that some tokens make up
unfoldable pub spell : List Token → List ℕ
spell [] = []
spell (t ∷ ts) = t.text ++ spell ts

-- Places ------------------------------------------------------------------------------------------

-- a token with its bounds, in bytes
pub record Placed : Type 0 where
  pub token : Token
  pub start : ℕ
  pub stop : ℕ

-- one behind the other, from a place on
unfoldable pub placed : ℕ → List Token → List Placed
placed at [] = []
placed at (t ∷ ts) =
    let stop = at + byte_length t.text in
    record { token = t; start = at; stop = stop } ∷ placed stop ts

unfoldable pub tokens : List Placed → List Token
tokens [] = []
tokens (p ∷ ps) = p.token ∷ tokens ps

-- 01: "Every byte of the text lies in exactly one token, and no token is empty." Tokens one behind the other from a place on, up to the end
pub data Tiled (end : ℕ) : ℕ → List Placed → Type 0 where
  tiled_end : Tiled end end []
  tiled_more : {p : Placed} {ps : List Placed} → p.start < p.stop → Tiled end p.stop ps → Tiled end p.start (p ∷ ps)

-- 01: "The token table gets three words a token: kind, start, end."
abbrev pub row_size : ℕ
row_size = 3

unfoldable pub words_of : List Placed → List ℕ
words_of [] = []
words_of (p ∷ ps) = kind_number p.token.kind ∷ p.start ∷ p.stop ∷ words_of ps
