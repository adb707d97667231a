-- 01, "Examples to hold on both sides": T1 to T6 and L1 to L5 as one statement over a table, with the insides, the whole file, and of "Wrong turns we
-- have seen" those that compute.
use Rattle.std.specs.Prelude.{◌≡◌, refl, List, [], ◌∷◌, ◌++◌, ℕ, length}
use Rattle.dogwood_rules.specs.Utf8.{encode, decode}
use Rattle.dogwood_rules.specs.Token.{Token, tokenise, kind_number}
use Rattle.dogwood_rules.specs.Tree.{Items, end, item, items_of, run_of, flat, tokens_of}
use Rattle.dogwood_rules.specs.Layout.{house, join_lines}
use Rattle.dogwood_rules.specs.Answer.{Answer, answer}
use Rattle.dogwood_rules.specs.Compute.{everything}
use Rattle.dogwood_rules.specs.Written.{bytes, many, mark, definition, All}

-- kinds and bytes of some tokens
cut_to : List Token → List (ℕ × List ℕ)
cut_to [] = []
cut_to (t ∷ ts) = (kind_number t.kind, encode t.text) ∷ cut_to ts

-- the flat texts of items
item_texts : Items → List (List ℕ)
item_texts end = []
item_texts (item r is) = flat (tokens_of r) ∷ item_texts is

-- a row: some bytes and their tokens; a call, with its number, place, output and the output's length; an inside and its items, joined by LF
pub data Row : Type 0 where
  cuts : (source : List ℕ) → List (ℕ × List ℕ) → Row
  gives : (source outline : List ℕ) (number place : ℕ) (output : List ℕ) (size : ℕ) → Row
  splits : (inside items : List ℕ) → Row

pub Holds : Row → Type 0
Holds (cuts s ts) = cut_to (tokenise (decode s).0).0 ≡ ts
Holds (gives s o n p out size) =
    let a = answer house s o 4096 65536 in
    (a.number ≡ n) × (a.place ≡ p) × (a.output ≡ out) × (length out ≡ size)
Holds (splits inside items) = encode (join_lines (item_texts (items_of (run_of (tokenise (decode inside).0).0)))) ≡ items

l1 : List ℕ
l1 = bytes "f(" ++ many 77 "a" ++ bytes ")"

l3 : List ℕ
l3 = bytes "f(\"" ++ many 75 "é" ++ bytes "\")"

l4 : List ℕ
l4 = bytes "f(" ++ many 76 "a" ++ bytes ") x"

-- `f(a) g(B) h(C)`, B and C of 36 letters, laid out once and twice
once : List ℕ
once = bytes "f(\n  a\n) g(" ++ many 36 "B" ++ bytes ") h(\n  " ++ many 36 "C" ++ bytes "\n)"

twice : List ℕ
twice = bytes "f(\n  a\n) g(\n  " ++ many 36 "B" ++ bytes "\n) h( " ++ many 36 "C" ++ bytes " )"

pub table : List Row
table =
    -- T1 to T6
    cuts (bytes "a:::b") ((3, bytes "a") ∷ (5, bytes "::") ∷ (5, bytes ":") ∷ (3, bytes "b") ∷ [])
    ∷ cuts (bytes "&&&") ((5, bytes "&&") ∷ (6, bytes "&") ∷ [])
    ∷ cuts (bytes "é&&") ((6, bytes "é&&") ∷ [])
    ∷ cuts (bytes "12ab_") ((4, bytes "12") ∷ (3, bytes "ab_") ∷ [])
    ∷ cuts (bytes "é//x") ((6, bytes "é") ∷ (1, bytes "//x") ∷ [])
    ∷ gives (bytes "\"") [] 1 0 (bytes "\"") 1
    ∷ gives [] [] 3 0 [] 0
    -- L1 to L5
    ∷ gives l1 (definition 80) 0 0 l1 80
    ∷ gives (bytes "f(" ++ many 78 "a" ++ bytes ")") (definition 81) 0 0 (bytes "f(\n  " ++ many 78 "a" ++ bytes "\n)") 85
    ∷ gives l3 (definition 155) 0 0 l3 155
    ∷ gives l4 (definition 81) 0 0 l4 81
    ∷ gives (bytes "@id(\"x\") permit(p) when {q};") (1 ∷ 0 ∷ 28 ∷ 3 ∷ 0 ∷ 8 ∷ 8 ∷ 19 ∷ 19 ∷ 28 ∷ []) 0 0 (bytes "@id(\"x\")\npermit(p)\nwhen {q};") 28
    -- the insides and the whole file
    ∷ splits (bytes "a && b,") (bytes "a\n&& b,")
    ∷ splits (bytes "a, b && c") (bytes "a,\nb && c")
    ∷ gives (bytes " // a  \n//b\npermit(x);\nforbid(y);// c") (1 ∷ 12 ∷ 22 ∷ 1 ∷ 12 ∷ 22 ∷ 1 ∷ 23 ∷ 33 ∷ 1 ∷ 23 ∷ 33 ∷ []) 0 0 (bytes "// a\n//b\npermit(x);\n\nforbid(y);\n\n// c") 37
    -- "Formatting twice changes nothing" is false: g breaks only on the second pass. ("No line passes 80" is false by L4.)
    ∷ gives (bytes "f(a) g(" ++ many 36 "B" ++ bytes ") h(" ++ many 36 "C" ++ bytes ")") (definition 84) 0 0 once 92
    ∷ gives once (definition 92) 0 0 twice 94
    -- U+2028 ends no comment
    ∷ cuts (bytes "//a\u{2028}b") ((1, bytes "//a\u{2028}b") ∷ [])
    -- the output's start is no mark where the source had none
    ∷ gives (bytes " " ++ mark) (0 ∷ 1 ∷ 4 ∷ 1 ∷ 1 ∷ 4 ∷ []) 0 0 mark 3
    ∷ []

pub examples : All Holds table
unfolding All Holds table cut_to bytes many mark definition l1 l3 l4 once twice item_texts everything
examples =
    (refl, (refl, (refl, (refl, (refl, ((refl, refl, refl, refl), ((refl, refl, refl, refl), ((refl, refl, refl, refl), ((refl, refl, refl, refl), ((refl, refl, refl, refl), ((refl, refl, refl, refl), ((refl, refl, refl, refl), (refl, (refl, ((refl, refl, refl, refl), ((refl, refl, refl, refl), ((refl, refl, refl, refl), (refl, ((refl, refl, refl, refl), tt)))))))))))))))))))
