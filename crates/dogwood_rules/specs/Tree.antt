-- The flat text of a token run, a run as a tree of its groups, and the items of a group's inside.
use Rattle.std.specs.Prelude.{Bool, true, false, ◌||◌, List, [], ◌∷◌, ◌++◌, ℕ, ◌+◌, if◌then◌else◌}
use Rattle.dogwood_rules.specs.Basic.{same, trim}
use Rattle.dogwood_rules.specs.Token.{Token, Kind, Whitespace, Comment, String, Identifier, Number, Symbol, Other}

-- Tests on a token ---------------------------------------------------------------------------------

unfoldable pub is_whitespace : Kind → Bool
is_whitespace Whitespace = true
is_whitespace Comment = false
is_whitespace String = false
is_whitespace Identifier = false
is_whitespace Number = false
is_whitespace Symbol = false
is_whitespace Other = false

unfoldable pub is_comment : Kind → Bool
is_comment Whitespace = false
is_comment Comment = true
is_comment String = false
is_comment Identifier = false
is_comment Number = false
is_comment Symbol = false
is_comment Other = false

unfoldable pub blank : Token → Bool
blank t = is_whitespace t.kind

unfoldable pub comment : Token → Bool
comment t = is_comment t.kind

-- ,
unfoldable pub comma : Token → Bool
comma t = same t.text (44 ∷ [])

-- && ||
unfoldable pub and_or : Token → Bool
and_or t = same t.text (38 ∷ 38 ∷ []) || same t.text (124 ∷ 124 ∷ [])

-- ( [ {
unfoldable pub opener : Token → Bool
opener t = same t.text (40 ∷ []) || same t.text (91 ∷ []) || same t.text (123 ∷ [])

-- ) ] }
unfoldable pub closer : Token → Bool
closer t = same t.text (41 ∷ []) || same t.text (93 ∷ []) || same t.text (125 ∷ [])

-- Flat text ----------------------------------------------------------------------------------------

-- 01: "a white-space token gives a space, others themselves"
unfoldable pub shown : Token → List ℕ
shown t = if blank t then 32 ∷ [] else t.text

unfoldable pub joined : List Token → List ℕ
joined [] = []
joined (t ∷ ts) = shown t ++ joined ts

-- 01: "Flat text of a token run: white space at both ends dropped, each inner white-space token one space, the rest as it is." Its width is its
-- length: "Widths count code points."
unfoldable pub flat : List Token → List ℕ
flat ts = joined (trim blank ts)

-- Runs as trees --------------------------------------------------------------------------------------

-- 01: "an opener is taken with its closing token as a group". A run: tokens, and groups of an opener, an inside and its closer. A group has its
-- inside twice: as tokens, and cut into its items.
mutual
  pub data Run : Type 0 where
    nothing : Run
    single : Token → Run → Run
    group : (o : Token) (inside : List Token) (is : Items) (c : Token) → Run → Run

  pub data Items : Type 0 where
    end : Items
    item : Run → Items → Items

unfoldable pub tokens_of : Run → List Token
tokens_of nothing = []
tokens_of (single t r) = t ∷ tokens_of r
tokens_of (group o inside is c r) = o ∷ inside ++ c ∷ tokens_of r

-- Items ------------------------------------------------------------------------------------------------

-- 01: "Items are trimmed": white space at both ends of a run dropped
unfoldable pub trim_left : Run → Run
trim_left nothing = nothing
trim_left (single t r) = elim (blank t) [ true ↦ trim_left r | false ↦ single t r ]
trim_left (group o inside is c r) = group o inside is c r

-- t before a run, but for white space before nothing
unfoldable pub or_nothing : Token → Run → Run
or_nothing t nothing = if blank t then nothing else single t nothing
or_nothing t (single u r) = single t (single u r)
or_nothing t (group o inside is c r) = single t (group o inside is c r)

unfoldable pub trim_right : Run → Run
trim_right nothing = nothing
trim_right (single t r) = or_nothing t (trim_right r)
trim_right (group o inside is c r) = group o inside is c (trim_right r)

unfoldable pub trim_run : Run → Run
trim_run r = trim_right (trim_left r)

-- more at the front of the first item
unfoldable pub front : (Run → Run) → Items → Items
front f end = item (f nothing) end
front f (item r is) = item (f r) is

-- 01: "first a cut after each comma at depth 0"
unfoldable pub after_commas : Run → Items
after_commas nothing = item nothing end
after_commas (single t r) = if comma t then item (single t nothing) (after_commas r) else front (single t) (after_commas r)
after_commas (group o inside is c r) = front (group o inside is c) (after_commas r)

-- 01: "then a cut before each `&&` or `||` at depth 0"
unfoldable pub before_and_ors : Run → Items
before_and_ors nothing = item nothing end
before_and_ors (single t r) =
    let rest = front (single t) (before_and_ors r) in if and_or t then item nothing rest else rest
before_and_ors (group o inside is c r) = front (group o inside is c) (before_and_ors r)

-- 01: "Items are trimmed, flat-empty ones dropped"
unfoldable pub add_item : Run → Items → Items
add_item nothing is = is
add_item (single t r) is = item (single t r) is
add_item (group o inside js c r) is = item (group o inside js c r) is

unfoldable pub tidy : Items → Items
tidy end = end
tidy (item r is) = add_item (trim_run r) (tidy is)

unfoldable pub several : Items → Bool
several end = false
several (item r end) = false
several (item r (item s is)) = true

-- 01: "the first set that gives more than one item decides. If neither does, the one item is the whole inside, trimmed."
unfoldable pub items_of : Run → Items
items_of r =
    if several (tidy (after_commas r)) then tidy (after_commas r)
    else if several (tidy (before_and_ors r)) then tidy (before_and_ors r)
    else item (trim_run r) end

-- The tree of a token run ------------------------------------------------------------------------------

-- a run read up to the first closer that closes nothing in it, then that closer, and what follows in the same way
pub data Open : Type 0 where
  whole : Run → Open
  up_to : Run → Token → Open → Open

unfoldable pub ahead : (Run → Run) → Open → Open
ahead f (whole r) = whole (f r)
ahead f (up_to r c o) = up_to (f r) c o

unfoldable pub opened : Token → Open → Open
opened t (whole r) = whole (single t r)
opened t (up_to inside c rest) = ahead (group t (tokens_of inside) (items_of inside) c) rest

unfoldable pub open? : List Token → Open
open? [] = whole nothing
open? (t ∷ ts) =
    if opener t then opened t (open? ts) else if closer t then up_to nothing t (open? ts) else ahead (single t) (open? ts)

unfoldable pub closed : Open → Run
closed (whole r) = r
closed (up_to r c o) = r

-- of a balanced run, its tree
unfoldable pub run_of : List Token → Run
run_of ts = closed (open? ts)
