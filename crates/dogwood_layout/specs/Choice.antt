-- The items that a separator set cuts a run into, and the set that decides.
use Rattle.std.specs.Prelude.{Bool, List, ℕ, ◌*◌, ltb, length, if◌then◌else◌}
use Rattle.dogwood_rules.specs.Token.{Token}
use Rattle.dogwood_rules.specs.Tree.{Run, nothing, single, group, Items, end, item, front, tidy, several}
use Rattle.dogwood_layout.specs.Ends.{front_len}
use Rattle.dogwood_layout.specs.Scan.{cut_after_token, cut_before}

-- a token before the items of what follows, with the cuts before and behind it
abbrev pub cut_off : Bool → Bool → Token → Items → Items
cut_off before after t is =
    let first = if after then item (single t nothing) is else front (single t) is in
    if before then item nothing first else first

unfoldable pub cuts_of : ℕ → Run → Items
cuts_of set nothing = item nothing end
cuts_of set (single t r) = cut_off (cut_before set 0 t) (cut_after_token set 0 t) t (cuts_of set r)
cuts_of set (group o inside is c r) = front (group o inside is c) (cuts_of set r)

-- the first set that gives more than one item, or 2
unfoldable pub chosen : Run → ℕ
chosen r = if several (tidy (cuts_of 0 r)) then 0 else if several (tidy (cuts_of 1 r)) then 1 else 2

-- a table has more than white space
abbrev pub is_filled : List ℕ → Bool
is_filled ws = ltb (3 * front_len ws) (length ws)

-- 1 for a table that has more than white space
unfoldable pub filled_of : List ℕ → ℕ
filled_of ws = if ltb (3 * front_len ws) (length ws) then 1 else 0
