-- The settings of a page, what keeps its counts small, and the pieces that a run is walked by.
use Rattle.std.specs.Prelude.{◌≡◌, List, [], ◌∷◌, ◌++◌, ℕ, suc, ◌+◌, ◌≤◌, length, if◌then◌else◌}
use Rattle.pen.specs.Over.{over, Wrote}
use Rattle.dogwood_rules.specs.Basic.{drop_back, trim}
use Rattle.dogwood_rules.specs.Utf8.{encode}
use Rattle.dogwood_rules.specs.Token.{Token}
use Rattle.dogwood_rules.specs.Tree.{blank, opener, shown, joined, Run, nothing, single, group, Items, end, add_item, trim_run, tidy}
use Rattle.dogwood_rules.specs.Layout.{Settings, column, spaces, fit_group, join_lines, lines}
use Rattle.dogwood_layout.specs.Scan.{group_len}
use Rattle.dogwood_layout.specs.Choice.{cuts_of, chosen}
use Rattle.dogwood_layout.specs.declared.Page.{Page}

abbrev pub settings : Page → Settings
settings p = record { width = p.width; indent = p.indent }

pub record Bounded (p : Page) (depth words : ℕ) : Type 0 where
  pub indent : p.indent ≤ 1024
  pub width : p.width ≤ 4294967296
  pub deep : depth + words ≤ 4194304

-- the text cs was written over old, as far as it fits, which is now new, and r is its length in bytes
pub record WroteText (cs old : List ℕ) (r : ℕ) (new : List ℕ) : Type 0 where
  pub count : r ≡ length (encode cs)
  pub bytes : new ≡ over old (encode cs)

-- no second answer and no second output
pub wrote_text_only : (cs old : List ℕ) (r s : ℕ) (new other : List ℕ) → WroteText cs old r new → WroteText cs old s other → (r ≡ s) × (new ≡ other)
wrote_text_only cs old r s new other a b = (cc, cc)

-- each line with an LF before it
unfoldable pub each_line : List (List ℕ) → List ℕ
each_line [] = []
each_line (l ∷ ls) = (10 ∷ l) ++ each_line ls

-- how many tokens the first piece has
unfoldable pub piece_len : List Token → ℕ
piece_len [] = 0
piece_len (t ∷ ts) = if opener t then group_len 0 (t ∷ ts) else 1

-- a run without white space at its end, and its width
pub record Measured (ts : List Token) (width : ℕ) : Type 0 where
  pub kept : drop_back blank ts ≡ ts
  pub wide : width ≡ length (joined ts)

-- a run of one token or one group
pub data OnePiece : Run → Type 0 where
  one_token : {t : Token} → OnePiece (single t nothing)
  one_group : {o c : Token} {inside : List Token} {is : Items} → OnePiece (group o inside is c nothing)

-- a run of one group that has something inside
pub data Broken : Run → Type 0 where
  broken_group : {o c : Token} {inside : List Token} {is : Items} → (trim blank inside ≡ [] → ⊥) → Broken (group o inside is c nothing)

-- what the first piece of a run gives at depth d, from column n on, with m columns to follow
unfoldable pub piece_text : Settings → ℕ → ℕ → ℕ → Run → List ℕ
piece_text S d n m nothing = []
piece_text S d n m (single t r) = shown t
piece_text S d n m (group o inside is c r) = fit_group S d n m o inside c (join_lines (lines S (suc d) is))

pub record PieceLaid (S : Settings) (d n m : ℕ) (r : Run) (old : List ℕ) (count col : ℕ) (new : List ℕ) : Type 0 where
  pub wrote : Wrote old (encode (piece_text S d n m r)) count new
  pub column : col ≡ column n (piece_text S d n m r)

-- a broken group
unfoldable pub broken_text : Settings → ℕ → Run → List ℕ
broken_text S d nothing = []
broken_text S d (single t r) = []
broken_text S d (group o inside is c r) = o.text ++ 10 ∷ join_lines (lines S (suc d) is) ++ 10 ∷ spaces S d ++ c.text

-- an item on a line of its own, but for an empty one
unfoldable pub item_text : Settings → ℕ → Run → List ℕ
item_text S d r = each_line (lines S d (add_item (trim_run r) end))

unfoldable pub items_text : Settings → ℕ → Run → List ℕ
items_text S d r = each_line (lines S d (tidy (cuts_of (chosen r) r)))
