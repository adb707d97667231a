-- What one item, one piece and a broken group give, in the form in which they are written.
use Rattle.std.specs.Prelude.{if◌then◌else◌}
use mathlib.Core.Path.{◌≡◌, refl, sym, ◌∙◌, ap}
use mathlib.Core.Bool.{Bool, true, false, ◌||◌}
use mathlib.Core.List.{List, [], ◌∷◌, ◌++◌, append-nil}
use Prim.Native.Nat.{ℕ, zero, suc, ◌+◌, ◌*◌, ◌<◌, ◌≤◌}
use native.Mathlib.Omega.{arith}
use lib.Dec.{eqb, leb}
use lib.ListN.{length, replicate, length-append}
use borrow.Author.Tests.{le-leb, lt-leb}
use Rattle.dogwood_rules.specs.Basic.{same, trim}
use Rattle.dogwood_rules.specs.Token.{Token}
use Rattle.dogwood_rules.specs.Tree.{blank, opener, closer, shown, joined, flat, Run, nothing, single, group, Items, end, item, tokens_of, items_of, run_of, add_item, tidy, several, trim_run, after_commas, before_and_ors}
use Rattle.dogwood_rules.specs.Layout.{Settings, column, walk, lines, fit_or, fit_group, spaces, join_lines, empty, layout}
use Rattle.dogwood_layout.specs.Shape.{Sound, Shaped, shaped_group, Formed}
use Rattle.dogwood_layout.specs.View.{token_of, tokens, Holds}
use Rattle.dogwood_layout.specs.Pieces.{each_line, item_text, items_text, piece_text, broken_text, OnePiece, one_token, one_group}
use Rattle.dogwood_layout.proofs.Tables.{shown_bound}
use Rattle.dogwood_layout.proofs.Bytes.{column_bound}
use Rattle.dogwood_layout.proofs.Shapes.{run_of_lem, opener_word, closer_word}
use Rattle.dogwood_layout.proofs.Items.{items_chosen, same_true}
use Rattle.dogwood_layout.proofs.Trims.{trim_shaped, trim-tokens}
use Rattle.dogwood_layout.proofs.Walks.{whole_flat}

-- Items -----------------------------------------------------------------------------------------------------------

pub item_none : (S : Settings) (d : ℕ) (r : Run) → trim_run r ≡ nothing → item_text S d r ≡ []
unfolding item_text add_item lines each_line
item_none S d r e = ap (λ (u : Run). each_line (lines S d (add_item u end))) e

line_of : (S : Settings) (d : ℕ) {u : Run} → Shaped u → (u ≡ nothing → ⊥) → each_line (lines S d (add_item u end)) ≡ (10 ∷ spaces S d) ++ layout S d (tokens_of u)
unfolding add_item lines each_line layout
line_of S d {u} h k =
    ap (λ (is : Items). each_line (lines S d is)) (add u k)
    ∙ append-nil (10 ∷ (spaces S d ++ fit_or S d (tokens_of u) (walk S d (S.indent * d) u)))
    ∙ ap (λ (v : Run). 10 ∷ (spaces S d ++ fit_or S d (tokens_of u) (walk S d (S.indent * d) v))) (sym (run_of_lem h))
  where
    add : (v : Run) → (v ≡ nothing → ⊥) → add_item v end ≡ item v end
    add nothing n = absurd (n refl)
    add (single t r) n = refl
    add (group o inside js c r) n = refl

-- an item that is not white space is a line of its trimmed tokens' layout
pub item_line : (S : Settings) (d : ℕ) (ts : List Token) → Formed ts → (trim_run (run_of ts) ≡ nothing → ⊥) → item_text S d (run_of ts) ≡ (10 ∷ spaces S d) ++ layout S d (trim blank ts)
unfolding item_text
item_line S d ts f h =
    line_of S d (trim_shaped f.shaped) h
    ∙ ap (λ (us : List Token). (10 ∷ spaces S d) ++ layout S d us) (trim-tokens f.shaped ∙ ap (trim blank) f.tokens)

-- Broken groups ------------------------------------------------------------------------------------------------------

join_each : (l : List ℕ) (ls : List (List ℕ)) → 10 ∷ join_lines (l ∷ ls) ≡ each_line (l ∷ ls)
unfolding join_lines each_line
join_each l [] = ap (λ (x : List ℕ). 10 ∷ x) (sym (append-nil l))
join_each l (m ∷ ls) = ap (λ (x : List ℕ). 10 ∷ (l ++ x)) (join_each m ls)

several_some : (S : Settings) (d : ℕ) (is : Items) → several is ≡ true → 10 ∷ join_lines (lines S d is) ≡ each_line (lines S d is)
unfolding several lines
several_some S d end e = absurd (let z : ◌≡◌ {A = ℕ} 0 1 = cc in omega arith)
several_some S d (item r is) e = join_each _ (lines S d is)

one_line : (S : Settings) (d : ℕ) (r : Run) → 10 ∷ join_lines (lines S d (item r end)) ≡ each_line (lines S d (item r end))
unfolding lines
one_line S d r = join_each _ []

-- a group's items, each with an LF before it
pub items_each : (S : Settings) (d : ℕ) (r : Run) → 10 ∷ join_lines (lines S d (items_of r)) ≡ each_line (lines S d (items_of r))
unfolding items_of
items_each S d r = go (several (tidy (after_commas r))) refl (several (tidy (before_and_ors r))) refl
  where
    go : (a : Bool) → several (tidy (after_commas r)) ≡ a → (b : Bool) → several (tidy (before_and_ors r)) ≡ b → 10 ∷ join_lines (lines S d (items_of r)) ≡ each_line (lines S d (items_of r))
    go true e b f = rw e (several_some S d (tidy (after_commas r)) e)
    go false e true f = rw (e, f) (several_some S d (tidy (before_and_ors r)) f)
    go false e false f = rw (e, f) (one_line S d (trim_run r))

-- a broken group is its opener, its items, an LF with the indent, and its closer
pub broken_made : (S : Settings) (d : ℕ) (o c : Token) (i r : Run) → (trim_run i ≡ nothing → ⊥)
    → broken_text S d (group o (tokens_of i) (items_of i) c r) ≡ ((o.text ++ items_text S (suc d) i) ++ (10 ∷ spaces S d)) ++ c.text
unfolding broken_text items_text
broken_made S d o c i r h =
    ap (λ (l : List ℕ). ((o.text ++ l) ++ (10 ∷ spaces S d)) ++ c.text)
    (items_each S (suc d) i ∙ ap (λ (is : Items). each_line (lines S (suc d) is)) (items_chosen i h))

-- Pieces ---------------------------------------------------------------------------------------------------------------

pub piece-token : (S : Settings) (d n m : ℕ) (t : Token) → piece_text S d n m (single t nothing) ≡ joined (tokens_of (single t nothing))
unfolding piece_text joined tokens_of
piece-token S d n m t = sym (append-nil (shown t))

module _ (S : Settings) (d n m : ℕ) (o c : Token) (inside : List Token) (is : Items) (bo : blank o ≡ false) (bc : blank c ≡ false) where
  by_test : (b : Bool) → (empty (flat inside) || leb (n + length (flat (o ∷ (inside ++ (c ∷ [])))) + m) S.width) ≡ b
      → piece_text S d n m (group o inside is c nothing) ≡ (if b then flat (o ∷ (inside ++ (c ∷ []))) else broken_text S d (group o inside is c nothing))
  unfolding piece_text fit_group broken_text
  by_test b e = ap (λ (z : Bool). if z then flat (o ∷ (inside ++ (c ∷ []))) else o.text ++ 10 ∷ join_lines (lines S (suc d) is) ++ 10 ∷ spaces S d ++ c.text) e

  or_true : (a : Bool) → (a || true) ≡ true
  or_true true = refl
  or_true false = refl

  -- a group with nothing inside stays flat
  pub piece-empty : trim blank inside ≡ [] → piece_text S d n m (group o inside is c nothing) ≡ joined (o ∷ (inside ++ (c ∷ [])))
  unfolding flat joined empty
  piece-empty e =
      by_test true (ap (λ (ts : List Token). empty (joined ts) || leb (n + length (flat (o ∷ (inside ++ (c ∷ [])))) + m) S.width) e) ∙ whole_flat o c inside bo bc

  -- a group that fits stays flat
  pub piece-fits : n + length (joined (o ∷ (inside ++ (c ∷ [])))) + m ≤ S.width → piece_text S d n m (group o inside is c nothing) ≡ joined (o ∷ (inside ++ (c ∷ [])))
  piece-fits h =
      let w = whole_flat o c inside bo bc in
      let l : leb (n + length (flat (o ∷ (inside ++ (c ∷ [])))) + m) S.width ≡ true = ap (λ (x : List ℕ). leb (n + length x + m) S.width) w ∙ le-leb _ _ h in
      by_test true (ap (λ (b : Bool). empty (flat inside) || b) l ∙ or_true (empty (flat inside))) ∙ w

  -- any other is broken
  pub piece_broken : empty (flat inside) ≡ false → S.width < n + length (joined (o ∷ (inside ++ (c ∷ [])))) + m → piece_text S d n m (group o inside is c nothing) ≡ broken_text S d (group o inside is c nothing)
  piece_broken e h =
      let w = whole_flat o c inside bo bc in
      let l : leb (n + length (flat (o ∷ (inside ++ (c ∷ [])))) + m) S.width ≡ false = ap (λ (x : List ℕ). leb (n + length x + m) S.width) w ∙ lt-leb _ _ h in
      by_test false (λ j. e j || l j)

-- The column behind a broken group ---------------------------------------------------------------------------------------

column-append : (n : ℕ) (xs ys : List ℕ) → column n (xs ++ ys) ≡ column (column n xs) ys
unfolding column
column-append n [] ys = refl
column-append n (x ∷ xs) ys = column-append (if eqb x 10 then 0 else suc n) xs ys

column-spaces : (n k : ℕ) → column n (replicate k 32) ≡ n + k
unfolding column
column-spaces n zero = omega arith
column-spaces n (suc k) = let h = column-spaces (suc n) k in omega arith

closer-column : (n : ℕ) (c : Token) → closer c ≡ true → column n c.text ≡ suc n
unfolding closer column
closer-column n c e = go (same c.text (41 ∷ [])) refl (same c.text (93 ∷ [])) refl (same c.text (125 ∷ [])) refl e
  where
    go : (x : Bool) → same c.text (41 ∷ []) ≡ x → (y : Bool) → same c.text (93 ∷ []) ≡ y → (z : Bool) → same c.text (125 ∷ []) ≡ z → (x || y || z) ≡ true → column n c.text ≡ suc n
    go true p y q z r h = ap (column n) {x = c.text} {y = 41 ∷ []} (same_true c.text (41 ∷ []) p)
    go false p true q z r h = ap (column n) {x = c.text} {y = 93 ∷ []} (same_true c.text (93 ∷ []) q)
    go false p false q true r h = ap (column n) {x = c.text} {y = 125 ∷ []} (same_true c.text (125 ∷ []) r)
    go false p false q false r h = absurd (let z : ◌≡◌ {A = ℕ} 0 1 = cc in omega arith)

-- the indent and the closer
pub broken_column : (S : Settings) (d n : ℕ) (o c : Token) (inside : List Token) (is : Items) (r : Run) → closer c ≡ true
    → column n (broken_text S d (group o inside is c r)) ≡ S.indent * d + 1
unfolding broken_text column spaces
broken_column S d n o c inside is r e =
    let head = o.text ++ (10 ∷ join_lines (lines S (suc d) is)) in
    let k = column-spaces 0 (S.indent * d) in
    column-append n (head ++ (10 ∷ replicate (S.indent * d) 32)) c.text
    ∙ ap (λ (m : ℕ). column m c.text) (column-append n head (10 ∷ replicate (S.indent * d) 32))
    ∙ closer-column (column 0 (replicate (S.indent * d) 32)) c e
    ∙ (let q : suc (column 0 (replicate (S.indent * d) 32)) ≡ S.indent * d + 1 = omega arith in q)

-- The column stays small ---------------------------------------------------------------------------------------------------

-- a table's tokens are at most a text wide each
pub joined_bound : (text ws : List ℕ) → Holds text ws → length text ≤ 1048576 → 3 * length (joined (tokens text ws)) ≤ 1048576 * length ws
unfolding Holds tokens joined
joined_bound text [] h k = omega arith
joined_bound text (a ∷ []) h k = absurd h
joined_bound text (a ∷ s ∷ []) h k = absurd h
joined_bound text (a ∷ s ∷ e ∷ ws) h k =
    let one = shown_bound h.0 1048576 k (omega arith) in
    let rest = joined_bound text ws h.1 k in
    let l = length-append (shown (token_of text (record { kind = a; start = s; end = e }))) (joined (tokens text ws)) in
    omega arith

-- a piece stays flat, or it is a group that has something inside and is broken
pub data Outcome (S : Settings) (d n m : ℕ) : Run → Type 0 where
  stays : {u : Run} → piece_text S d n m u ≡ joined (tokens_of u) → Outcome S d n m u
  breaks : {o c : Token} {i : Run} → Shaped i → Sound o → opener o ≡ true → Sound c → closer c ≡ true → (trim_run i ≡ nothing → ⊥)
      → piece_text S d n m (group o (tokens_of i) (items_of i) c nothing) ≡ broken_text S d (group o (tokens_of i) (items_of i) c nothing)
      → Outcome S d n m (group o (tokens_of i) (items_of i) c nothing)

pub outcome : (S : Settings) (d n m : ℕ) {u : Run} → Shaped u → OnePiece u → Outcome S d n m u
unfolding tokens_of flat joined empty
outcome S d n m s (one_token {t}) = stays (piece-token S d n m t)
outcome S d n m (shaped_group {o} {c} {i} oo so oc cl sc hi h) one_group = go (empty (flat (tokens_of i))) refl (leb (n + length (flat (o ∷ (tokens_of i ++ (c ∷ [])))) + m) S.width) refl
  where
    bo : blank o ≡ false
    bo = (opener_word so oo).0

    bc : blank c ≡ false
    bc = (closer_word sc cl).0

    some : empty (flat (tokens_of i)) ≡ false → trim_run i ≡ nothing → ⊥
    some e z =
        let q : empty (flat (tokens_of i)) ≡ true = ap (λ (ts : List Token). empty (joined ts)) (sym (trim-tokens hi) ∙ ap tokens_of z) in
        let y : ◌≡◌ {A = ℕ} 0 1 = cc in omega arith

    go : (x : Bool) → empty (flat (tokens_of i)) ≡ x → (y : Bool) → leb (n + length (flat (o ∷ (tokens_of i ++ (c ∷ [])))) + m) S.width ≡ y
        → Outcome S d n m (group o (tokens_of i) (items_of i) c nothing)
    go true e y f = stays (by_test S d n m o c (tokens_of i) (items_of i) bo bc true (λ j. e j || leb (n + length (flat (o ∷ (tokens_of i ++ (c ∷ [])))) + m) S.width) ∙ whole_flat o c (tokens_of i) bo bc)
    go false e true f = stays (by_test S d n m o c (tokens_of i) (items_of i) bo bc true (λ j. e j || f j) ∙ whole_flat o c (tokens_of i) bo bc)
    go false e false f = breaks hi so oo sc cl (some e) (by_test S d n m o c (tokens_of i) (items_of i) bo bc false (λ j. e j || f j))

-- behind a piece the column is a flat text further, or it is that of a broken group
pub piece_far : (S : Settings) (d n m far words : ℕ) {u : Run} → Shaped u → OnePiece u → 3 * n ≤ far → 3 * length (joined (tokens_of u)) ≤ words → 3 * (S.indent * d + 1) ≤ far
    → 3 * column n (piece_text S d n m u) ≤ far + words
piece_far S d n m far words s p a b k = go (outcome S d n m s p) b
  where
    go : {v : Run} → Outcome S d n m v → 3 * length (joined (tokens_of v)) ≤ words → 3 * column n (piece_text S d n m v) ≤ far + words
    go {v} (stays e) b2 =
        let w = ap (column n) e in
        let l = column_bound n (joined (tokens_of v)) in
        omega arith
    go (breaks {o} {c} {i} hi so oo sc cl some e) b2 =
        let w = ap (column n) e in
        let l = broken_column S d n o c (tokens_of i) (items_of i) nothing cl in
        omega arith
