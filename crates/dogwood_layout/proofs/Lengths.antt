-- A layout is so short that no count of its bytes reaches the cap.
use Rattle.std.specs.Prelude.{if◌then◌else◌}
use mathlib.Core.Path.{◌≡◌, refl, sym, ◌∙◌, ap, subst}
use mathlib.Core.Bool.{Bool, true, false}
use mathlib.Core.List.{List, [], ◌∷◌, ◌++◌}
use Prim.Native.Nat.{ℕ, zero, suc, ◌+◌, ◌-◌, ◌*◌, ◌<◌, ◌≤◌}
use native.Mathlib.Omega.{arith}
use lib.Dec.{eqb, leb}
use lib.ListN.{length, length-append, length-replicate}
use borrow.Author.Tests.{eqb-true, eqb-false}
use Rattle.pen.specs.Over.{cap, Wrote}
use Rattle.dogwood_rules.specs.Basic.{trim, run_length}
use Rattle.dogwood_rules.specs.Utf8.{bytes_of, encode}
use Rattle.dogwood_rules.specs.Token.{Token}
use Rattle.dogwood_rules.specs.Tree.{blank, shown, joined, Run, nothing, single, group, Items, tokens_of, run_of, add_item, tidy, trim_run, trim_left, trim_right}
use Rattle.dogwood_rules.specs.Layout.{Settings, column, walk, lines, following, spaces, layout}
use Rattle.dogwood_rules.proofs.Laid.{trimmed}
use Rattle.dogwood_layout.specs.declared.Entry.{Entry}
use Rattle.dogwood_layout.specs.declared.Page.{Page}
use Rattle.dogwood_layout.specs.Shape.{Shaped, Formed}
use Rattle.dogwood_layout.specs.View.{token_of, tokens, Held, Holds, Ready}
use Rattle.dogwood_layout.specs.Choice.{cuts_of, chosen}
use Rattle.dogwood_layout.specs.Pieces.{settings, Bounded, WroteText, each_line, item_text, items_text, piece_text}
use Rattle.dogwood_layout.proofs.Bytes.{encode-append}
use Rattle.dogwood_layout.proofs.Tables.{bytes-length, holds_length, shown-blank, shown-bytes}
use Rattle.dogwood_layout.proofs.Shapes.{run_of_lem, formed_of, formed_from, opener_word, closer_word}
use Rattle.dogwood_layout.proofs.Trims.{trim_shaped, trim-tokens}
use Rattle.dogwood_layout.proofs.Walks.{shown_text, layout_trimmed}
use Rattle.dogwood_layout.proofs.Items.{first_item}
use Rattle.dogwood_layout.proofs.Splits.{item_full}
use Rattle.dogwood_layout.proofs.Lays.{lines_add, one_some, first_piece}
use Rattle.dogwood_layout.proofs.Groups.{item_none, item_line, broken_made, Outcome, stays, breaks, outcome}
use Rattle.dogwood_layout.proofs.Laying.{margin_bound, encode_line}

abbrev pub bytes : List ℕ → ℕ
bytes cs = length (encode cs)

pub bytes-append : (xs ys : List ℕ) → bytes (xs ++ ys) ≡ bytes xs + bytes ys
bytes-append xs ys = ap length (encode-append xs ys) ∙ length-append (encode xs) (encode ys)

-- Tokens ------------------------------------------------------------------------------------------------------------

-- no token is longer than a text
pub data AllShort : List Token → Type 0 where
  short_end : AllShort []
  short_more : {t : Token} {ts : List Token} → bytes (shown t) ≤ 1048576 → AllShort ts → AllShort (t ∷ ts)

pub short_front : (ts us : List Token) → AllShort (ts ++ us) → AllShort ts
short_front [] us a = short_end
short_front (t ∷ ts) us (short_more h a) = short_more h (short_front ts us a)

pub short_back : (ts us : List Token) → AllShort (ts ++ us) → AllShort us
short_back [] us a = a
short_back (t ∷ ts) us (short_more h a) = short_back ts us a

-- without the white space at its ends
record TrimShort (ts : List Token) : Type 0 where
  short : AllShort (trim blank ts)
  fewer : length (trim blank ts) ≤ length ts

trim_short : (ts : List Token) → AllShort ts → TrimShort ts
trim_short ts a =
    let w = trimmed ts in
    let l = ap length w.whole in
    let m = length-append w.left (trim blank ts ++ w.right) in
    let n = length-append (trim blank ts) w.right in
    record { short = short_front (trim blank ts) w.right (short_back w.left (trim blank ts ++ w.right) (subst AllShort w.whole a)); fewer = omega arith }

short_joined : {ts : List Token} → AllShort ts → bytes (joined ts) ≤ 1048576 * length ts
unfolding joined encode
short_joined short_end = omega arith
short_joined (short_more {t} {ts} h a) = let k = short_joined a in let e = bytes-append (shown t) (joined ts) in omega arith

token_short : {text : List ℕ} {e : Entry} → Held text e → length text ≤ 1048576 → bytes (shown (token_of text e)) ≤ 1048576
unfolding encode bytes_of
token_short {text} {e} h k = go (eqb e.kind 0) refl
  where
    go : (b : Bool) → eqb e.kind 0 ≡ b → bytes (shown (token_of text e)) ≤ 1048576
    go true q = let l : bytes (shown (token_of text e)) ≡ 1 = ap bytes (shown-blank text e (eqb-true e.kind 0 q)) in omega arith
    go false q =
        let l = ap length (shown-bytes h (eqb-false e.kind 0 q)) in
        let m = bytes-length h in
        let i = h.inside in
        omega arith

pub short_tokens : (text ws : List ℕ) → Holds text ws → length text ≤ 1048576 → AllShort (tokens text ws)
unfolding Holds tokens
short_tokens text [] h k = short_end
short_tokens text (a ∷ []) h k = absurd h
short_tokens text (a ∷ s ∷ []) h k = absurd h
short_tokens text (a ∷ s ∷ e ∷ ws) h k = short_more (token_short h.0 k) (short_tokens text ws h.1 k)

-- Layouts --------------------------------------------------------------------------------------------------------------

-- Each token is given so many bytes that they pay for itself and for an LF with an indent on both its sides; a walk leaves one of those unpaid,
-- which pays for the line that the walk may stand on.
module _ (S : Settings) (small : S.indent ≤ 1024) where
  line_short : (d : ℕ) → d ≤ 4194304 → bytes (10 ∷ spaces S d) ≤ 4294967297
  line_short d h =
      let m = margin_bound S.indent d small h in
      let e = ap length (encode_line S d) in
      let l = length-replicate {A = ℕ} (S.indent * d) 32 in
      omega arith

  abbrev WalkShort : ℕ → Type 0
  WalkShort n = (r : Run) → Shaped r → AllShort (tokens_of r) → length (tokens_of r) ≤ n → (d col : ℕ) → d + n ≤ 4194304
      → bytes (walk S d col r) ≤ 17179869184 * length (tokens_of r) - 4294967297

  layout_short : (n : ℕ) → WalkShort n → (d : ℕ) → d + n ≤ 4194304 → (ts : List Token) → Formed ts → AllShort ts → length ts ≤ n
      → bytes (layout S d ts) ≤ 17179869184 * length ts - 4294967297
  layout_short n ih d k ts f a l = rw (layout_trimmed S d ts f) (go (leb (S.indent * d + length (joined (trim blank ts))) S.width))
    where
      us : tokens_of (trim_run (run_of ts)) ≡ trim blank ts
      us = trim-tokens f.shaped ∙ ap (trim blank) f.tokens

      go : (b : Bool) → bytes (if b then joined (trim blank ts) else walk S d (S.indent * d + run_length blank ts) (trim_run (run_of ts))) ≤ 17179869184 * length ts - 4294967297
      go true = let t = trim_short ts a in let j = short_joined t.short in let w = t.fewer in omega arith
      go false =
          let t = trim_short ts a in
          let w = t.fewer in
          let e = ap length us in
          let h = ih (trim_run (run_of ts)) (trim_shaped f.shaped) (subst AllShort (sym us) t.short) (omega arith) d (S.indent * d + run_length blank ts) k in
          omega arith

  item_short : (n : ℕ) → WalkShort n → (d : ℕ) → d + n ≤ 4194304 → (r : Run) → Shaped r → AllShort (tokens_of r) → length (tokens_of r) ≤ n
      → bytes (item_text S d r) ≤ 17179869184 * length (tokens_of r)
  unfolding tokens_of encode
  item_short n ih d k r s a l = go (trim_run r) refl
    where
      line : (trim_run r ≡ nothing → ⊥) → 0 < length (tokens_of (trim_run r)) → bytes (item_text S d r) ≤ 17179869184 * length (tokens_of r)
      line h z =
          let ts = tokens_of r in
          let t = trim_short ts a in
          let w = t.fewer in
          let p = line_short d (omega arith) in
          let q = layout_short n ih d k (trim blank ts) (formed_from (trim_shaped s) (trim-tokens s)) t.short (omega arith) in
          let e : bytes (item_text S d r) ≡ bytes ((10 ∷ spaces S d) ++ layout S d (trim blank ts)) = ap (λ (u : Run). bytes (item_text S d u)) (sym (run_of_lem s)) ∙ ap bytes (item_line S d ts (formed_of s) (λ x. h (ap trim_run (sym (run_of_lem s)) ∙ x))) in
          let b = bytes-append (10 ∷ spaces S d) (layout S d (trim blank ts)) in
          let g = ap length (trim-tokens s) in
          omega arith

      go : (u : Run) → trim_run r ≡ u → bytes (item_text S d r) ≤ 17179869184 * length (tokens_of r)
      go nothing e = let z : bytes (item_text S d r) ≡ 0 = ap bytes (item_none S d r e) in omega arith
      go (single t u) e = line (λ z. clash z) (let l2 = ap (λ (v : Run). length (tokens_of v)) e in omega arith)
        where
          clash : trim_run r ≡ nothing → ⊥
          clash z = let y : ◌≡◌ {A = ℕ} 0 1 = cc in omega arith
      go (group o inside is c u) e = line (λ z. clash z) (let l2 = ap (λ (v : Run). length (tokens_of v)) e in omega arith)
        where
          clash : trim_run r ≡ nothing → ⊥
          clash z = let y : ◌≡◌ {A = ℕ} 0 1 = cc in omega arith

  abbrev EachShort : ℕ → ℕ → ℕ → ℕ → Type 0
  EachShort n d set m = (r : Run) → Shaped r → AllShort (tokens_of r) → length (tokens_of r) ≤ n → length (tokens_of r) ≤ m
      → bytes (each_line (lines S d (tidy (cuts_of set r)))) ≤ 17179869184 * length (tokens_of r)

  -- the first item, and the others
  each_step : (n : ℕ) → WalkShort n → (d : ℕ) → d + n ≤ 4194304 → (set m : ℕ) → EachShort n d set m → (r : Run) → Shaped r → AllShort (tokens_of r) → length (tokens_of r) ≤ n → length (tokens_of r) ≤ suc m
      → 0 < length (tokens_of r) → bytes (each_line (lines S d (tidy (cuts_of set r)))) ≤ 17179869184 * length (tokens_of r)
  unfolding item_text
  each_step n ih d k set m others r s a l q z =
      let f = first_item s set in
      let full = item_full set (tokens_of r) z in
      let size = f.size in
      let t = ap length f.tokens in
      let t2 = length-append (tokens_of f.head) (tokens_of f.tail) in
      let b = subst AllShort f.tokens a in
      let one = item_short n ih d k f.head f.head_shaped (short_front (tokens_of f.head) (tokens_of f.tail) b) (omega arith) in
      let rest = others f.tail f.tail_shaped (short_back (tokens_of f.head) (tokens_of f.tail) b) (omega arith) (omega arith) in
      let e : bytes (each_line (lines S d (tidy (cuts_of set r)))) ≡ bytes (item_text S d f.head ++ each_line (lines S d (tidy (cuts_of set f.tail)))) =
      ap bytes (ap (λ (is : Items). each_line (lines S d is)) f.items ∙ lines_add S d (trim_run f.head) (tidy (cuts_of set f.tail))) in
      let g = bytes-append (item_text S d f.head) (each_line (lines S d (tidy (cuts_of set f.tail)))) in
      omega arith

  each_more : (n : ℕ) → WalkShort n → (d : ℕ) → d + n ≤ 4194304 → (set m : ℕ) → EachShort n d set m → EachShort n d set (suc m)
  unfolding tokens_of cuts_of tidy add_item trim_run trim_left trim_right lines each_line encode
  each_more n ih d k set m others nothing s a l q = omega arith
  each_more n ih d k set m others (single t r) s a l q = each_step n ih d k set m others (single t r) s a l q (omega arith)
  each_more n ih d k set m others (group o inside is c r) s a l q = each_step n ih d k set m others (group o inside is c r) s a l q (omega arith)

  each_none : (n d set : ℕ) → EachShort n d set 0
  unfolding tokens_of cuts_of tidy add_item trim_run trim_left trim_right lines each_line encode
  each_none n d set nothing s a l q = omega arith
  each_none n d set (single t r) s a l q = absurd (omega arith)
  each_none n d set (group o inside is c r) s a l q = absurd (omega arith)

  each_short : (n : ℕ) → WalkShort n → (d : ℕ) → d + n ≤ 4194304 → (set m : ℕ) → EachShort n d set m
  each_short n ih d k set zero r s a l q = each_none n d set r s a l q
  each_short n ih d k set (suc m) r s a l q = each_more n ih d k set m (λ u v w x y. each_short n ih d k set m u v w x y) r s a l q

  piece_short : (n : ℕ) → WalkShort n → (d col m : ℕ) → d + suc n ≤ 4194304 → {u : Run} → Outcome S d col m u → AllShort (tokens_of u) → length (tokens_of u) ≤ suc n → 0 < length (tokens_of u)
      → bytes (piece_text S d col m u) + 4294967297 ≤ 17179869184 * length (tokens_of u)
  unfolding tokens_of items_text
  piece_short n ih d col m k (stays e) a l z = let j = short_joined a in let q = ap bytes e in omega arith
  piece_short n ih d col m k (breaks {o} {c} {i} hi so oo sc cl some e) (short_more ho a) l z =
      let inside = short_front (tokens_of i) (c ∷ []) a in
      let hc = only (short_back (tokens_of i) (c ∷ []) a) in
      let t = length-append (tokens_of i) (c ∷ []) in
      let items = items_text S (suc d) i in
      let w = each_short n ih (suc d) (omega arith) (chosen i) n i hi inside (omega arith) (omega arith) in
      let p = line_short d (omega arith) in
      let q = ap bytes (e ∙ broken_made S d o c i nothing some) in
      let eo = ap bytes (shown_text o (opener_word so oo).0) in
      let ec = ap bytes (shown_text c (closer_word sc cl).0) in
      let b1 = bytes-append o.text items in
      let b2 = bytes-append (o.text ++ items) (10 ∷ spaces S d) in
      let b3 = bytes-append ((o.text ++ items) ++ (10 ∷ spaces S d)) c.text in
      omega arith
    where
      only : {x : Token} → AllShort (x ∷ []) → bytes (shown x) ≤ 1048576
      only (short_more h b) = h

  walk_step : (n : ℕ) → WalkShort n → (r : Run) → Shaped r → (r ≡ nothing → ⊥) → AllShort (tokens_of r) → length (tokens_of r) ≤ suc n → (d col : ℕ) → d + suc n ≤ 4194304
      → bytes (walk S d col r) ≤ 17179869184 * length (tokens_of r) - 4294967297
  walk_step n ih r s some a l d col k =
      let p = first_piece S s some in
      let m = following S p.tail in
      let t = ap length p.tokens in
      let t2 = length-append (tokens_of p.one) (tokens_of p.tail) in
      let b = subst AllShort p.tokens a in
      let z = one_some p.piece in
      let here = piece_short n ih d col m k (outcome S d col m p.one_shaped p.piece) (short_front (tokens_of p.one) (tokens_of p.tail) b) (omega arith) z in
      let rest = ih p.tail p.tail_shaped (short_back (tokens_of p.one) (tokens_of p.tail) b) (omega arith) d (column col (piece_text S d col m p.one)) (omega arith) in
      let e = ap bytes (p.walks d col) in
      let g = bytes-append (piece_text S d col m p.one) (walk S d (column col (piece_text S d col m p.one)) p.tail) in
      omega arith

  walk_more : (n : ℕ) → WalkShort n → WalkShort (suc n)
  unfolding tokens_of walk encode
  walk_more n ih nothing s a l d col k = omega arith
  walk_more n ih (single t r) s a l d col k = walk_step n ih (single t r) s (λ e. let y : ◌≡◌ {A = ℕ} 0 1 = cc in omega arith) a l d col k
  walk_more n ih (group o inside is c r) s a l d col k = walk_step n ih (group o inside is c r) s (λ e. let y : ◌≡◌ {A = ℕ} 0 1 = cc in omega arith) a l d col k

  walk_none : WalkShort 0
  unfolding tokens_of walk encode
  walk_none nothing s a l d col k = omega arith
  walk_none (single t r) s a l d col k = absurd (omega arith)
  walk_none (group o inside is c r) s a l d col k = absurd (omega arith)

  walk_short : (n : ℕ) → WalkShort n
  walk_short zero r s a l d col k = walk_none r s a l d col k
  walk_short (suc n) r s a l d col k = walk_more n (λ u v w x e f y. walk_short n u v w x e f y) r s a l d col k

-- a whole run's layout, with an LF to spare on each side
pub run_short : (p : Page) → p.indent ≤ 1024 → (ts : List Token) → Formed ts → AllShort ts → length ts ≤ 4194304 → bytes (layout (settings p) 0 ts) ≤ 17179869184 * length ts - 4294967297
run_short p small ts f a h = layout_short (settings p) small (length ts) (walk_short (settings p) small (length ts)) 0 (omega arith) ts f a (omega arith)

-- what lay_out has to count
module _ (p : Page) (d : ℕ) (text ws : List ℕ) (r : Ready text ws) (f : Formed (tokens text ws)) (b : Bounded p d (length ws)) where
  layout_bound : bytes (layout (settings p) d (tokens text ws)) ≤ cap
  layout_bound =
      let n = length (tokens text ws) in
      let w = holds_length text ws r.holds in
      let k = b.deep in
      let s = r.short in
      let h = layout_short (settings p) b.indent n (walk_short (settings p) b.indent n) d (omega arith) (tokens text ws) f (short_tokens text ws r.holds r.small) (omega arith) in
      omega arith

  -- so its count is the layout's length
  pub laid_out : {old new : List ℕ} {m : ℕ} → Wrote old (encode (layout (settings p) d (tokens text ws))) m new → WroteText (layout (settings p) d (tokens text ws)) old m new
  laid_out w = let l = layout_bound in let c = w.count in record { count = omega arith; bytes = w.bytes }

  pub laid-wrote : {old new : List ℕ} {m : ℕ} → WroteText (layout (settings p) d (tokens text ws)) old m new → Wrote old (encode (layout (settings p) d (tokens text ws))) m new
  laid-wrote w = let l = layout_bound in let c = w.count in record { count = omega arith; bytes = w.bytes }
