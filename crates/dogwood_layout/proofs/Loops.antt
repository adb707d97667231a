-- Where each loop over a table stands: what it has done, and what is left.
use Rattle.std.specs.Prelude.{if◌then◌else◌}
use mathlib.Core.Path.{◌≡◌, refl, sym, ◌∙◌, ap, subst}
use mathlib.Core.Bool.{Bool, true, false, not, ◌&&◌}
use mathlib.Core.List.{List, [], ◌∷◌, ◌++◌, append-nil, append_assoc}
use Prim.Native.Nat.{ℕ, suc, ◌+◌, ◌-◌, ◌*◌, ◌<◌, ◌≤◌, min}
use native.Mathlib.Numerals.{add-one}
use native.Mathlib.Omega.{arith}
use lib.Dec.{eqb}
use lib.ListN.{length, take, drop}
use borrow.Author.Tests.{eq-eqb, ne_eqb}
use borrow.Rule.Slice.PartMut.{put_mid}
use Rattle.pen.specs.Over.{cap, Wrote}
use Rattle.pen.proofs.Laws.{wrote_then, wrote-nil}
use Rattle.dogwood_rules.specs.Utf8.{encode}
use Rattle.dogwood_rules.specs.Token.{Token}
use Rattle.dogwood_rules.specs.Tree.{opener, closer, shown, joined}
use Rattle.dogwood_rules.specs.Layout.{column}
use Rattle.dogwood_layout.specs.declared.Entry.{Entry}
use Rattle.dogwood_layout.specs.declared.Span.{Span}
use Rattle.dogwood_layout.specs.Measure.{span_after}
use Rattle.dogwood_layout.specs.View.{entry_at, token_of, tokens, Holds}
use Rattle.dogwood_layout.specs.Scan.{depth_after, last_len, group_len, cut_after_token, cut_before, cut_len, item_len}
use Rattle.dogwood_layout.specs.Pieces.{piece_len}
use Rattle.dogwood_layout.proofs.Bytes.{encode-append, span_append, column_bound}
use Rattle.dogwood_layout.proofs.Tables.{tokens_at_lem, holds_at, entry_there, no_words, shown_bound, held_at}

-- Depth --------------------------------------------------------------------------------------------------------

pub depth_open : (d : ℕ) (t : Token) → opener t ≡ true → d + 1 ≡ depth_after d t
unfolding depth_after
depth_open d t e = rw (e, add-one) refl

pub depth_close : (d : ℕ) (t : Token) → opener t ≡ false → closer t ≡ true → d - 1 ≡ depth_after d t
unfolding depth_after
depth_close d t e f = rw (e, f) refl

pub depth_same : (d : ℕ) (t : Token) → opener t ≡ false → closer t ≡ false → d ≡ depth_after d t
unfolding depth_after
depth_same d t e f = rw (e, f) refl

depth_bound : (d : ℕ) (t : Token) → depth_after d t ≤ d + 1
unfolding depth_after
depth_bound d t = go (opener t) (closer t)
  where
    go : (a b : Bool) → (if a then suc d else if b then d - 1 else d) ≤ d + 1
    go true b = omega arith
    go false true = omega arith
    go false false = omega arith

-- The end of a group -----------------------------------------------------------------------------------------------

pub record GroupAt (text ws : List ℕ) (d i : ℕ) : Type 0 where
  pub fits : i ≤ length ws
  pub holds : Holds text (drop i ws)
  pub low : d ≤ i
  pub left : 3 * group_len 0 (tokens text ws) ≡ i + 3 * group_len d (tokens text (drop i ws))

pub group_start : (text ws : List ℕ) → Holds text ws → GroupAt text ws 0 0
group_start text ws h = record { fits = omega arith; holds = h; low = omega arith; left = omega arith }

module _ (text ws : List ℕ) (d i : ℕ) (a : GroupAt text ws d i) (h : i < length ws) (e0 : Entry) (q0 : e0 ≡ entry_at ws i) where
  group_there : i + 2 < length ws
  group_there = entry_there text ws i a.holds h

  group_more : (b : Bool) → eqb (depth_after d (token_of text e0)) 0 ≡ b
      → group_len d (tokens text (drop i ws)) ≡ last_len b (group_len (depth_after d (token_of text e0)) (tokens text (drop (i + 3) ws)))
  unfolding group_len
  group_more b e = ap (group_len d) (tokens_at_lem text ws i group_there q0) ∙ ap (λ (z : Bool). last_len z (group_len (depth_after d (token_of text e0)) (tokens text (drop (i + 3) ws)))) e

  pub group_turn : {r : ℕ} → r ≡ depth_after d (token_of text e0) → (r ≡ 0 → ⊥) → GroupAt text ws r (i + 3)
  group_turn {r} e k =
      let there = group_there in
      let l = a.left in
      let w = a.low in
      let b = depth_bound d (token_of text e0) in
      let m = group_more false (ap (λ (n : ℕ). eqb n 0) (sym e) ∙ ne_eqb r 0 k) in
      let m2 : group_len d (tokens text (drop i ws)) ≡ suc (group_len r (tokens text (drop (i + 3) ws))) = subst (λ (n : ℕ). group_len d (tokens text (drop i ws)) ≡ suc (group_len n (tokens text (drop (i + 3) ws)))) (sym e) m in
      record { fits = omega arith; holds = (holds_at text ws i there a.holds).1; low = omega arith; left = omega arith }

  pub group_stop : {r : ℕ} → r ≡ depth_after d (token_of text e0) → r ≡ 0 → i + 3 ≡ 3 * group_len 0 (tokens text ws)
  group_stop {r} e k =
      let l = a.left in
      let m = group_more true (ap (λ (n : ℕ). eqb n 0) (sym e) ∙ eq-eqb r 0 k) in
      omega arith

pub group_end_lem : (text ws : List ℕ) (d i : ℕ) → GroupAt text ws d i → length ws ≤ i → i ≡ 3 * group_len 0 (tokens text ws)
unfolding group_len
group_end_lem text ws d i a h =
    let l = a.left in
    let m : group_len d (tokens text (drop i ws)) ≡ 0 = rw (no_words text ws i h) refl in
    omega arith

-- The end of an item ---------------------------------------------------------------------------------------------------

pub record ItemAt (text ws : List ℕ) (set : ℕ) (first : Bool) (d i : ℕ) : Type 0 where
  pub fits : i ≤ length ws
  pub holds : Holds text (drop i ws)
  pub low : d ≤ i
  pub left : 3 * item_len true set 0 (tokens text ws) ≡ i + 3 * item_len first set d (tokens text (drop i ws))

pub item_start : (text ws : List ℕ) (set : ℕ) → Holds text ws → ItemAt text ws set true 0 0
item_start text ws set h = record { fits = omega arith; holds = h; low = omega arith; left = omega arith }

module _ (text ws : List ℕ) (set : ℕ) (first : Bool) (d i : ℕ) (a : ItemAt text ws set first d i) (h : i < length ws) (e0 : Entry) (q0 : e0 ≡ entry_at ws i) where
  abbrev here : Token
  here = token_of text e0

  item_more : (b : Bool) → (not first && cut_before set d here) ≡ b → (c : Bool) → cut_after_token set d here ≡ c
      → item_len first set d (tokens text (drop i ws)) ≡ cut_len b c (item_len false set (depth_after d here) (tokens text (drop (i + 3) ws)))
  unfolding item_len
  item_more b e c f =
      ap (item_len first set d) (tokens_at_lem text ws i (entry_there text ws i a.holds h) q0) ∙ (λ j. cut_len (e j) (f j) (item_len false set (depth_after d here) (tokens text (drop (i + 3) ws))))

  pub item_before : (not first && cut_before set d here) ≡ true → i ≡ 3 * item_len true set 0 (tokens text ws)
  item_before e = let l = a.left in let m = item_more true e (cut_after_token set d here) refl in omega arith

  pub item_after : (not first && cut_before set d here) ≡ false → cut_after_token set d here ≡ true → i + 3 ≡ 3 * item_len true set 0 (tokens text ws)
  item_after e f = let l = a.left in let m = item_more false e true f in omega arith

  pub item_turn : (not first && cut_before set d here) ≡ false → cut_after_token set d here ≡ false → {r : ℕ} → r ≡ depth_after d here → ItemAt text ws set false r (i + 3)
  item_turn e f {r} q =
      let there = entry_there text ws i a.holds h in
      let l = a.left in
      let w = a.low in
      let b = depth_bound d here in
      let m = item_more false e false f in
      let m2 : item_len first set d (tokens text (drop i ws)) ≡ suc (item_len false set r (tokens text (drop (i + 3) ws))) = subst (λ (n : ℕ). item_len first set d (tokens text (drop i ws)) ≡ suc (item_len false set n (tokens text (drop (i + 3) ws)))) (sym q) m in
      record { fits = omega arith; holds = (holds_at text ws i there a.holds).1; low = omega arith; left = omega arith }

pub item_end_lem : (text ws : List ℕ) (set : ℕ) (first : Bool) (d i : ℕ) → ItemAt text ws set first d i → length ws ≤ i → i ≡ 3 * item_len true set 0 (tokens text ws)
unfolding item_len
item_end_lem text ws set first d i a h =
    let l = a.left in
    let m : item_len first set d (tokens text (drop i ws)) ≡ 0 = rw (no_words text ws i h) refl in
    omega arith

-- Width and column ---------------------------------------------------------------------------------------------------------

pub record SpanAt (text ws : List ℕ) (col : ℕ) (s : Span) (i : ℕ) : Type 0 where
  pub fits : i ≤ length ws
  pub holds : Holds text (drop i ws)
  pub wide : 3 * s.width ≤ 1048576 * i
  pub far : 3 * s.col ≤ 3 * col + 1048576 * i
  pub left : span_after s (joined (tokens text (drop i ws))) ≡ span_after (record { width = 0; col = col }) (joined (tokens text ws))

pub span_start : (text ws : List ℕ) (col : ℕ) → Holds text ws → SpanAt text ws col (record { width = 0; col = col }) 0
span_start text ws col h = record { fits = omega arith; holds = h; wide = omega arith; far = omega arith; left = refl }

module _ (text ws : List ℕ) (col : ℕ) (s : Span) (i : ℕ) (a : SpanAt text ws col s i) (k : length text ≤ 1048576) where
  pub span_turn : i < length ws → {e0 : Entry} → e0 ≡ entry_at ws i → {r : Span} → r ≡ span_after s (shown (token_of text e0)) → SpanAt text ws col r (i + 3)
  unfolding joined
  span_turn h {e0} q0 {r} e =
      let there = entry_there text ws i a.holds h in
      let held = held_at text ws i a.holds h q0 in
      let n = shown_bound held 1048576 k (omega arith) in
      let c = column_bound s.col (shown (token_of text e0)) in
      let w = a.wide in
      let f = a.far in
      let ew : r.width ≡ s.width + length (shown (token_of text e0)) = ap (λ (z : Span). z.width) e in
      let ec : r.col ≡ column s.col (shown (token_of text e0)) = ap (λ (z : Span). z.col) e in
      record {
        fits = omega arith;
        holds = (holds_at text ws i there a.holds).1;
        wide = omega arith;
        far = omega arith;
        left = ap (λ (z : Span). span_after z (joined (tokens text (drop (i + 3) ws)))) e ∙ span_append s (shown (token_of text e0)) (joined (tokens text (drop (i + 3) ws))) ∙ rw (tokens_at_lem text ws i there q0) at a.left;
      }

  pub span_end : length ws ≤ i → s ≡ span_after (record { width = 0; col = col }) (joined (tokens text ws))
  unfolding joined column
  span_end h =
      let e : s.width ≡ s.width + 0 = omega arith in
      let z : s ≡ span_after s [] = λ j. record { width = e j; col = s.col } in
      z ∙ rw (no_words text ws i h) at a.left

-- Flat text -------------------------------------------------------------------------------------------------------------------

pub record FlatAt (text ws old new : List ℕ) (n i : ℕ) : Type 0 where
  pub done : List ℕ
  pub fits : i ≤ length ws
  pub holds : Holds text (drop i ws)
  pub wrote : Wrote old done n new
  pub left : done ++ encode (joined (tokens text (drop i ws))) ≡ encode (joined (tokens text ws))

pub flat_start : (text ws old : List ℕ) → Holds text ws → FlatAt text ws old old 0 0
flat_start text ws old h = record { done = []; fits = omega arith; holds = h; wrote = wrote-nil old; left = refl }

module _ (text ws old xs : List ℕ) (n i : ℕ) (a : FlatAt text ws old xs n i) where
  pub flat_turn : i < length ws → {e0 : Entry} → e0 ≡ entry_at ws i → {at r s : ℕ} {ys : List ℕ} → at ≡ min n (length xs) → length xs ≤ cap
      → Wrote (take (length xs - at) (drop at xs)) (encode (shown (token_of text e0))) r ys → s ≡ min (n + r) cap
      → FlatAt text ws old (put_mid at (length xs - at) xs ys) s (i + 3)
  unfolding joined
  flat_turn h {e0} q0 p k w e =
      let there = entry_there text ws i a.holds h in
      record {
        done = a.done ++ encode (shown (token_of text e0));
        fits = omega arith;
        holds = (holds_at text ws i there a.holds).1;
        wrote = wrote_then a.wrote p k w e;
        left = append_assoc a.done (encode (shown (token_of text e0))) (encode (joined (tokens text (drop (i + 3) ws)))) ∙ ap (λ (l : List ℕ). a.done ++ l) (sym (encode-append (shown (token_of text e0)) (joined (tokens text (drop (i + 3) ws))))) ∙ rw (tokens_at_lem text ws i there q0) at a.left;
      }

  pub flat_end : length ws ≤ i → Wrote old (encode (joined (tokens text ws))) n xs
  unfolding joined encode
  flat_end h =
      let e : a.done ≡ encode (joined (tokens text ws)) = sym (append-nil a.done) ∙ rw (no_words text ws i h) at a.left in
      rw (← e) a.wrote

-- Pieces ------------------------------------------------------------------------------------------------------------------------

pub piece-group : (text ws : List ℕ) → 0 < length ws → Holds text ws → {e : Entry} → e ≡ entry_at ws 0 → opener (token_of text e) ≡ true → 3 * group_len 0 (tokens text ws) ≡ 3 * piece_len (tokens text ws)
unfolding piece_len
piece-group text ws h k {e} q o =
    let t = tokens_at_lem text ws 0 (entry_there text ws 0 k h) q in
    ap (λ (ts : List Token). 3 * group_len 0 ts) t ∙ ap (λ (b : Bool). 3 * (if b then group_len 0 (token_of text e ∷ tokens text (drop 3 ws)) else 1)) (sym o) ∙ ap (λ (ts : List Token). 3 * piece_len ts) (sym t)

pub piece_one : (text ws : List ℕ) → 0 < length ws → Holds text ws → {e : Entry} → e ≡ entry_at ws 0 → opener (token_of text e) ≡ false → 3 ≡ 3 * piece_len (tokens text ws)
unfolding piece_len
piece_one text ws h k {e} q o =
    let t = tokens_at_lem text ws 0 (entry_there text ws 0 k h) q in
    ap (λ (b : Bool). 3 * (if b then group_len 0 (token_of text e ∷ tokens text (drop 3 ws)) else 1)) (sym o) ∙ ap (λ (ts : List Token). 3 * piece_len ts) (sym t)
