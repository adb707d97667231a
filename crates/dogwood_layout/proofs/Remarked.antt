-- The comments of a table, written one after the other.
use Rattle.std.specs.Prelude.{if◌then◌else◌, map}
use mathlib.Core.Path.{◌≡◌, refl, sym, ◌∙◌, ap}
use mathlib.Core.Bool.{Bool, true, false}
use mathlib.Core.List.{List, [], ◌∷◌, ◌++◌, append-nil, append_assoc}
use Prim.Native.Nat.{ℕ, ◌+◌, ◌-◌, ◌≤◌, min}
use native.Mathlib.Omega.{arith}
use lib.Dec.{eqb}
use lib.ListN.{length, take, drop, replicate}
use borrow.Author.Tests.{eq-eqb, ne_eqb, eqb-true}
use borrow.Rule.Slice.PartMut.{put_mid}
use Rattle.pen.specs.Over.{cap, Wrote}
use Rattle.pen.proofs.Laws.{wrote-nil, wrote-same}
use Rattle.dogwood_rules.specs.Basic.{drop_back}
use Rattle.dogwood_rules.specs.Utf8.{encode, decode, byte_length}
use Rattle.dogwood_rules.specs.Token.{Whitespace, Comment, String, Identifier, Number, Symbol, Other, white}
use Rattle.dogwood_rules.specs.Tree.{comment, is_comment}
use Rattle.dogwood_layout.specs.declared.Entry.{Entry}
use Rattle.dogwood_layout.specs.View.{kind_of, bytes_at, token_of, tokens, rows, Held, Holds}
use Rattle.dogwood_layout.specs.Feeds.{behind, due_remarks, remarks_due, Due}
use Rattle.dogwood_layout.proofs.Bytes.{encode-append}
use Rattle.dogwood_layout.proofs.Tables.{AllHeld, rows_held, rows-tokens}
use Rattle.dogwood_layout.proofs.Kept.{kept_bytes, kept_fits, spelt_whole}
use Rattle.dogwood_layout.proofs.Dues.{encode_feeds, wrote_more, remarks_more, remarks-later}

-- a comment is told by the kind
token-comment : (text : List ℕ) (e : Entry) → comment (token_of text e) ≡ eqb e.kind 1
unfolding comment token_of kind_of is_comment
token-comment text e = go (eqb e.kind 0) (eqb e.kind 1) (eqb e.kind 2) (eqb e.kind 3) (eqb e.kind 4) (eqb e.kind 5) ∙ first (eqb e.kind 0) refl
  where
    first : (a : Bool) → eqb e.kind 0 ≡ a → (if a then false else eqb e.kind 1) ≡ eqb e.kind 1
    first true z = sym (ne_eqb e.kind 1 (λ (o : e.kind ≡ 1). let y = eqb-true e.kind 0 z in omega arith))
    first false z = refl

    go : (a b c d f g : Bool) → is_comment (if a then Whitespace else if b then Comment else if c then String else if d then Identifier else if f then Number else if g then Symbol else Other) ≡ (if a then false else b)
    go true b c d f g = refl
    go false true c d f g = refl
    go false false true d f g = refl
    go false false false true f g = refl
    go false false false false true g = refl
    go false false false false false true = refl
    go false false false false false false = refl

-- A comment --------------------------------------------------------------------------------------------------------------

pub remark_none : (text : List ℕ) (e : Entry) (n : ℕ) → (e.kind ≡ 1 → ⊥) → (old : List ℕ) → Due (due_remarks n (token_of text e ∷ [])) (remarks_due n (token_of text e ∷ [])) old 0 n old
unfolding due_remarks remarks_due encode
remark_none text e n k old = go (comment (token_of text e)) (token-comment text e ∙ ne_eqb e.kind 1 k)
  where
    go : (b : Bool) → b ≡ false → Due (if b then behind n (drop_back white (token_of text e).text ++ []) else []) (if b then 1 else n) old 0 n old
    go true q = absurd (let z : ◌≡◌ {A = ℕ} 0 1 = cc in omega arith)
    go false q = record { wrote = wrote-nil old; due = refl }

module _ {text : List ℕ} {e : Entry} (h : Held text e) {bs : List ℕ} (b : bs ≡ bytes_at text e) where
  pub remark_valid : (decode bs).1 ≡ []
  unfolding token_of
  remark_valid = ap (λ (l : List ℕ). (decode l).1) b ∙ spelt_whole (bytes_at text e) h.spells

  module _ {r : ℕ} (q : r ≡ byte_length (drop_back white (decode bs).0)) where
    size : r ≡ byte_length (drop_back white (decode (bytes_at text e)).0)
    size = q ∙ ap (λ (l : List ℕ). byte_length (drop_back white (decode l).0)) b

    pub remark-fits : r ≤ length bs
    unfolding token_of
    remark-fits =
        let k = kept_fits (decode (bytes_at text e)).0 in
        let l = ap length h.spells in
        let m = ap length b in
        let z = size in
        omega arith

    remark-bytes : take r bs ≡ encode (drop_back white (token_of text e).text)
    unfolding token_of
    remark-bytes = (λ j. take (size j) ((b ∙ sym h.spells) j)) ∙ kept_bytes (decode (bytes_at text e)).0

    pub remark_written : e.kind ≡ 1 → (n : ℕ) {count : ℕ} {old new : List ℕ} → Wrote old (replicate n 10 ++ take r bs) count new
        → Due (due_remarks n (token_of text e ∷ [])) (remarks_due n (token_of text e ∷ [])) old count 1 new
    unfolding due_remarks remarks_due
    remark_written k n {count} {old} {new} w = go (comment (token_of text e)) (token-comment text e ∙ eq-eqb e.kind 1 k)
      where
        one : List ℕ
        one = drop_back white (token_of text e).text

        same : replicate n 10 ++ take r bs ≡ encode (behind n (one ++ []))
        same =
            (λ j. sym (encode_feeds n) j ++ remark-bytes j)
            ∙ sym (encode-append (replicate n 10) one)
            ∙ ap (λ (l : List ℕ). encode (behind n l)) (sym (append-nil one))

        go : (b : Bool) → b ≡ true → Due (if b then behind n (drop_back white (token_of text e).text ++ []) else []) (if b then 1 else n) old count 1 new
        go true z = record { wrote = wrote-same same w; due = refl }
        go false z = absurd (let y : ◌≡◌ {A = ℕ} 0 1 = cc in omega arith)

-- The loop ---------------------------------------------------------------------------------------------------------------

pub record RemarksAt (text ws : List ℕ) (feeds : ℕ) (old new : List ℕ) (n due : ℕ) (es : List Entry) : Type 0 where
  pub held : AllHeld text es
  pub done : List ℕ
  pub wrote : Wrote old (encode done) n new
  pub left : done ++ due_remarks due (map (token_of text) es) ≡ due_remarks feeds (tokens text ws)
  pub later : remarks_due due (map (token_of text) es) ≡ remarks_due feeds (tokens text ws)

module _ (text ws : List ℕ) (feeds : ℕ) where
  pub remarks_start : (old : List ℕ) → Holds text ws → RemarksAt text ws feeds old old 0 feeds (rows ws)
  unfolding encode
  remarks_start old h =
      record {
        held = rows_held text ws h;
        done = [];
        wrote = wrote-nil old;
        left = ap (due_remarks feeds) (rows-tokens text ws);
        later = ap (remarks_due feeds) (rows-tokens text ws);
      }

  pub remarks_turn : {old xs ys : List ℕ} {n due at r next s : ℕ} {e : Entry} {es : List Entry} → RemarksAt text ws feeds old xs n due (e ∷ es)
      → at ≡ min n (length xs) → length xs ≤ cap
      → Due (due_remarks due (token_of text e ∷ [])) (remarks_due due (token_of text e ∷ [])) (take (length xs - at) (drop at xs)) r next ys → s ≡ min (n + r) cap
      → RemarksAt text ws feeds old (put_mid at (length xs - at) xs ys) s next es
  remarks_turn {due = due} {next = next} {e = e} {es = es} a p k w z =
      let t = token_of text e in
      let rest = map (token_of text) es in
      record {
        held = a.held.1;
        done = a.done ++ due_remarks due (t ∷ []);
        wrote = wrote_more a.done (due_remarks due (t ∷ [])) a.wrote p k w.wrote z;
        left =
            append_assoc a.done (due_remarks due (t ∷ [])) (due_remarks next rest)
            ∙ ap (λ (m : ℕ). a.done ++ (due_remarks due (t ∷ []) ++ due_remarks m rest)) w.due
            ∙ ap (λ (l : List ℕ). a.done ++ l) (sym (remarks_more due t rest))
            ∙ a.left;
        later = ap (λ (m : ℕ). remarks_due m rest) w.due ∙ sym (remarks-later due t rest) ∙ a.later;
      }

  pub remarks_end : {old xs : List ℕ} {n due : ℕ} → RemarksAt text ws feeds old xs n due [] → Due (due_remarks feeds (tokens text ws)) (remarks_due feeds (tokens text ws)) old n due xs
  unfolding due_remarks remarks_due
  remarks_end a = record { wrote = wrote-same (ap encode (sym (append-nil a.done) ∙ a.left)) a.wrote; due = a.later }
