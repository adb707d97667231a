-- What a file is made of, each behind the LFs that are due before it: how it is written piece by piece.
use Rattle.std.specs.Prelude.{if◌then◌else◌}
use mathlib.Core.Path.{◌≡◌, refl, sym, ◌∙◌, ap}
use mathlib.Core.Bool.{Bool, true, false}
use mathlib.Core.List.{List, [], ◌∷◌, ◌++◌, append-nil, append_assoc}
use Prim.Native.Nat.{ℕ, zero, suc, ◌+◌, ◌-◌, ◌≤◌, min}
use native.Mathlib.Omega.{arith}
use lib.ListN.{length, take, drop, replicate}
use borrow.Rule.Slice.PartMut.{put_mid}
use Rattle.pen.specs.Over.{cap, Wrote}
use Rattle.pen.proofs.Laws.{wrote_then, wrote-same}
use Rattle.dogwood_rules.specs.Basic.{drop_back}
use Rattle.dogwood_rules.specs.Utf8.{bytes_of, encode}
use Rattle.dogwood_rules.specs.Token.{Token, white}
use Rattle.dogwood_rules.specs.Tree.{comment}
use Rattle.dogwood_rules.specs.Layout.{Settings, join_lines}
use Rattle.dogwood_rules.specs.File.{Piece, remark, laid, remarks, add_line, gap_after, piece_text, join_pieces}
use Rattle.dogwood_layout.specs.Feeds.{behind, due_lines, lines_due, due_remarks, remarks_due, due_after, due_pieces}
use Rattle.dogwood_layout.proofs.Bytes.{encode-append}

pub encode_feeds : (n : ℕ) → encode (replicate n 10) ≡ replicate n 10
unfolding encode bytes_of
encode_feeds zero = refl
encode_feeds (suc n) = ap (λ (l : List ℕ). 10 ∷ l) (encode_feeds n)

-- a text, and then another
pub wrote_more : {old xs ys : List ℕ} {n at r s : ℕ} (p q : List ℕ) → Wrote old (encode p) n xs → at ≡ min n (length xs) → length xs ≤ cap
    → Wrote (take (length xs - at) (drop at xs)) (encode q) r ys → s ≡ min (n + r) cap → Wrote old (encode (p ++ q)) s (put_mid at (length xs - at) xs ys)
wrote_more p q w a k v e = wrote-same (sym (encode-append p q)) (wrote_then w a k v e)

-- a text, the LFs that are due behind it, and another text
pub next-bytes : (cs ds : List ℕ) {m n : ℕ} → m ≡ n → (encode cs ++ replicate m 10) ++ encode ds ≡ encode (cs ++ behind n ds)
next-bytes cs ds {m} {n} e =
    ap (λ (k : ℕ). (encode cs ++ replicate k 10) ++ encode ds) e
    ∙ ap (λ (l : List ℕ). (encode cs ++ l) ++ encode ds) (sym (encode_feeds n))
    ∙ ap (λ (l : List ℕ). l ++ encode ds) (sym (encode-append cs (replicate n 10)))
    ∙ sym (encode-append (cs ++ replicate n 10) ds)
    ∙ ap encode (append_assoc cs (replicate n 10) ds)

behind_more : (n : ℕ) (cs ds : List ℕ) → behind n (cs ++ ds) ≡ behind n (cs ++ []) ++ ds
behind_more n cs ds =
    sym (append_assoc (replicate n 10) cs ds) ∙ ap (λ (l : List ℕ). (replicate n 10 ++ l) ++ ds) (sym (append-nil cs))

-- Lines ------------------------------------------------------------------------------------------------------------------

pub lines_more : (n : ℕ) (l : List ℕ) (ls : List (List ℕ)) → due_lines n (add_line l ls) ≡ due_lines n (add_line l []) ++ due_lines (lines_due n (add_line l [])) ls
unfolding due_lines lines_due add_line
lines_more n [] ls = refl
lines_more n (c ∷ cs) ls = behind_more n (c ∷ cs) (due_lines 1 ls)

pub lines-joined : (ls : List (List ℕ)) → join_lines ls ≡ due_lines 0 ls
unfolding due_lines join_lines
lines-joined [] = refl
lines-joined (x ∷ []) = sym (append-nil x)
lines-joined (x ∷ y ∷ ys) = ap (λ (l : List ℕ). x ++ 10 ∷ l) (lines-joined (y ∷ ys))

-- a line that is one
pub line_added : (l : List ℕ) → (l ≡ [] → ⊥) → add_line l [] ≡ l ∷ []
unfolding add_line
line_added [] f = absurd (f refl)
line_added (c ∷ cs) f = refl

-- Comments ---------------------------------------------------------------------------------------------------------------

pub remarks_more : (n : ℕ) (t : Token) (ts : List Token) → due_remarks n (t ∷ ts) ≡ due_remarks n (t ∷ []) ++ due_remarks (remarks_due n (t ∷ [])) ts
unfolding due_remarks remarks_due
remarks_more n t ts = go (comment t)
  where
    go : (b : Bool)
        → (if b then behind n (drop_back white t.text ++ due_remarks 1 ts) else due_remarks n ts)
        ≡ (if b then behind n (drop_back white t.text ++ []) else []) ++ due_remarks (if b then 1 else n) ts
    go true = behind_more n (drop_back white t.text) (due_remarks 1 ts)
    go false = refl

pub remarks-later : (n : ℕ) (t : Token) (ts : List Token) → remarks_due n (t ∷ ts) ≡ remarks_due (remarks_due n (t ∷ [])) ts
unfolding remarks_due
remarks-later n t ts = go (comment t)
  where
    go : (b : Bool) → (if b then remarks_due 1 ts else remarks_due n ts) ≡ remarks_due (if b then 1 else n) ts
    go true = refl
    go false = refl

pub remarks_few : (n : ℕ) (ts : List Token) → n ≤ 2 → remarks_due n ts ≤ 2
unfolding remarks_due
remarks_few n [] h = h
remarks_few n (t ∷ ts) h = go (comment t) (λ m k. remarks_few m ts k)
  where
    go : (b : Bool) → ((m : ℕ) → m ≤ 2 → remarks_due m ts ≤ 2) → (if b then remarks_due 1 ts else remarks_due n ts) ≤ 2
    go true ih = ih 1 (omega arith)
    go false ih = ih n h

-- Pieces -----------------------------------------------------------------------------------------------------------------

gap_feeds : (p : Piece) → gap_after p ≡ replicate (due_after p) 10
unfolding gap_after due_after
gap_feeds (remark t) = refl
gap_feeds (laid ps) = refl

module _ (S : Settings) where
  pub pieces-joined : (ps : List Piece) → join_pieces S ps ≡ due_pieces S 0 ps
  unfolding join_pieces due_pieces
  pieces-joined [] = refl
  pieces-joined (p ∷ []) = sym (append-nil (piece_text S p))
  pieces-joined (p ∷ q ∷ ps) = λ j. piece_text S p ++ (gap_feeds p j ++ pieces-joined (q ∷ ps) j)

  -- the comments before some pieces
  pub pieces-remarks : (n : ℕ) (ts : List Token) (ps : List Piece) → due_pieces S n (remarks ts ++ ps) ≡ due_remarks n ts ++ due_pieces S (remarks_due n ts) ps
  unfolding remarks due_remarks remarks_due due_pieces due_after piece_text
  pieces-remarks n [] ps = refl
  pieces-remarks n (t ∷ ts) ps = go (comment t) (λ m. pieces-remarks m ts ps)
    where
      go : (b : Bool) → ((m : ℕ) → due_pieces S m (remarks ts ++ ps) ≡ due_remarks m ts ++ due_pieces S (remarks_due m ts) ps)
          → due_pieces S n ((if b then remark t ∷ remarks ts else remarks ts) ++ ps)
          ≡ (if b then behind n (drop_back white t.text ++ due_remarks 1 ts) else due_remarks n ts) ++ due_pieces S (if b then remarks_due 1 ts else remarks_due n ts) ps
      go true ih =
          let one = drop_back white t.text in
          let rest = due_pieces S (remarks_due 1 ts) ps in
          ap (λ (l : List ℕ). behind n (one ++ l)) (ih 1)
          ∙ ap (λ (l : List ℕ). replicate n 10 ++ l) (sym (append_assoc one (due_remarks 1 ts) rest))
          ∙ sym (append_assoc (replicate n 10) (one ++ due_remarks 1 ts) rest)
      go false ih = ih n

  -- the comments at the end of a file
  pub pieces_last : (n : ℕ) (ts : List Token) → due_pieces S n (remarks ts) ≡ due_remarks n ts
  unfolding due_pieces
  pieces_last n ts =
      ap (due_pieces S n) (sym (append-nil (remarks ts))) ∙ pieces-remarks n ts [] ∙ append-nil (due_remarks n ts)

  -- a statement with the comments before it
  pub pieces-statement : (n : ℕ) (ts : List Token) (parts : List (List Token)) (ps : List Piece)
      → due_pieces S n (remarks ts ++ laid parts ∷ ps) ≡ (due_remarks n ts ++ behind (remarks_due n ts) (piece_text S (laid parts))) ++ due_pieces S 2 ps
  unfolding due_pieces due_after
  pieces-statement n ts parts ps =
      let rest = due_pieces S 2 ps in
      let one = piece_text S (laid parts) in
      pieces-remarks n ts (laid parts ∷ ps)
      ∙ ap (λ (l : List ℕ). due_remarks n ts ++ l) (sym (append_assoc (replicate (remarks_due n ts) 10) one rest))
      ∙ sym (append_assoc (due_remarks n ts) (behind (remarks_due n ts) one) rest)
