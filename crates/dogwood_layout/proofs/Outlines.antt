-- A file's statements by its outline, with the comments around them, written one after the other.
use Rattle.std.specs.Prelude.{if◌then◌else◌}
use mathlib.Core.Path.{◌≡◌, refl, sym, ◌∙◌, ap, subst}
use mathlib.Core.Bool.{Bool, true, false}
use mathlib.Core.List.{List, [], ◌∷◌, ◌++◌, append_assoc}
use mathlib.Core.Option.{Option, none, some}
use Prim.Native.Nat.{ℕ, zero, suc, ◌+◌, ◌-◌, ◌*◌, ◌<◌, ◌≤◌, min}
use native.Mathlib.Numerals.{add-one, add-two, add-three}
use native.Mathlib.Omega.{arith}
use lib.ListN.{length, take, drop, get_or, length-drop, drop_of_length-le}
use lib.Seq.{drop-cons, drop-drop}
use borrow.Rule.Slice.PartMut.{put_mid}
use Rattle.pen.specs.Over.{cap, Wrote}
use Rattle.pen.proofs.Laws.{wrote-nil, wrote-same}
use Rattle.dogwood_rules.specs.Basic.{cut, cut_after}
use Rattle.dogwood_rules.specs.Utf8.{encode}
use Rattle.dogwood_rules.specs.Token.{Token, tokens as tokens_at}
use Rattle.dogwood_rules.specs.Tree.{comment}
use Rattle.dogwood_rules.specs.Outline.{Span, Statement, add_span, spans, with_parts, statement, statements, up_to, from, within, beyond, parts_of}
use Rattle.dogwood_rules.specs.Layout.{Settings}
use Rattle.dogwood_rules.specs.File.{Piece, remark, laid, remarks, pieces, piece_text, join_pieces}
use Rattle.dogwood_rules.proofs.Cutting.{cut_step, cut_stop}
use Rattle.dogwood_rules.proofs.Files.{words_all, AllParts, sane_laid, AllSane, sane_more}
use Rattle.dogwood_layout.specs.declared.Page.{Page}
use Rattle.dogwood_layout.specs.View.{tokens, Holds, Ready}
use Rattle.dogwood_layout.specs.Pieces.{Bounded}
use Rattle.dogwood_layout.specs.Places.{entries, pairs, Paired}
use Rattle.dogwood_layout.specs.Feeds.{behind, due_remarks, remarks_due, due_pieces, Due}
use Rattle.dogwood_layout.proofs.Tables.{ready_part, part_rest}
use Rattle.dogwood_layout.proofs.Bounds.{length_part, bounded_less}
use Rattle.dogwood_layout.proofs.Places.{entries-tokens}
use Rattle.dogwood_layout.proofs.Dues.{wrote_more, pieces-joined, pieces_last, pieces-statement}
use Rattle.dogwood_layout.proofs.Statements.{CutHere}

-- Reading a record --------------------------------------------------------------------------------------------------------------

not_some : {A : Type 0} {x : A} → none ≡ some x → ⊥
not_some e = let z : ◌≡◌ {A = ℕ} 0 1 = cc in omega arith

-- pairs of words that are read as spans
pub record Spans (n : ℕ) (ws : List ℕ) (ss : List Span) : Type 0 where
  pub fits : 2 * n ≤ length ws
  pub same : ss ≡ pairs (take (2 * n) ws)

spans_read : (n : ℕ) (ws : List ℕ) (ss : List Span) → spans n ws ≡ some ss → Spans n ws ss
unfolding spans add_span pairs
spans_read zero ws ss e = let q : [] ≡ ss = cc in record { fits = omega arith; same = sym q }
spans_read (suc n) [] ss e = absurd (not_some e)
spans_read (suc n) (a ∷ []) ss e = absurd (not_some e)
spans_read (suc n) (a ∷ b ∷ ws) ss e = go (spans n ws) (λ us q. spans_read n ws us q) refl e
  where
    go : (o : Option (List Span)) → ((us : List Span) → spans n ws ≡ some us → Spans n ws us) → spans n ws ≡ o → add_span a b o ≡ some ss → Spans (suc n) (a ∷ b ∷ ws) ss
    go none ih q w = absurd (not_some w)
    go (some us) ih q w =
        let h = ih us q in
        let f = h.fits in
        let m : 2 * suc n ≡ suc (suc (2 * n)) = omega arith in
        let r : (record { start = a; stop = b } ∷ us) ≡ ss = cc in
        record {
          fits = omega arith;
          same = sym r ∙ ap (λ (l : List Span). record { start = a; stop = b } ∷ l) h.same ∙ ap (λ (k : ℕ). pairs (take k (a ∷ b ∷ ws))) (sym m);
        }

-- a record has four words before its parts
statement_long : (ws : List ℕ) {p : Statement × ℕ} → statement ws ≡ some p → 4 ≤ length ws
unfolding statement
statement_long [] e = absurd (not_some e)
statement_long (k ∷ []) e = absurd (not_some e)
statement_long (k ∷ a ∷ []) e = absurd (not_some e)
statement_long (k ∷ a ∷ b ∷ []) e = absurd (not_some e)
statement_long (k ∷ a ∷ b ∷ n ∷ ws) e = omega arith

abbrev statement_of : ℕ → ℕ → ℕ → ℕ → List ℕ → Statement
statement_of k a b n ws = record { kind = k; span = record { start = a; stop = b }; parts = pairs (take (2 * n) ws) }

record Read (k a b n : ℕ) (ws : List ℕ) (p : Statement × ℕ) : Type 0 where
  fits : 2 * n ≤ length ws
  same : p ≡ (statement_of k a b n ws, 3 + 2 * n)

statement_read : (k a b n : ℕ) (ws : List ℕ) (p : Statement × ℕ) → statement (k ∷ a ∷ b ∷ n ∷ ws) ≡ some p → Read k a b n ws p
unfolding statement with_parts
statement_read k a b n ws p e = go (spans n ws) refl e
  where
    go : (o : Option (List Span)) → spans n ws ≡ o → with_parts k a b n o ≡ some p → Read k a b n ws p
    go none q w = absurd (not_some w)
    go (some ss) q w =
        let h = spans_read n ws ss q in
        let r : (record { kind = k; span = record { start = a; stop = b }; parts = ss }, 3 + 2 * n) ≡ p = cc in
        record { fits = h.fits; same = sym r ∙ ap (λ (us : List Span). (record { kind = k; span = record { start = a; stop = b }; parts = us }, 3 + 2 * n)) h.same }

-- the record at word o
pub record StatementAt (outline : List ℕ) (o : ℕ) : Type 0 where
  pub fits : o + 4 + 2 * get_or outline (o + 3) 0 ≤ length outline
  pub read : statements (drop o outline)
      ≡ (
        statement_of (get_or outline o 0) (get_or outline (o + 1) 0) (get_or outline (o + 2) 0) (get_or outline (o + 3) 0) (drop (o + 4) outline) ∷ (statements (drop (o + 4 + 2 * get_or outline (o + 3) 0) outline)).0,
        (statements (drop (o + 4 + 2 * get_or outline (o + 3) 0) outline)).1,
      )

four_words : (ws : List ℕ) (o : ℕ) → o + 3 < length ws → drop o ws ≡ get_or ws o 0 ∷ get_or ws (o + 1) 0 ∷ get_or ws (o + 2) 0 ∷ get_or ws (o + 3) 0 ∷ drop (o + 4) ws
four_words ws o h =
    let f : o + 4 ≡ suc (suc (suc (suc o))) = omega arith in
    rw (f, add-one, add-two, add-three, drop-cons ws o 0 (omega arith), drop-cons ws (suc o) 0 (omega arith), drop-cons ws (suc (suc o)) 0 (omega arith), drop-cons ws (suc (suc (suc o))) 0 (omega arith))

pub statement_at_lem : (outline : List ℕ) (o : ℕ) → o < length outline → (statements (drop o outline)).1 ≡ [] → StatementAt outline o
unfolding statements
statement_at_lem outline o h e = go (statement (get_or outline o 0 ∷ drop (suc o) outline)) refl
  where
    first : drop o outline ≡ get_or outline o 0 ∷ drop (suc o) outline
    first = drop-cons outline o 0 h

    go : (r : Option (Statement × ℕ)) → statement (get_or outline o 0 ∷ drop (suc o) outline) ≡ r → StatementAt outline o
    go none q =
        absurd (let l = ap (λ (r : List Statement × List ℕ). length r.1) (ap (cut statement) first ∙ cut_stop statement (get_or outline o 0) (drop (suc o) outline) q) in let n = ap length e in omega arith)
    go (some p) q =
        let long = statement_long (get_or outline o 0 ∷ drop (suc o) outline) q in
        let l = length-drop (suc o) outline in
        let there : o + 3 < length outline = omega arith in
        let four = four_words outline o there in
        let n = get_or outline (o + 3) 0 in
        let s = statement_read (get_or outline o 0) (get_or outline (o + 1) 0) (get_or outline (o + 2) 0) n (drop (o + 4) outline) p (ap statement (sym four ∙ first) ∙ q) in
        let f = s.fits in
        let m = length-drop (o + 4) outline in
        let one = statement_of (get_or outline o 0) (get_or outline (o + 1) 0) (get_or outline (o + 2) 0) n (drop (o + 4) outline) in
        let next : suc o + (3 + 2 * n) ≡ o + 4 + 2 * n = omega arith in
        record {
          fits = omega arith;
          read =
              ap (cut statement) first
              ∙ cut_step statement (get_or outline o 0) (drop (suc o) outline) one (3 + 2 * n) (q ∙ ap (λ (r : Statement × ℕ). some r) s.same)
              ∙ ap (λ (l : List ℕ). (one ∷ (cut statement l).0, (cut statement l).1)) (drop-drop (3 + 2 * n) (suc o) outline ∙ ap (λ (k : ℕ). drop k outline) next);
        }

-- A statement with the comments before it -----------------------------------------------------------------------------------------

-- behind some comments, what can be laid out: a statement, and what follows it
pub record SaneLaid (parts : List (List Token)) (ps : List Piece) : Type 0 where
  pub laid_out : AllParts parts
  pub full : words_all parts ≡ [] → ⊥
  pub rest : AllSane ps

pub sane_statement : (ts : List Token) {parts : List (List Token)} {ps : List Piece} → AllSane (remarks ts ++ laid parts ∷ ps) → SaneLaid parts ps
unfolding remarks
sane_statement [] (sane_more (sane_laid a f) s) = record { laid_out = a; full = f; rest = s }
sane_statement (t ∷ ts) {parts} {ps} s = go (comment t) (λ u. sane_statement ts u) s
  where
    go : (b : Bool) → (AllSane (remarks ts ++ laid parts ∷ ps) → SaneLaid parts ps) → AllSane ((if b then remark t ∷ remarks ts else remarks ts) ++ laid parts ∷ ps) → SaneLaid parts ps
    go true ih (sane_more p u) = ih u
    go false ih u = ih u

pub record FileAt (S : Settings) (text ws outline old new : List ℕ) (n feeds i o : ℕ) : Type 0 where
  pub fits : i ≤ length ws
  pub holds : Holds text (drop i ws)
  pub exact : (statements (drop o outline)).1 ≡ []
  pub sane : AllSane (pieces (statements (drop o outline)).0 (entries text (drop i ws)))
  pub done : List ℕ
  pub wrote : Wrote old (encode done) n new
  pub left : done ++ due_pieces S feeds (pieces (statements (drop o outline)).0 (entries text (drop i ws))) ≡ join_pieces S (pieces (statements outline).0 (entries text ws))

module _ (S : Settings) (text ws outline : List ℕ) where
  pub file_start : (old : List ℕ) → Holds text ws → (statements outline).1 ≡ [] → AllSane (pieces (statements outline).0 (entries text ws)) → FileAt S text ws outline old old 0 0 0 0
  unfolding encode
  file_start old h e s =
      record {
        fits = omega arith;
        holds = h;
        exact = e;
        sane = s;
        done = [];
        wrote = wrote-nil old;
        left = sym (pieces-joined S (pieces (statements outline).0 (entries text ws)));
      }

  module _ {old xs : List ℕ} {n feeds i o u v : ℕ} (a : FileAt S text ws outline old xs n feeds i o) (here : StatementAt outline o)
      (cu : CutHere text ws i u (get_or outline (o + 1) 0)) (cv : CutHere text ws (i + u) v (get_or outline (o + 2) 0)) where
    abbrev size : ℕ
    size = 2 * get_or outline (o + 3) 0

    abbrev before_words : List ℕ
    before_words = take (i + u - i) (drop i ws)

    abbrev own_words : List ℕ
    own_words = take (i + u + v - (i + u)) (drop (i + u) ws)

    abbrev part_words : List ℕ
    part_words = take (o + 4 + size - (o + 4)) (drop (o + 4) outline)

    abbrev own_parts : List (List Token)
    own_parts = parts_of (pairs part_words) (entries text own_words)

    abbrev rest : List Piece
    rest = pieces (statements (drop (o + 4 + size) outline)).0 (entries text (drop (i + u + v) ws))

    pieces_at : pieces (statements (drop o outline)).0 (entries text (drop i ws)) ≡ remarks (tokens text before_words) ++ laid own_parts ∷ rest
    unfolding pieces within beyond
    pieces_at =
        let start = get_or outline (o + 1) 0 in
        let stop = get_or outline (o + 2) 0 in
        let ps = entries text (drop i ws) in
        let first : tokens_at (up_to start ps) ≡ tokens text before_words = ap tokens_at (sym cu.before) ∙ entries-tokens text before_words in
        let own : up_to stop (from start ps) ≡ entries text own_words = ap (up_to stop) (sym cu.after) ∙ sym cv.before in
        let later : from stop (from start ps) ≡ entries text (drop (i + u + v) ws) = ap (from stop) (sym cu.after) ∙ sym cv.after in
        let count : size ≡ o + 4 + size - (o + 4) = omega arith in
        ap (λ (r : List Statement × List ℕ). pieces r.0 ps) here.read
        ∙ (λ j. remarks (first j) ++ laid (parts_of (pairs (take (count j) (drop (o + 4) outline))) (own j)) ∷ pieces (statements (drop (o + 4 + size) outline)).0 (later j))

    sane_here : SaneLaid own_parts rest
    sane_here = sane_statement (tokens text before_words) (subst AllSane pieces_at a.sane)

    pub next_parts : AllParts own_parts
    next_parts = sane_here.laid_out

    pub next_paired : Paired part_words
    next_paired =
        let f = here.fits in
        let l = length_part outline (o + 4) size f in
        record { count = get_or outline (o + 3) 0; words = l }

    pub next_before : Ready text ws → Ready text before_words
    next_before r = ready_part text ws i u cu.count r a.holds cu.words

    pub next_own : Ready text ws → Ready text own_words
    next_own r = ready_part text ws (i + u) v cv.count r cu.holds cv.words

    pub next_bounded : {p : Page} → Bounded p 0 (length ws) → Bounded p 0 (length own_words)
    next_bounded b = let l = length_part ws (i + u) v cv.fits in let f = cv.fits in bounded_less 0 (length own_words) b (omega arith)

    pub file_turn : {ys : List ℕ} {at r s : ℕ} → at ≡ min n (length xs) → length xs ≤ cap
        → Wrote (take (length xs - at) (drop at xs)) (encode (due_remarks feeds (tokens text before_words) ++ behind (remarks_due feeds (tokens text before_words)) (piece_text S (laid own_parts)))) r ys
        → s ≡ min (n + r) cap → FileAt S text ws outline old (put_mid at (length xs - at) xs ys) s 2 (i + u + v) (o + 4 + size)
    file_turn p k w z =
        let one = due_remarks feeds (tokens text before_words) ++ behind (remarks_due feeds (tokens text before_words)) (piece_text S (laid own_parts)) in
        record {
          fits = cv.fits;
          holds = cv.holds;
          exact = ap (λ (r : List Statement × List ℕ). r.1) (sym here.read) ∙ a.exact;
          sane = sane_here.rest;
          done = a.done ++ one;
          wrote = wrote_more a.done one a.wrote p k w z;
          left =
              append_assoc a.done one (due_pieces S 2 rest)
              ∙ ap (λ (l : List ℕ). a.done ++ l) (sym (pieces-statement S feeds (tokens text before_words) own_parts rest))
              ∙ ap (λ (ps : List Piece). a.done ++ due_pieces S feeds ps) (sym pieces_at)
              ∙ a.left;
        }

  -- behind the last statement stand comments
  pub file_last : {old xs ys : List ℕ} {n feeds i o at r due next s : ℕ} (a : FileAt S text ws outline old xs n feeds i o) → length outline ≤ o → at ≡ min n (length xs) → length xs ≤ cap
      → Due (due_remarks feeds (tokens text (take (length ws - i) (drop i ws)))) due (take (length xs - at) (drop at xs)) r next ys → s ≡ min (n + r) cap
      → Wrote old (encode (join_pieces S (pieces (statements outline).0 (entries text ws)))) s (put_mid at (length xs - at) xs ys)
  unfolding pieces statements cut cut_after
  file_last {feeds = feeds} {i = i} {o = o} a h p k w z =
      let words = take (length ws - i) (drop i ws) in
      let none : (statements (drop o outline)).0 ≡ [] = ap (λ (l : List ℕ). (statements l).0) (drop_of_length-le outline {i = o} h) in
      let same : tokens text words ≡ tokens_at (entries text (drop i ws)) = ap (tokens text) (part_rest ws i) ∙ sym (entries-tokens text (drop i ws)) in
      let all : pieces (statements (drop o outline)).0 (entries text (drop i ws)) ≡ remarks (tokens text words) =
      ap (λ (ss : List Statement). pieces ss (entries text (drop i ws))) none ∙ ap remarks (sym same) in
      wrote-same (ap encode (ap (λ (l : List ℕ). a.done ++ l) (sym (pieces_last S feeds (tokens text words))) ∙ ap (λ (ps : List Piece). a.done ++ due_pieces S feeds ps) (sym all) ∙ a.left))
      (wrote_more a.done (due_remarks feeds (tokens text words)) a.wrote p k w.wrote z)
