-- A statement's parts, laid out one after the other.
use Rattle.std.specs.Prelude.{if◌then◌else◌}
use mathlib.Core.Path.{◌≡◌, refl, sym, ◌∙◌, ap, subst}
use mathlib.Core.Bool.{Bool, true, false}
use mathlib.Core.List.{List, [], ◌∷◌, ◌++◌, append-nil, append_assoc}
use Prim.Native.Nat.{ℕ, suc, ◌+◌, ◌-◌, ◌*◌, ◌<◌, ◌≤◌, min}
use native.Mathlib.Numerals.{add-one, add-two}
use native.Mathlib.Omega.{arith}
use lib.Dec.{leb}
use lib.ListN.{length, take, drop, get_or, replicate, length-drop, drop_of_length-le}
use lib.Seq.{drop-cons, drop-drop}
use borrow.Author.Tests.{ltb-true, ltb-false}
use borrow.Rule.Slice.PartMut.{put_mid}
use Rattle.pen.specs.Over.{cap, Wrote}
use Rattle.pen.proofs.Laws.{wrote-nil, wrote-same}
use Rattle.dogwood_rules.specs.Basic.{trim, run_length}
use Rattle.dogwood_rules.specs.Utf8.{encode}
use Rattle.dogwood_rules.specs.Token.{Token, Placed, spell, tokens as tokens_at}
use Rattle.dogwood_rules.specs.Tree.{blank, joined, nothing, tokens_of, run_of, trim_run}
use Rattle.dogwood_rules.specs.Outline.{Span, up_to, from, within, beyond, parts_of}
use Rattle.dogwood_rules.specs.Layout.{Settings, walk, layout}
use Rattle.dogwood_rules.specs.File.{laid, add_line, part_lines, piece_text}
use Rattle.dogwood_rules.specs.Claims.{nonblank}
use Rattle.dogwood_rules.specs.Made.{layout_as}
use Rattle.dogwood_rules.proofs.Runs.{run_more}
use Rattle.dogwood_rules.proofs.Spelt.{AllFirm, firm_full}
use Rattle.dogwood_rules.proofs.Layouts.{Part, layered, nonblank-blank, nonblank_word}
use Rattle.dogwood_rules.proofs.Files.{AllParts, parts_more}
use Rattle.dogwood_layout.specs.declared.Page.{Page}
use Rattle.dogwood_layout.specs.Shape.{Formed}
use Rattle.dogwood_layout.specs.View.{tokens, Holds, Ready}
use Rattle.dogwood_layout.specs.Ends.{Whole, front_len}
use Rattle.dogwood_layout.specs.Choice.{is_filled}
use Rattle.dogwood_layout.specs.Pieces.{Bounded}
use Rattle.dogwood_layout.specs.Places.{entries, before_len, pairs, Paired}
use Rattle.dogwood_layout.specs.Feeds.{behind, due_lines, lines_due, Due}
use Rattle.dogwood_layout.proofs.Bytes.{encode-append}
use Rattle.dogwood_layout.proofs.Tables.{holds_length, holds_later, part_rest, ready_part}
use Rattle.dogwood_layout.proofs.Ends.{front_run, holds_whole}
use Rattle.dogwood_layout.proofs.Trims.{trim-tokens}
use Rattle.dogwood_layout.proofs.Splits.{trim_none}
use Rattle.dogwood_layout.proofs.Walks.{layout_trimmed}
use Rattle.dogwood_layout.proofs.Bounds.{length_part, bounded_less}
use Rattle.dogwood_layout.proofs.Forming.{formed}
use Rattle.dogwood_layout.proofs.Places.{entries-tokens, entries-up_to, entries_from, before_fits}
use Rattle.dogwood_layout.proofs.Dues.{encode_feeds, wrote_more, lines_more, lines-joined, line_added}

-- A part -------------------------------------------------------------------------------------------------------------------

-- white space has no layout
layout_none : (S : Settings) (ts : List Token) → Formed ts → length ts ≤ run_length blank ts → layout S 0 ts ≡ []
unfolding joined walk tokens_of
layout_none S ts f h = layout_trimmed S 0 ts f ∙ go (leb (S.indent * 0 + length (joined (trim blank ts))) S.width)
  where
    none : trim_run (run_of ts) ≡ nothing
    none = trim_none f.shaped (subst (λ (us : List Token). length us ≤ run_length blank us) (sym f.tokens) h)

    empty : trim blank ts ≡ []
    empty = ap (trim blank) (sym f.tokens) ∙ sym (trim-tokens f.shaped) ∙ ap tokens_of none

    go : (b : Bool) → (if b then joined (trim blank ts) else walk S 0 (S.indent * 0 + run_length blank ts) (trim_run (run_of ts))) ≡ []
    go true = ap joined empty
    go false = ap (walk S 0 (S.indent * 0 + run_length blank ts)) none

-- anything else has
some_nonblank : (ts : List Token) → run_length blank ts < length ts → nonblank ts ≡ [] → ⊥
some_nonblank [] h e = omega arith
some_nonblank (t ∷ ts) h e = go (blank t) refl (λ k. some_nonblank ts k)
  where
    go : (b : Bool) → blank t ≡ b → (run_length blank ts < length ts → nonblank ts ≡ [] → ⊥) → ⊥
    go true q ih =
        let m = run_more blank t ts q in
        ih (omega arith) (sym (nonblank-blank t ts q) ∙ e)
    go false q ih = let m = ap length (sym (nonblank_word t ts q) ∙ e) in omega arith

layout_some : (S : Settings) (ts : List Token) → Part ts → run_length blank ts < length ts → layout S 0 ts ≡ [] → ⊥
unfolding nonblank
layout_some S ts p h e =
    let l = layered S 0 ts p in
    go (layout_as S 0 ts) l.firm (λ z. some_nonblank ts h (sym l.same ∙ ap nonblank z)) (l.spelt ∙ e)
  where
    go : (os : List Token) → AllFirm os → (os ≡ [] → ⊥) → spell os ≡ [] → ⊥
    go [] a f z = f refl
    go (o ∷ os) a f z = firm_full o os a z

module _ (text ws : List ℕ) (h : Holds text ws) where
  filled_none : is_filled ws ≡ false → length (tokens text ws) ≤ run_length blank (tokens text ws)
  filled_none q =
      let a = front_run text ws in
      let l = holds_length text ws h in
      let m = ltb-false (3 * front_len ws) (length ws) q in
      omega arith

  filled_some : is_filled ws ≡ true → run_length blank (tokens text ws) < length (tokens text ws)
  filled_some q =
      let a = front_run text ws in
      let l = holds_length text ws h in
      let m = ltb-true (3 * front_len ws) (length ws) q in
      omega arith

  module _ (S : Settings) (p : Part (tokens text ws)) {b : Bool} (q : b ≡ is_filled ws) (n : ℕ) where
    abbrev line : List ℕ
    line = layout S 0 (tokens text ws)

    pub part_none : b ≡ false → (old : List ℕ) → Due (due_lines n (add_line line [])) (lines_due n (add_line line [])) old 0 n old
    unfolding due_lines lines_due add_line encode
    part_none z old =
        let e : line ≡ [] = layout_none S (tokens text ws) (formed (tokens text ws) p.sound p.balance) (filled_none (sym q ∙ z)) in
        subst (λ (l : List ℕ). Due (due_lines n (add_line l [])) (lines_due n (add_line l [])) old 0 n old) (sym e) (record { wrote = wrote-nil old; due = refl })

    pub part_written : b ≡ true → {count : ℕ} {old new : List ℕ} → Wrote old (replicate n 10 ++ encode line) count new
        → Due (due_lines n (add_line line [])) (lines_due n (add_line line [])) old count 1 new
    unfolding due_lines lines_due
    part_written z {count} {old} {new} w =
        let e : add_line line [] ≡ line ∷ [] = line_added line (layout_some S (tokens text ws) p (filled_some (sym q ∙ z))) in
        let same : replicate n 10 ++ encode line ≡ encode (behind n (line ++ [])) =
        ap (λ (l : List ℕ). l ++ encode line) (sym (encode_feeds n)) ∙ sym (encode-append (replicate n 10) line) ∙ ap (λ (l : List ℕ). encode (behind n l)) (sym (append-nil line)) in
        subst (λ (ls : List (List ℕ)). Due (due_lines n ls) (lines_due n ls) old count 1 new) (sym e) (record { wrote = wrote-same same w; due = refl })

-- A place in a table ---------------------------------------------------------------------------------------------------------

-- from word i on, u words stand before a place
pub record CutHere (text ws : List ℕ) (i u place : ℕ) : Type 0 where
  pub count : ℕ
  pub words : u ≡ 3 * count
  pub fits : i + u ≤ length ws
  pub holds : Holds text (drop (i + u) ws)
  pub before : entries text (take (i + u - i) (drop i ws)) ≡ up_to place (entries text (drop i ws))
  pub after : entries text (drop (i + u) ws) ≡ from place (entries text (drop i ws))

pub cut_here : (text ws : List ℕ) (i u place : ℕ) → Holds text (drop i ws) → i ≤ length ws → u ≡ 3 * before_len place (take (length ws - i) (drop i ws)) → CutHere text ws i u place
cut_here text ws i u place h k e =
    let count = before_len place (drop i ws) in
    let q : u ≡ 3 * count = e ∙ ap (λ (l : List ℕ). 3 * before_len place l) (part_rest ws i) in
    let b = before_fits place (drop i ws) in
    let l = length-drop i ws in
    let m : i + u - i ≡ 3 * count = omega arith in
    record {
      count = count;
      words = q;
      fits = omega arith;
      holds = holds_later text ws i u count q h;
      before = ap (λ (n : ℕ). entries text (take n (drop i ws))) m ∙ entries-up_to text (drop i ws) place;
      after = ap (λ (l : List ℕ). entries text l) (ap (λ (n : ℕ). drop (i + n) ws) q ∙ sym (drop-drop (3 * count) i ws)) ∙ entries_from text (drop i ws) place;
    }

-- the part from word i on is whole
pub rest_whole : (text ws : List ℕ) (i : ℕ) → Holds text (drop i ws) → Whole (take (length ws - i) (drop i ws))
rest_whole text ws i h = subst Whole (sym (part_rest ws i)) (holds_whole text (drop i ws) h)

-- The parts of a statement -----------------------------------------------------------------------------------------------------

pub record PartsAt (S : Settings) (text ws parts old new : List ℕ) (n feeds i j : ℕ) : Type 0 where
  pub fits : i ≤ length ws
  pub holds : Holds text (drop i ws)
  pub within : j ≤ length parts
  pub paired : Paired (drop j parts)
  pub all : AllParts (parts_of (pairs (drop j parts)) (entries text (drop i ws)))
  pub done : List ℕ
  pub wrote : Wrote old (encode done) n new
  pub left : done ++ due_lines feeds (part_lines S (parts_of (pairs (drop j parts)) (entries text (drop i ws)))) ≡ piece_text S (laid (parts_of (pairs parts) (entries text ws)))

-- a pair of words is left
pub pair_there : (parts : List ℕ) (j : ℕ) → Paired (drop j parts) → j < length parts → j + 1 < length parts
pair_there parts j p h = let w = p.words in let l = length-drop j parts in omega arith

abbrev span_at : List ℕ → ℕ → Span
span_at parts j = record { start = get_or parts j 0; stop = get_or parts (j + 1) 0 }

pairs_at : (parts : List ℕ) (j : ℕ) → j + 1 < length parts → pairs (drop j parts) ≡ span_at parts j ∷ pairs (drop (j + 2) parts)
unfolding pairs
pairs_at parts j h =
    ap pairs (drop-cons parts j 0 (omega arith) ∙ ap (λ (l : List ℕ). get_or parts j 0 ∷ l) (drop-cons parts (suc j) 0 (omega (arith, h))))
    ∙ (λ k. record { start = get_or parts j 0; stop = get_or parts (sym (add-one j) k) 0 } ∷ pairs (drop (sym (add-two j) k) parts))

parts_first : {ts : List Token} {ps : List (List Token)} → AllParts (ts ∷ ps) → Part ts × AllParts ps
parts_first (parts_more p a) = (p, a)

module _ (S : Settings) (text ws parts : List ℕ) where
  pub parts_start : (old : List ℕ) → Holds text ws → Paired parts → AllParts (parts_of (pairs parts) (entries text ws)) → PartsAt S text ws parts old old 0 0 0 0
  unfolding encode piece_text
  parts_start old h p a =
      record {
        fits = omega arith;
        holds = h;
        within = omega arith;
        paired = p;
        all = a;
        done = [];
        wrote = wrote-nil old;
        left = sym (lines-joined (part_lines S (parts_of (pairs parts) (entries text ws))));
      }

  -- the part between two places
  module _ {old xs : List ℕ} {n feeds i j u v : ℕ} (a : PartsAt S text ws parts old xs n feeds i j) (h : j < length parts)
      (cu : CutHere text ws i u (get_or parts j 0)) (cv : CutHere text ws (i + u) v (get_or parts (j + 1) 0)) where
    abbrev part_words : List ℕ
    part_words = take (i + u + v - (i + u)) (drop (i + u) ws)

    abbrev rest : List (List Token)
    rest = parts_of (pairs (drop (j + 2) parts)) (entries text (drop (i + u + v) ws))

    parts_at : parts_of (pairs (drop j parts)) (entries text (drop i ws)) ≡ tokens text part_words ∷ rest
    unfolding parts_of within beyond
    parts_at =
        let there = pair_there parts j a.paired h in
        let first : tokens_at (up_to (get_or parts (j + 1) 0) (from (get_or parts j 0) (entries text (drop i ws)))) ≡ tokens text part_words =
        ap (λ (ps : List Placed). tokens_at (up_to (get_or parts (j + 1) 0) ps)) (sym cu.after) ∙ ap tokens_at (sym cv.before) ∙ entries-tokens text part_words in
        let later : from (get_or parts (j + 1) 0) (from (get_or parts j 0) (entries text (drop i ws))) ≡ entries text (drop (i + u + v) ws) =
        ap (from (get_or parts (j + 1) 0)) (sym cu.after) ∙ sym cv.after in
        ap (λ (ss : List Span). parts_of ss (entries text (drop i ws))) (pairs_at parts j there)
        ∙ (λ k. first k ∷ parts_of (pairs (drop (j + 2) parts)) (later k))

    all_parts : Part (tokens text part_words) × AllParts rest
    all_parts = parts_first (subst AllParts parts_at a.all)

    pub part_here : Part (tokens text part_words)
    part_here = all_parts.0

    pub part_ready : Ready text ws → Ready text part_words
    part_ready r = ready_part text ws (i + u) v cv.count r cu.holds cv.words

    pub part_bounded : {p : Page} → Bounded p 0 (length ws) → Bounded p 0 (length part_words)
    part_bounded b = let l = length_part ws (i + u) v cv.fits in let f = cv.fits in bounded_less 0 (length part_words) b (omega arith)

    pub parts_turn : {ys : List ℕ} {at r next s : ℕ} → at ≡ min n (length xs) → length xs ≤ cap
        → Due (due_lines feeds (add_line (layout S 0 (tokens text part_words)) [])) (lines_due feeds (add_line (layout S 0 (tokens text part_words)) [])) (take (length xs - at) (drop at xs)) r next ys
        → s ≡ min (n + r) cap → PartsAt S text ws parts old (put_mid at (length xs - at) xs ys) s next (i + u + v) (j + 2)
    unfolding part_lines
    parts_turn {next = next} p k w z =
        let there = pair_there parts j a.paired h in
        let l = length-drop j parts in
        let m = length-drop (j + 2) parts in
        let pw = a.paired.words in
        let line = layout S 0 (tokens text part_words) in
        let one = due_lines feeds (add_line line []) in
        record {
          fits = cv.fits;
          holds = cv.holds;
          within = omega arith;
          paired = record { count = a.paired.count - 1; words = omega arith };
          all = all_parts.1;
          done = a.done ++ one;
          wrote = wrote_more a.done one a.wrote p k w.wrote z;
          left =
              append_assoc a.done one (due_lines next (part_lines S rest))
              ∙ ap (λ (x : ℕ). a.done ++ (one ++ due_lines x (part_lines S rest))) w.due
              ∙ ap (λ (x : List ℕ). a.done ++ x) (sym (lines_more feeds line (part_lines S rest)))
              ∙ ap (λ (ps : List (List Token)). a.done ++ due_lines feeds (part_lines S ps)) (sym parts_at)
              ∙ a.left;
        }

  pub parts_over : {old xs : List ℕ} {n feeds i j : ℕ} → PartsAt S text ws parts old xs n feeds i j → length parts ≤ j → Wrote old (encode (piece_text S (laid (parts_of (pairs parts) (entries text ws))))) n xs
  unfolding pairs parts_of part_lines due_lines
  parts_over {feeds = feeds} {i = i} {j = j} a h =
      let none : pairs (drop j parts) ≡ [] = ap pairs (drop_of_length-le parts {i = j} h) in
      wrote-same (ap encode (sym (append-nil a.done) ∙ ap (λ (ss : List Span). a.done ++ due_lines feeds (part_lines S (parts_of ss (entries text (drop i ws))))) (sym none) ∙ a.left)) a.wrote
