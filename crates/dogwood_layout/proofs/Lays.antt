-- Where the two loops of the layout stand, and the parts of a run.
use Rattle.std.specs.Prelude.{if◌then◌else◌}
use mathlib.Core.Path.{◌≡◌, refl, sym, ◌∙◌, ap, subst}
use mathlib.Core.Bool.{Bool}
use mathlib.Core.List.{List, [], ◌∷◌, ◌++◌, append-nil, append_assoc}
use Prim.Native.Nat.{ℕ, suc, ◌+◌, ◌-◌, ◌*◌, ◌<◌, ◌≤◌, min}
use native.Mathlib.Omega.{arith}
use lib.ListN.{length, take, drop, length-append, length-drop}
use lib.Seq.{take-append_seam, drop-append_seam}
use borrow.Rule.Slice.PartMut.{put_mid}
use Rattle.pen.specs.Over.{cap, Wrote}
use Rattle.pen.proofs.Laws.{wrote_then, wrote-nil, wrote-same}
use Rattle.dogwood_rules.specs.Basic.{drop_back}
use Rattle.dogwood_rules.specs.Utf8.{encode}
use Rattle.dogwood_rules.specs.Token.{Token}
use Rattle.dogwood_rules.specs.Tree.{blank, joined, flat, items_of, Run, nothing, single, group, Items, end, tokens_of, run_of, add_item, tidy, trim_run, trim_left, trim_right}
use Rattle.dogwood_rules.specs.Layout.{Settings, column, walk, lines, following, spaces, fit_or}
use Rattle.dogwood_layout.specs.Shape.{Shaped, shaped_nothing, shaped_single, shaped_group, Formed}
use Rattle.dogwood_layout.specs.Choice.{cuts_of, chosen}
use Rattle.dogwood_layout.specs.Pieces.{each_line, item_text, items_text, piece_len, Measured, OnePiece, one_token, one_group, piece_text, PieceLaid}
use Rattle.dogwood_layout.specs.View.{tokens, Ready}
use Rattle.dogwood_layout.specs.Ends.{front_len}
use Rattle.dogwood_layout.specs.Scan.{group_len}
use Rattle.dogwood_layout.proofs.Bytes.{encode-append}
use Rattle.dogwood_layout.proofs.Shapes.{run_from, group-size}
use Rattle.dogwood_layout.proofs.Splits.{ItemsAt, items_start, ItemHere, no_tokens}
use Rattle.dogwood_layout.proofs.Tables.{no_words, part_rest, holds_length, tokens-part, tokens-later, holds_later}
use Rattle.dogwood_layout.proofs.Ends.{front_run}
use Rattle.dogwood_layout.proofs.Trims.{back_tail}
use Rattle.dogwood_layout.proofs.Walks.{joined-append, flat_width}

-- The items of an inside ------------------------------------------------------------------------------------------

pub record LinesAt (S : Settings) (d : ℕ) (text ws : List ℕ) (set : ℕ) (old new : List ℕ) (n i : ℕ) : Type 0 where
  pub at : ItemsAt text ws i
  pub done : List ℕ
  pub wrote : Wrote old done n new
  pub left : done ++ encode (each_line (lines S d (tidy (cuts_of set at.run)))) ≡ encode (each_line (lines S d (tidy (cuts_of set (run_of (tokens text ws))))))

-- The walk over a run -----------------------------------------------------------------------------------------------

pub record RunAt (S : Settings) (d start : ℕ) (text ws old new : List ℕ) (n i col rest : ℕ) : Type 0 where
  pub at : ItemsAt text ws i
  pub done : List ℕ
  pub wrote : Wrote old done n new
  pub left : done ++ encode (walk S d col at.run) ≡ encode (walk S d start (run_of (tokens text ws)))
  pub kept : drop_back blank (tokens text (drop i ws)) ≡ tokens text (drop i ws)
  pub wide : rest ≡ length (joined (tokens text (drop i ws)))
  pub far : 3 * col ≤ 0x6_0000_0000_0000 + 1048576 * i

-- Lines ---------------------------------------------------------------------------------------------------------------

line_add : (l m : List ℕ) → (10 ∷ l) ++ m ≡ ((10 ∷ l) ++ []) ++ m
line_add l m = ap (λ (x : List ℕ). x ++ m) (sym (append-nil (10 ∷ l)))

pub lines_add : (S : Settings) (d : ℕ) (r : Run) (is : Items) → each_line (lines S d (add_item r is)) ≡ each_line (lines S d (add_item r end)) ++ each_line (lines S d is)
unfolding add_item lines each_line
lines_add S d nothing is = refl
lines_add S d (single t r) is = line_add (spaces S d ++ fit_or S d (tokens_of (single t r)) (walk S d (S.indent * d) (single t r))) (each_line (lines S d is))
lines_add S d (group o inside js c r) is = line_add (spaces S d ++ fit_or S d (tokens_of (group o inside js c r)) (walk S d (S.indent * d) (group o inside js c r))) (each_line (lines S d is))

module _ (S : Settings) (d : ℕ) (text ws : List ℕ) where
  pub lines_start : (old : List ℕ) → Ready text ws → Formed (tokens text ws) → LinesAt S d text ws (chosen (run_of (tokens text ws))) old old 0 0
  lines_start old r f = record { at = items_start text ws r f; done = []; wrote = wrote-nil old; left = refl }

  -- the item at word i is written: what its table's tokens give
  pub lines_turn : {set n i m : ℕ} {old xs ys : List ℕ} {at r s : ℕ} (a : LinesAt S d text ws set old xs n i) (h : ItemHere text ws set i m a.at.run)
      → at ≡ min n (length xs) → length xs ≤ cap
      → Wrote (take (length xs - at) (drop at xs)) (encode (item_text S d (run_of (tokens text (take (i + m - i) (drop i ws)))))) r ys → s ≡ min (n + r) cap
      → LinesAt S d text ws set old (put_mid at (length xs - at) xs ys) s (i + m)
  unfolding item_text
  lines_turn {set} {n} {i} {m} a h p k w e =
      let q : run_of (tokens text (take (i + m - i) (drop i ws))) ≡ h.first.head = run_from h.first.head_shaped h.head_tokens in
      let one = encode (item_text S d h.first.head) in
      let rest = each_line (lines S d (tidy (cuts_of set h.first.tail))) in
      let both : one ++ encode rest ≡ encode (each_line (lines S d (tidy (cuts_of set a.at.run)))) =
      sym (encode-append (item_text S d h.first.head) rest)
      ∙ ap encode (sym (lines_add S d (trim_run h.first.head) (tidy (cuts_of set h.first.tail))))
      ∙ ap (λ (is : Items). encode (each_line (lines S d is))) (sym h.first.items) in
      record {
        at = h.next;
        done = a.done ++ one;
        wrote = wrote_then a.wrote p k (wrote-same (ap (λ (u : Run). encode (item_text S d u)) q) w) e;
        left =
            ap (λ (u : Run). (a.done ++ one) ++ encode (each_line (lines S d (tidy (cuts_of set u))))) h.next_run
            ∙ append_assoc a.done one (encode rest)
            ∙ ap (λ (l : List ℕ). a.done ++ l) both
            ∙ a.left;
      }

  pub lines_end : {set n i : ℕ} {old xs : List ℕ} → set ≡ chosen (run_of (tokens text ws)) → LinesAt S d text ws set old xs n i → length ws ≤ i → Wrote old (encode (items_text S d (run_of (tokens text ws)))) n xs
  unfolding items_text cuts_of tidy add_item trim_run trim_left trim_right lines each_line encode
  lines_end {set} {n} {i} e a h =
      let z : a.at.run ≡ nothing = no_tokens a.at.run (a.at.tokens ∙ no_words text ws i h) in
      let y : a.done ≡ encode (each_line (lines S d (tidy (cuts_of set (run_of (tokens text ws)))))) =
      sym (append-nil a.done) ∙ ap (λ (u : Run). a.done ++ encode (each_line (lines S d (tidy (cuts_of set u))))) (sym z) ∙ a.left in
      wrote-same (y ∙ ap (λ (k : ℕ). encode (each_line (lines S d (tidy (cuts_of k (run_of (tokens text ws))))))) e) a.wrote

-- The first piece of a run ---------------------------------------------------------------------------------------------

pub record Piece (S : Settings) (r : Run) : Type 0 where
  pub one : Run
  pub tail : Run
  pub one_shaped : Shaped one
  pub tail_shaped : Shaped tail
  pub piece : OnePiece one
  pub tokens : tokens_of r ≡ tokens_of one ++ tokens_of tail
  pub size : piece_len (tokens_of r) ≡ length (tokens_of one)
  pub walks : (d n : ℕ) → walk S d n r ≡ piece_text S d n (following S tail) one ++ walk S d (column n (piece_text S d n (following S tail) one)) tail

pub first_piece : (S : Settings) {r : Run} → Shaped r → (r ≡ nothing → ⊥) → Piece S r
unfolding piece_text piece_len walk tokens_of
first_piece S shaped_nothing h = absurd (h refl)
first_piece S (shaped_single {t} {r} o c s k) h =
    record {
      one = single t nothing;
      tail = r;
      one_shaped = shaped_single o c s shaped_nothing;
      tail_shaped = k;
      piece = one_token;
      tokens = refl;
      size = ap (λ (b : Bool). if b then group_len 0 (t ∷ tokens_of r) else 1) o;
      walks = λ d n. refl;
    }
first_piece S (shaped_group {o} {c} {i} {r} oo so oc cl sc hi k) h =
    let l : length (o ∷ (tokens_of i ++ (c ∷ []))) ≡ suc (length (tokens_of i) + 1) = ap suc (length-append (tokens_of i) (c ∷ [])) in
    let g = group-size o c (tokens_of r) oo oc cl hi in
    let q : length (tokens_of i) + 2 ≡ length (o ∷ (tokens_of i ++ (c ∷ []))) = omega arith in
    record {
      one = group o (tokens_of i) (items_of i) c nothing;
      tail = r;
      one_shaped = shaped_group oo so oc cl sc hi shaped_nothing;
      tail_shaped = k;
      piece = one_group;
      tokens = ap (λ (ts : List Token). o ∷ ts) (sym (append_assoc (tokens_of i) (c ∷ []) (tokens_of r)));
      size = ap (λ (b : Bool). if b then group_len 0 (o ∷ (tokens_of i ++ (c ∷ tokens_of r))) else 1) oo ∙ g ∙ q;
      walks = λ d n. refl;
    }

-- what has nothing to drop at its end has nothing to drop there without its front
kept_tail : (xs ys : List Token) → drop_back blank (xs ++ ys) ≡ xs ++ ys → drop_back blank ys ≡ ys
kept_tail [] ys e = e
kept_tail (x ∷ xs) ys e = kept_tail xs ys (back_tail blank x (xs ++ ys) e)

pub one_some : {u : Run} → OnePiece u → 0 < length (tokens_of u)
unfolding tokens_of
one_some one_token = omega arith
one_some (one_group {o} {c} {inside}) = omega arith

-- the piece at word i, m words long
pub record PieceHere (S : Settings) (text ws : List ℕ) (i m : ℕ) (run : Run) : Type 0 where
  pub first : Piece S run
  pub count : ℕ
  pub words : m ≡ 3 * count
  pub some : 0 < m
  pub fits : i + m ≤ length ws
  pub one_tokens : tokens_of first.one ≡ tokens text (take (i + m - i) (drop i ws))
  pub next : ItemsAt text ws (i + m)
  pub next_run : next.run ≡ first.tail

pub piece_here : (S : Settings) (text ws : List ℕ) (i m : ℕ) (a : ItemsAt text ws i) → i < length ws → m ≡ 3 * piece_len (tokens text (take (length ws - i) (drop i ws)))
    → PieceHere S text ws i m a.run
unfolding tokens_of
piece_here S text ws i m a h e =
    let f = first_piece S a.shaped full in
    let n = length (tokens_of f.one) in
    let p : m ≡ 3 * n = e ∙ ap (λ (ts : List Token). 3 * piece_len ts) (ap (tokens text) (part_rest ws i) ∙ sym a.tokens) ∙ ap (λ (k : ℕ). 3 * k) f.size in
    let l = holds_length text (drop i ws) a.holds in
    let d = length-drop i ws in
    let t : length (tokens text (drop i ws)) ≡ n + length (tokens_of f.tail) = ap length (sym a.tokens ∙ f.tokens) ∙ length-append (tokens_of f.one) (tokens_of f.tail) in
    let z : 0 < n = one_some f.piece in
    record {
      first = f;
      count = n;
      words = p;
      some = omega arith;
      fits = omega arith;
      one_tokens = sym (tokens-part text ws i m n p ∙ ap (take n) (sym a.tokens ∙ f.tokens) ∙ take-append_seam (tokens_of f.one) (tokens_of f.tail));
      next = record {
        fits = omega arith;
        holds = holds_later text ws i m n p a.holds;
        run = f.tail;
        shaped = f.tail_shaped;
        tokens = sym (tokens-later text ws i m n p ∙ ap (drop n) (sym a.tokens ∙ f.tokens) ∙ drop-append_seam (tokens_of f.one) (tokens_of f.tail));
      };
      next_run = refl;
    }
  where
    full : a.run ≡ nothing → ⊥
    full q =
        let l = holds_length text (drop i ws) a.holds in
        let d = length-drop i ws in
        let t : length (tokens text (drop i ws)) ≡ 0 = ap length (sym a.tokens ∙ ap tokens_of q) in
        omega arith

-- The walk: start, turn, end ------------------------------------------------------------------------------------------------

module _ (S : Settings) (d start : ℕ) (text ws : List ℕ) where
  pub run_start : (old : List ℕ) {width : ℕ} → Ready text ws → Formed (tokens text ws) → Measured (tokens text ws) width → start ≤ 0x1_0000_0000_0000
      → RunAt S d start text ws old old 0 0 start width
  run_start old r f k h =
      record { at = items_start text ws r f; done = []; wrote = wrote-nil old; left = refl; kept = k.kept; wide = k.wide; far = omega arith }

  -- the width of what follows a piece
  pub run_rest : {i m n col rest : ℕ} {old xs : List ℕ} (a : RunAt S d start text ws old xs n i col rest) (h : PieceHere S text ws i m a.at.run)
      → rest ≡ length (joined (tokens text (take (i + m - i) (drop i ws)))) + length (joined (tokens text (drop (i + m) ws)))
  run_rest {i} {m} a h =
      let e : tokens text (drop i ws) ≡ tokens text (take (i + m - i) (drop i ws)) ++ tokens text (drop (i + m) ws) =
      sym a.at.tokens ∙ h.first.tokens ∙ (λ j. h.one_tokens j ++ (ap tokens_of (sym h.next_run) ∙ h.next.tokens) j) in
      a.wide ∙ ap (λ (ts : List Token). length (joined ts)) e ∙ ap length (joined-append (tokens text (take (i + m - i) (drop i ws))) (tokens text (drop (i + m) ws))) ∙ length-append (joined (tokens text (take (i + m - i) (drop i ws)))) (joined (tokens text (drop (i + m) ws)))

  run_kept : {i m n col rest : ℕ} {old xs : List ℕ} (a : RunAt S d start text ws old xs n i col rest) (h : PieceHere S text ws i m a.at.run)
      → drop_back blank (tokens text (drop (i + m) ws)) ≡ tokens text (drop (i + m) ws)
  run_kept {i} {m} a h =
      let e : tokens text (drop i ws) ≡ tokens text (take (i + m - i) (drop i ws)) ++ tokens text (drop (i + m) ws) =
      sym a.at.tokens ∙ h.first.tokens ∙ (λ j. h.one_tokens j ++ (ap tokens_of (sym h.next_run) ∙ h.next.tokens) j) in
      kept_tail (tokens text (take (i + m - i) (drop i ws))) (tokens text (drop (i + m) ws)) (subst (λ (ts : List Token). drop_back blank ts ≡ ts) e a.kept)

  -- what is left of the width, less the white space at the front, is what follows
  pub run_follow : {i m n col rest : ℕ} {old xs : List ℕ} (a : RunAt S d start text ws old xs n i col rest) (h : PieceHere S text ws i m a.at.run)
      → following S h.first.tail + front_len (drop (i + m) ws) ≡ length (joined (tokens text (drop (i + m) ws)))
  unfolding following
  run_follow {i} {m} a h =
      let t : tokens_of h.first.tail ≡ tokens text (drop (i + m) ws) = ap tokens_of (sym h.next_run) ∙ h.next.tokens in
      let f = front_run text (drop (i + m) ws) in
      let g = flat_width (tokens text (drop (i + m) ws)) (run_kept a h) in
      let k : length (flat (tokens_of h.first.tail)) ≡ length (flat (tokens text (drop (i + m) ws))) = ap (λ (ts : List Token). length (flat ts)) t in
      omega arith

  pub run_turn : {i m n col col2 rest rest2 follow at r s : ℕ} {old xs ys : List ℕ} (a : RunAt S d start text ws old xs n i col rest) (h : PieceHere S text ws i m a.at.run)
      → rest2 ≡ rest - length (joined (tokens text (take (i + m - i) (drop i ws)))) → follow ≡ following S h.first.tail
      → at ≡ min n (length xs) → length xs ≤ cap
      → PieceLaid S d col follow (run_of (tokens text (take (i + m - i) (drop i ws)))) (take (length xs - at) (drop at xs)) r col2 ys → s ≡ min (n + r) cap
      → 3 * col2 ≤ 0x6_0000_0000_0000 + 1048576 * (i + m)
      → RunAt S d start text ws old (put_mid at (length xs - at) xs ys) s (i + m) col2 rest2
  run_turn {i} {m} {n} {col} {col2} {rest} {rest2} {follow} a h er ef p k w e far =
      let q : run_of (tokens text (take (i + m - i) (drop i ws))) ≡ h.first.one = run_from h.first.one_shaped h.one_tokens in
      let this = piece_text S d col (following S h.first.tail) h.first.one in
      let same : piece_text S d col follow (run_of (tokens text (take (i + m - i) (drop i ws)))) ≡ this = λ j. piece_text S d col (ef j) (q j) in
      let c : col2 ≡ column col this = w.column ∙ ap (column col) same in
      let rr = run_rest a h in
      record {
        at = h.next;
        done = a.done ++ encode this;
        wrote = wrote_then a.wrote p k (wrote-same (ap encode same) w.wrote) e;
        left =
            (λ j. (a.done ++ encode this) ++ encode (walk S d (c j) (h.next_run j)))
            ∙ append_assoc a.done (encode this) (encode (walk S d (column col this) h.first.tail))
            ∙ ap (λ (l : List ℕ). a.done ++ l) (sym (encode-append this (walk S d (column col this) h.first.tail)) ∙ ap encode (sym (h.first.walks d col)))
            ∙ a.left;
        kept = run_kept a h;
        wide = omega arith;
        far = far;
      }

  pub run_end : {n i col rest : ℕ} {old xs : List ℕ} → RunAt S d start text ws old xs n i col rest → length ws ≤ i → Wrote old (encode (walk S d start (run_of (tokens text ws)))) n xs
  unfolding walk encode
  run_end {n} {i} {col} a h =
      let z : a.at.run ≡ nothing = no_tokens a.at.run (a.at.tokens ∙ no_words text ws i h) in
      wrote-same (sym (append-nil a.done) ∙ ap (λ (u : Run). a.done ++ encode (walk S d col u)) (sym z) ∙ a.left) a.wrote
