-- What each writer of the layout gives: a run, an item, a piece, a broken group.
use Rattle.std.specs.Prelude.{if◌then◌else◌}
use mathlib.Core.Path.{◌≡◌, refl, sym, ◌∙◌, ap, subst}
use mathlib.Core.Bool.{Bool, true, false, not, ◌||◌}
use mathlib.Core.List.{List, [], ◌∷◌, ◌++◌, append_assoc}
use Prim.Native.Nat.{ℕ, zero, suc, ◌+◌, ◌-◌, ◌*◌, ◌/◌, ◌<◌, ◌≤◌}
use native.Mathlib.Numerals.{add-one}
use native.Mathlib.Omega.{arith}
use lib.Dec.{leb}
use lib.ListN.{length, take, drop, replicate, length-append}
use borrow.Author.Tests.{leb-true, leb-false, le-leb, lt-leb}
use Rattle.pen.specs.Over.{Wrote}
use Rattle.pen.proofs.Laws.{wrote-same}
use Rattle.dogwood_rules.specs.Basic.{trim, run_length}
use Rattle.dogwood_rules.specs.Utf8.{bytes_of, encode}
use Rattle.dogwood_rules.specs.Token.{Token}
use Rattle.dogwood_rules.specs.Tree.{blank, shown, joined, Run, nothing, group, Items, tokens_of, items_of, run_of, trim_run}
use Rattle.dogwood_rules.specs.Layout.{Settings, column, walk, following, spaces, layout}
use Rattle.dogwood_layout.specs.declared.Entry.{Entry}
use Rattle.dogwood_layout.specs.declared.Page.{Page}
use Rattle.dogwood_layout.specs.declared.Span.{Span}
use Rattle.dogwood_layout.specs.Measure.{span_after}
use Rattle.dogwood_layout.specs.Shape.{Shaped, Formed}
use Rattle.dogwood_layout.specs.View.{entry_at, token_of, tokens, Ready}
use Rattle.dogwood_layout.specs.Ends.{front_len}
use Rattle.dogwood_layout.specs.Choice.{is_filled}
use Rattle.dogwood_layout.specs.Pieces.{Bounded, Measured, OnePiece, one_token, one_group, Broken, broken_group, piece_text, PieceLaid, broken_text, item_text, items_text}
use Rattle.dogwood_layout.proofs.Bytes.{encode-append}
use Rattle.dogwood_layout.proofs.Bounds.{length_part}
use Rattle.dogwood_layout.proofs.Tables.{holds_length, part_rest, ready_part}
use Rattle.dogwood_layout.proofs.Shapes.{run_from, opener_word, closer_word}
use Rattle.dogwood_layout.proofs.Trims.{trim-tokens}
use Rattle.dogwood_layout.proofs.Splits.{no_tokens}
use Rattle.dogwood_layout.proofs.Walks.{shown_text, layout_trimmed}
use Rattle.dogwood_layout.proofs.Lays.{RunAt, PieceHere, run_rest, run_follow}
use Rattle.dogwood_layout.proofs.Parts.{TrimmedHere, trimmed_run, trimmed_kept, trimmed_none, trimmed_some, GroupHere, group_here, group_inner, group_none, group_some, flat_some}
use Rattle.dogwood_layout.proofs.Groups.{item_none, item_line, broken_made, piece-token, piece-empty, piece-fits, piece_broken, broken_column, joined_bound, piece_far}

-- Indents ----------------------------------------------------------------------------------------------------------

mul-le : (i n d : ℕ) → i ≤ n → i * d ≤ n * d
mul-le zero n d h = omega arith
mul-le (suc i) zero d h = absurd (omega arith)
mul-le (suc i) (suc n) d h = let p = mul-le i n d (omega arith) in omega arith

-- no indent is wider than this
pub margin_bound : (i d : ℕ) → i ≤ 1024 → d ≤ 4194304 → i * d ≤ 4294967296
margin_bound i d h k = let m = mul-le i 1024 d h in omega arith

pub indent_bound : (p : Page) (d words : ℕ) → Bounded p d words → p.indent * d ≤ 4294967296
indent_bound p d words b = let k = b.deep in margin_bound p.indent d b.indent (omega arith)

-- no table's tokens are wider than this
pub width_bound : (text ws : List ℕ) (n : ℕ) → Ready text ws → {s : Span} → s ≡ span_after (record { width = 0; col = n }) (joined (tokens text ws)) → s.width ≤ 1099511627776
width_bound text ws n r {s} e =
    let w : s.width ≡ 0 + length (joined (tokens text ws)) = ap (λ (z : Span). z.width) e in
    let j = joined_bound text ws r.holds r.small in
    let k = r.short in
    omega arith

encode-spaces : (n : ℕ) → encode (replicate n 32) ≡ replicate n 32
unfolding encode bytes_of
encode-spaces zero = refl
encode-spaces (suc n) = ap (λ (l : List ℕ). 32 ∷ l) (encode-spaces n)

pub encode_line : (S : Settings) (d : ℕ) → encode (10 ∷ spaces S d) ≡ 10 ∷ replicate (S.indent * d) 32
unfolding encode bytes_of spaces
encode_line S d = ap (λ (l : List ℕ). 10 ∷ l) (encode-spaces (S.indent * d))

-- A run --------------------------------------------------------------------------------------------------------------

module _ (S : Settings) (d : ℕ) (text ws : List ℕ) (f : Formed (tokens text ws)) {a b : ℕ} (h : TrimmedHere text ws a b) where
  abbrev trimmed_tokens : List Token
  trimmed_tokens = tokens text (take (b - a) (drop a ws))

  by_width : (t : Bool) → leb (S.indent * d + length (joined trimmed_tokens)) S.width ≡ t
      → layout S d (tokens text ws) ≡ (if t then joined (trim blank (tokens text ws)) else walk S d (S.indent * d + run_length blank (tokens text ws)) (trim_run (run_of (tokens text ws))))
  by_width t e =
      layout_trimmed S d (tokens text ws) f
      ∙ ap (λ (z : Bool). if z then joined (trim blank (tokens text ws)) else walk S d (S.indent * d + run_length blank (tokens text ws)) (trim_run (run_of (tokens text ws))))
      (ap (λ (ts : List Token). leb (S.indent * d + length (joined ts)) S.width) (sym h.trims) ∙ e)

  pub run_measured : (n : ℕ) {s : Span} → s ≡ span_after (record { width = 0; col = n }) (joined trimmed_tokens) → Measured trimmed_tokens s.width
  run_measured n {s} e =
      let w : s.width ≡ 0 + length (joined trimmed_tokens) = ap (λ (z : Span). z.width) e in
      record { kept = trimmed_kept h; wide = omega arith }

  -- its flat text where that fits
  pub run_flat : (n : ℕ) {s : Span} → s ≡ span_after (record { width = 0; col = n }) (joined trimmed_tokens) → S.indent * d + s.width ≤ S.width
      → joined trimmed_tokens ≡ layout S d (tokens text ws)
  run_flat n {s} e k =
      let w : s.width ≡ 0 + length (joined trimmed_tokens) = ap (λ (z : Span). z.width) e in
      ap joined h.trims ∙ sym (by_width true (le-leb (S.indent * d + length (joined trimmed_tokens)) S.width (omega arith)))

  -- else the walk, which the white space before it has moved on by a column each
  pub run_walked : (n : ℕ) {s : Span} → s ≡ span_after (record { width = 0; col = n }) (joined trimmed_tokens) → S.width < S.indent * d + s.width
      → walk S d (S.indent * d + a / 3) (run_of trimmed_tokens) ≡ layout S d (tokens text ws)
  run_walked n {s} e k =
      let w : s.width ≡ 0 + length (joined trimmed_tokens) = ap (λ (z : Span). z.width) e in
      let l = h.lead in
      let q : a / 3 ≡ run_length blank (tokens text ws) = omega arith in
      (λ j. walk S d (S.indent * d + q j) (trimmed_run h j))
      ∙ sym (by_width false (lt-leb (S.indent * d + length (joined trimmed_tokens)) S.width (omega arith)))

  -- An item ----------------------------------------------------------------------------------------------------------

  pub item-nothing : a ≡ b → [] ≡ encode (item_text S d (run_of (tokens text ws)))
  unfolding encode
  item-nothing e = sym (ap encode (item_none S d (run_of (tokens text ws)) (trimmed_none h e)))

  pub item_written : (a ≡ b → ⊥) → (10 ∷ replicate (S.indent * d) 32) ++ encode (layout S d trimmed_tokens) ≡ encode (item_text S d (run_of (tokens text ws)))
  item_written k =
      (λ j. sym (encode_line S d) j ++ encode (layout S d (h.trims j)))
      ∙ sym (encode-append (10 ∷ spaces S d) (layout S d (trim blank (tokens text ws))))
      ∙ ap encode (sym (item_line S d (tokens text ws) f (trimmed_some h k)))

-- A piece --------------------------------------------------------------------------------------------------------------

pub piece-laid : {S : Settings} {d n m : ℕ} {u : Run} {cs : List ℕ} {s : Span} {old new : List ℕ} {k : ℕ}
    → piece_text S d n m u ≡ cs → s ≡ span_after (record { width = 0; col = n }) cs → Wrote old (encode cs) k new → PieceLaid S d n m u old k s.col new
piece-laid {n = n} e q w =
    record { wrote = wrote-same (ap encode (sym e)) w; column = ap (λ (z : Span). z.col) q ∙ ap (column n) (sym e) }

pub piece-single : (S : Settings) (d n m : ℕ) (text ws : List ℕ) → Ready text ws → {u : Run} → OnePiece u → tokens_of u ≡ tokens text ws → length ws ≡ 3
    → piece_text S d n m u ≡ joined (tokens text ws)
unfolding tokens_of
piece-single S d n m text ws r (one_token {t}) e l = piece-token S d n m t ∙ ap joined e
piece-single S d n m text ws r (one_group {o} {c} {inside} {is}) e l =
    absurd (let k = holds_length text ws r.holds in let p : suc (length (inside ++ (c ∷ []))) ≡ length (tokens text ws) = ap length e in let q = length-append inside (c ∷ []) in omega arith)

module _ (S : Settings) (d n m : ℕ) (text ws : List ℕ) {u : Run} (h : GroupHere text ws u) where
  abbrev group_tokens : List Token
  group_tokens = h.o ∷ (tokens_of h.inner ++ (h.c ∷ []))

  whole_tokens : tokens_of u ≡ group_tokens
  unfolding tokens_of
  whole_tokens = ap tokens_of h.whole

  open_word : blank h.o ≡ false
  open_word = (opener_word h.open_sound h.opens).0

  close_word : blank h.c ≡ false
  close_word = (closer_word h.close_sound h.closes).0

  -- a group stays flat that has nothing inside, or fits
  pub group_stays : tokens_of u ≡ tokens text ws → {s : Span} → s ≡ span_after (record { width = 0; col = n }) (joined (tokens text ws)) → {b : Bool} → b ≡ is_filled (take (length ws - 3 - 3) (drop 3 ws))
      → (not b || leb (n + s.width + m) S.width) ≡ true → piece_text S d n m u ≡ joined (tokens text ws)
  unfolding tokens_of
  group_stays e {s} q {b} g t = ap (piece_text S d n m) h.whole ∙ go b refl (leb (n + s.width + m) S.width) refl t ∙ ap joined (sym whole_tokens ∙ e)
    where
      w : s.width ≡ 0 + length (joined group_tokens)
      w = ap (λ (z : Span). z.width) q ∙ ap (λ (ts : List Token). 0 + length (joined ts)) (sym e ∙ whole_tokens)

      go : (x : Bool) → b ≡ x → (y : Bool) → leb (n + s.width + m) S.width ≡ y → (not x || y) ≡ true
          → piece_text S d n m (group h.o (tokens_of h.inner) (items_of h.inner) h.c nothing) ≡ joined group_tokens
      go false p y k v =
          piece-empty S d n m h.o h.c (tokens_of h.inner) (items_of h.inner) open_word close_word
          (sym (trim-tokens h.shaped) ∙ ap tokens_of (group_none h (sym g ∙ p)))
      go true p true k v =
          let l = leb-true (n + s.width + m) S.width k in
          piece-fits S d n m h.o h.c (tokens_of h.inner) (items_of h.inner) open_word close_word (omega (arith, w))
      go true p false k v = absurd (let z : ◌≡◌ {A = ℕ} 0 1 = cc in omega arith)

  -- any other is broken
  pub group_breaks : tokens_of u ≡ tokens text ws → {s : Span} → s ≡ span_after (record { width = 0; col = n }) (joined (tokens text ws)) → {b : Bool} → b ≡ is_filled (take (length ws - 3 - 3) (drop 3 ws))
      → (not b || leb (n + s.width + m) S.width) ≡ false → Broken u × (piece_text S d n m u ≡ broken_text S d u)
  unfolding tokens_of
  group_breaks e {s} q {b} g t = go b refl (leb (n + s.width + m) S.width) refl t
    where
      w : s.width ≡ 0 + length (joined group_tokens)
      w = ap (λ (z : Span). z.width) q ∙ ap (λ (ts : List Token). 0 + length (joined ts)) (sym e ∙ whole_tokens)

      go : (x : Bool) → b ≡ x → (y : Bool) → leb (n + s.width + m) S.width ≡ y → (not x || y) ≡ false → Broken u × (piece_text S d n m u ≡ broken_text S d u)
      go false p y k v = absurd (let z : ◌≡◌ {A = ℕ} 0 1 = cc in omega arith)
      go true p true k v = absurd (let z : ◌≡◌ {A = ℕ} 0 1 = cc in omega arith)
      go true p false k v =
          let l = leb-false (n + s.width + m) S.width k in
          let some = group_some h (sym g ∙ p) in (
            subst Broken (sym h.whole) (broken_group (λ z. some (no_tokens (trim_run h.inner) (trim-tokens h.shaped ∙ z)))),
            ap (piece_text S d n m) h.whole
                ∙ piece_broken S d n m h.o h.c (tokens_of h.inner) (items_of h.inner) open_word close_word (flat_some h.shaped some) (omega (arith, w))
                ∙ ap (broken_text S d) (sym h.whole),
          )

  pub group-laid : piece_text S d n m u ≡ broken_text S d u → {old new : List ℕ} {k : ℕ} → Wrote old (encode (broken_text S d u)) k new → PieceLaid S d n m u old k (S.indent * d + 1) new
  group-laid e w =
      record {
        wrote = wrote-same (ap encode (sym e)) w;
        column =
            sym (broken_column S d n h.o h.c (tokens_of h.inner) (items_of h.inner) nothing h.closes)
            ∙ ap (λ (v : Run). column n (broken_text S d v)) (sym h.whole)
            ∙ ap (column n) (sym e);
      }

-- A broken group -----------------------------------------------------------------------------------------------------------

pub broken_here : (text ws : List ℕ) → Ready text ws → {u : Run} → Shaped u → Broken u → tokens_of u ≡ tokens text ws → GroupHere text ws u
unfolding tokens_of
broken_here text ws r s b e = group_here text ws r s (one b) e (λ l. long b e l)
  where
    one : {v : Run} → Broken v → OnePiece v
    one (broken_group k) = one_group

    long : {v : Run} → Broken v → tokens_of v ≡ tokens text ws → length ws ≡ 3 → ⊥
    long (broken_group {o} {c} {inside} k) q l =
        let m = holds_length text ws r.holds in
        let p : suc (length (inside ++ (c ∷ []))) ≡ length (tokens text ws) = ap length q in
        let a = length-append inside (c ∷ []) in
        omega arith

broken_inside : {o c : Token} {inside : List Token} {is : Items} → Broken (group o inside is c nothing) → trim blank inside ≡ [] → ⊥
broken_inside (broken_group k) = k

pub group_written : (S : Settings) (d : ℕ) (text ws : List ℕ) {u : Run} (h : GroupHere text ws u) → Broken u → {e0 e1 : Entry} → e0 ≡ entry_at ws 0 → e1 ≡ entry_at ws (length ws - 3)
    → (encode (shown (token_of text e0)) ++ encode (items_text S (d + 1) (run_of (tokens text (take (length ws - 3 - 3) (drop 3 ws)))))) ++ ((10 ∷ replicate (S.indent * d) 32) ++ encode (shown (token_of text e1)))
    ≡ encode (broken_text S d u)
unfolding tokens_of
group_written S d text ws {u} h b {e0} {e1} p q =
    let o = h.o.text in
    let c = h.c.text in
    let is = items_text S (suc d) h.inner in
    let so : shown (token_of text e0) ≡ o = ap shown (ap (token_of text) p ∙ h.first) ∙ shown_text h.o (opener_word h.open_sound h.opens).0 in
    let sc : shown (token_of text e1) ≡ c = ap shown (ap (token_of text) q ∙ h.last) ∙ shown_text h.c (closer_word h.close_sound h.closes).0 in
    let some : trim_run h.inner ≡ nothing → ⊥ = λ z. broken_inside (subst Broken h.whole b) (sym (trim-tokens h.shaped) ∙ ap tokens_of z) in
    (λ j. (encode (so j) ++ encode (items_text S (add-one d j) (group_inner h j))) ++ (sym (encode_line S d) j ++ encode (sc j)))
    ∙ sym (append_assoc (encode o ++ encode is) (encode (10 ∷ spaces S d)) (encode c))
    ∙ (λ j. (sym (encode-append o is) j ++ encode (10 ∷ spaces S d)) ++ encode c)
    ∙ ap (λ (l : List ℕ). l ++ encode c) (sym (encode-append (o ++ is) (10 ∷ spaces S d)))
    ∙ sym (encode-append ((o ++ is) ++ (10 ∷ spaces S d)) c)
    ∙ ap encode (sym (broken_made S d h.o h.c h.inner nothing some))
    ∙ ap (λ (v : Run). encode (broken_text S d v)) (sym h.whole)

-- The walk over a run ----------------------------------------------------------------------------------------------------------

module _ (S : Settings) (d start : ℕ) (text ws : List ℕ) {i m n col rest : ℕ} {old xs : List ℕ} (a : RunAt S d start text ws old xs n i col rest) (h : PieceHere S text ws i m a.at.run) where
  abbrev piece_words : List ℕ
  piece_words = take (i + m - i) (drop i ws)

  -- the carried width, less the piece and the white space behind it, is what follows
  pub carried : {s : Span} → s ≡ span_after (record { width = 0; col = col }) (joined (tokens text piece_words)) → {l : ℕ} → l ≡ 3 * front_len (take (length ws - (i + m)) (drop (i + m) ws))
      → (l / 3 ≤ rest - s.width) × (rest - s.width - l / 3 ≡ following S h.first.tail) × (rest - s.width ≡ rest - length (joined (tokens text piece_words)))
  carried {s} e {l} q =
      let w : s.width ≡ 0 + length (joined (tokens text piece_words)) = ap (λ (z : Span). z.width) e in
      let r = run_rest S d start text ws a h in
      let f = run_follow S d start text ws a h in
      let k : l ≡ 3 * front_len (drop (i + m) ws) = q ∙ ap (λ (x : List ℕ). 3 * front_len x) (part_rest ws (i + m)) in
      let v : l / 3 ≡ front_len (drop (i + m) ws) = omega arith in
      (omega arith, omega arith, omega arith)

  -- the column behind the piece stays small
  pub piece_bound : Ready text ws → S.indent * d ≤ 4294967296 → {follow col2 r : ℕ} {ys zs : List ℕ} → PieceLaid S d col follow (run_of (tokens text piece_words)) ys r col2 zs
      → 3 * col2 ≤ 0x6_0000_0000_0000 + 1048576 * (i + m)
  piece_bound k b {follow} {col2} w =
      let one = h.first.one in
      let q : run_of (tokens text piece_words) ≡ one = run_from h.first.one_shaped h.one_tokens in
      let c : col2 ≡ column col (piece_text S d col follow one) = w.column ∙ ap (λ (u : Run). column col (piece_text S d col follow u)) q in
      let l = length_part ws i m h.fits in
      let p = joined_bound text piece_words (ready_part text ws i m h.count k a.at.holds h.words).holds k.small in
      let t : length (joined (tokens_of one)) ≡ length (joined (tokens text piece_words)) = ap (λ (ts : List Token). length (joined ts)) h.one_tokens in
      let f = a.far in
      let far = piece_far S d col follow (0x6_0000_0000_0000 + 1048576 * i) (1048576 * m) h.first.one_shaped h.first.piece f (omega arith) (omega arith) in
      omega arith
