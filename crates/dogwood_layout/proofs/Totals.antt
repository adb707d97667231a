-- The layout of a whole file is so short that no count of its bytes reaches the cap.
use Rattle.std.specs.Prelude.{if◌then◌else◌}
use mathlib.Core.Path.{◌≡◌, refl, sym, ◌∙◌, ap, subst}
use mathlib.Core.Bool.{Bool, true, false}
use mathlib.Core.List.{List, [], ◌∷◌, ◌++◌, append-nil}
use Prim.Native.Nat.{ℕ, ◌+◌, ◌-◌, ◌*◌, ◌<◌, ◌≤◌}
use native.Mathlib.Omega.{arith}
use lib.ListN.{length, replicate, length-append, length-replicate}
use Rattle.pen.specs.Over.{cap, Wrote}
use Rattle.dogwood_rules.specs.Basic.{drop_back}
use Rattle.dogwood_rules.specs.Utf8.{encode}
use Rattle.dogwood_rules.specs.Token.{Token, Kind, Whitespace, Comment, String, Identifier, Number, Symbol, Other, Placed, white, tokens as tokens_at}
use Rattle.dogwood_rules.specs.Tree.{blank, comment, is_whitespace, is_comment, shown}
use Rattle.dogwood_rules.specs.Outline.{Span, Statement, statements, up_to, within, beyond, parts_of}
use Rattle.dogwood_rules.specs.Layout.{layout}
use Rattle.dogwood_rules.specs.File.{laid, pieces, add_line, part_lines, piece_text, join_pieces}
use Rattle.dogwood_rules.specs.Claims.{nonblank}
use Rattle.dogwood_rules.proofs.Wholes.{encode-length}
use Rattle.dogwood_rules.proofs.Pieces.{span_tokens}
use Rattle.dogwood_rules.proofs.Files.{words_all, AllParts, parts_more, AllSane}
use Rattle.dogwood_layout.specs.declared.Page.{Page}
use Rattle.dogwood_layout.specs.View.{Ready}
use Rattle.dogwood_layout.specs.Pieces.{settings, Bounded, WroteText}
use Rattle.dogwood_layout.specs.Places.{entries}
use Rattle.dogwood_layout.specs.Feeds.{behind, due_lines, lines_due, due_remarks, remarks_due, due_pieces}
use Rattle.dogwood_layout.proofs.Bytes.{encode_longer}
use Rattle.dogwood_layout.proofs.Tables.{holds_length}
use Rattle.dogwood_layout.proofs.Walks.{shown_text}
use Rattle.dogwood_layout.proofs.Forming.{formed}
use Rattle.dogwood_layout.proofs.Lengths.{bytes, bytes-append, AllShort, short_end, short_more, short_front, short_back, short_tokens, run_short}
use Rattle.dogwood_layout.proofs.Kept.{kept_fits}
use Rattle.dogwood_layout.proofs.Places.{entries-tokens}
use Rattle.dogwood_layout.proofs.Dues.{encode_feeds, lines_more, lines-joined, remarks_more, remarks_few, pieces-joined, pieces_last, pieces-statement}
use Rattle.dogwood_layout.proofs.Outlines.{sane_statement}

behind_short : (n : ℕ) (cs : List ℕ) → bytes (behind n cs) ≡ n + bytes cs
behind_short n cs =
    let l = length-replicate {A = ℕ} n 10 in
    let e = ap length (encode_feeds n) in
    let b = bytes-append (replicate n 10) cs in
    omega arith

-- Comments -----------------------------------------------------------------------------------------------------------------

comment_word : (k : Kind) → is_comment k ≡ true → is_whitespace k ≡ false
unfolding is_comment is_whitespace
comment_word Whitespace e = sym e
comment_word Comment e = refl
comment_word String e = refl
comment_word Identifier e = refl
comment_word Number e = refl
comment_word Symbol e = refl
comment_word Other e = refl

remark_short : (n : ℕ) → n ≤ 2 → (t : Token) → bytes (shown t) ≤ 1048576 → bytes (due_remarks n (t ∷ [])) ≤ 1048578
unfolding due_remarks blank comment encode
remark_short n h t k = go (comment t) refl
  where
    go : (b : Bool) → comment t ≡ b → bytes (if b then behind n (drop_back white t.text ++ []) else []) ≤ 1048578
    go true q =
        let s = ap bytes (shown_text t (comment_word t.kind q)) in
        let f = kept_fits t.text in
        let e = encode-length (drop_back white t.text) in
        let b = behind_short n (drop_back white t.text ++ []) in
        let l = ap bytes (append-nil (drop_back white t.text)) in
        omega arith
    go false q = omega arith

remarks_short : (n : ℕ) → n ≤ 2 → {ts : List Token} → AllShort ts → bytes (due_remarks n ts) ≤ 1048578 * length ts
unfolding due_remarks encode
remarks_short n h short_end = omega arith
remarks_short n h (short_more {t} {ts} k a) =
    let e = ap bytes (remarks_more n t ts) in
    let b = bytes-append (due_remarks n (t ∷ [])) (due_remarks (remarks_due n (t ∷ [])) ts) in
    let one = remark_short n h t k in
    let rest = remarks_short (remarks_due n (t ∷ [])) (remarks_few n (t ∷ []) h) a in
    omega arith

-- Statements -----------------------------------------------------------------------------------------------------------------

module _ (p : Page) (small : p.indent ≤ 1024) where
  line_short : (n : ℕ) → n ≤ 1 → (l : List ℕ) (m : ℕ) → bytes l ≤ 17179869184 * m - 4294967297 → (lines_due n (add_line l []) ≤ 1) × (bytes (due_lines n (add_line l [])) ≤ 17179869184 * m - 2)
  unfolding due_lines lines_due add_line encode
  line_short n h [] m k = (h, omega arith)
  line_short n h (c ∷ cs) m k =
      let b = behind_short n ((c ∷ cs) ++ []) in
      let e = ap bytes (append-nil (c ∷ cs)) in
      let z = encode_longer (c ∷ cs) in
      (omega arith, omega arith)

  parts_short : (n : ℕ) → n ≤ 1 → (ss : List Span) (ps : List Placed) → AllShort (tokens_at ps) → length (tokens_at ps) ≤ 4194304 → AllParts (parts_of ss ps)
      → bytes (due_lines n (part_lines (settings p) (parts_of ss ps))) ≤ 17179869184 * length (tokens_at ps) - 2
  unfolding parts_of part_lines due_lines encode
  parts_short n h [] ps a k all = omega arith
  parts_short n h (s ∷ ss) ps a k (parts_more part all) =
      let w = sym (span_tokens s ps) in
      let u = tokens_at (up_to s.start ps) in
      let i = tokens_at (within s ps) in
      let o = tokens_at (beyond s ps) in
      let b = short_back u (i ++ o) (subst AllShort w a) in
      let l1 = ap length w in
      let l2 = length-append u (i ++ o) in
      let l3 = length-append i o in
      let line = layout (settings p) 0 i in
      let r = run_short p small i (formed i part.sound part.balance) (short_front i o b) (omega arith) in
      let one = line_short n h line (length i) r in
      let rest = parts_short (lines_due n (add_line line [])) one.0 ss (beyond s ps) (short_back i o b) (omega arith) all in
      let e = ap bytes (lines_more n line (part_lines (settings p) (parts_of ss (beyond s ps)))) in
      let g = bytes-append (due_lines n (add_line line [])) (due_lines (lines_due n (add_line line [])) (part_lines (settings p) (parts_of ss (beyond s ps)))) in
      let one1 = one.1 in
      omega arith

  -- where no token is, no part has one
  no_tokens : (ss : List Span) (ps : List Placed) → length (tokens_at ps) ≡ 0 → words_all (parts_of ss ps) ≡ []
  unfolding parts_of nonblank
  no_tokens [] ps e = refl
  no_tokens (s ∷ ss) ps e =
      let w = ap length (span_tokens s ps) in
      let u = tokens_at (up_to s.start ps) in
      let i = tokens_at (within s ps) in
      let o = tokens_at (beyond s ps) in
      let l2 = length-append u (i ++ o) in
      let l3 = length-append i o in
      ap (λ (ts : List Token). nonblank ts ++ words_all (parts_of ss (beyond s ps))) (none i (omega arith)) ∙ no_tokens ss (beyond s ps) (omega arith)
    where
      none : (ts : List Token) → length ts ≡ 0 → ts ≡ []
      none [] z = refl
      none (t ∷ ts) z = absurd (omega arith)

  -- Files --------------------------------------------------------------------------------------------------------------------

  pieces_short : (n : ℕ) → n ≤ 2 → (ss : List Statement) (ps : List Placed) → AllShort (tokens_at ps) → length (tokens_at ps) ≤ 4194304 → AllSane (pieces ss ps)
      → bytes (due_pieces (settings p) n (pieces ss ps)) ≤ 17179869184 * length (tokens_at ps)
  unfolding pieces piece_text
  pieces_short n h [] ps a k s =
      let e = ap bytes (pieces_last (settings p) n (tokens_at ps)) in
      let r = remarks_short n h a in
      omega arith
  pieces_short n h (s ∷ ss) ps a k sane =
      let w = sym (span_tokens s.span ps) in
      let u = tokens_at (up_to s.span.start ps) in
      let own = within s.span ps in
      let i = tokens_at own in
      let o = tokens_at (beyond s.span ps) in
      let parts = parts_of s.parts own in
      let rest = pieces ss (beyond s.span ps) in
      let t = sane_statement u sane in
      let all = subst AllShort w a in
      let b = short_back u (i ++ o) all in
      let l1 = ap length w in
      let l2 = length-append u (i ++ o) in
      let l3 = length-append i o in
      let e = ap bytes (pieces-statement (settings p) n u parts rest) in
      let text = piece_text (settings p) (laid parts) in
      let b1 = bytes-append (due_remarks n u ++ behind (remarks_due n u) text) (due_pieces (settings p) 2 rest) in
      let b2 = bytes-append (due_remarks n u) (behind (remarks_due n u) text) in
      let b3 = behind_short (remarks_due n u) text in
      let few = remarks_few n u h in
      let r1 = remarks_short n h (short_front u (i ++ o) all) in
      let r2 = parts_short 0 (omega arith) s.parts own (short_front i o b) (omega arith) t.laid_out in
      let r3 = ap bytes (lines-joined (part_lines (settings p) parts)) in
      let r4 = pieces_short 2 (omega arith) ss (beyond s.span ps) (short_back i o b) (omega arith) t.rest in
      let some : 0 < length i = positive (length i) (λ z. t.full (no_tokens s.parts own z)) in
      omega arith
    where
      positive : (m : ℕ) → (m ≡ 0 → ⊥) → 0 < m
      positive m f = omega (arith, f)

pub file_bound : (p : Page) (text ws outline : List ℕ) → Ready text ws → Bounded p 0 (length ws) → AllSane (pieces (statements outline).0 (entries text ws))
    → length (encode (join_pieces (settings p) (pieces (statements outline).0 (entries text ws)))) ≤ cap
file_bound p text ws outline r b s =
    let t = entries-tokens text ws in
    let l = ap length t in
    let w = holds_length text ws r.holds in
    let k = r.short in
    let h = pieces_short p b.indent 0 (omega arith) (statements outline).0 (entries text ws) (subst AllShort (sym t) (short_tokens text ws r.holds r.small)) (omega arith) s in
    let e = ap bytes (pieces-joined (settings p) (pieces (statements outline).0 (entries text ws))) in
    omega arith

-- so its count is the layout's length
pub file_laid : (p : Page) (text ws outline : List ℕ) → Ready text ws → Bounded p 0 (length ws) → AllSane (pieces (statements outline).0 (entries text ws)) → {old new : List ℕ} {r : ℕ}
    → Wrote old (encode (join_pieces (settings p) (pieces (statements outline).0 (entries text ws)))) r new
    → WroteText (join_pieces (settings p) (pieces (statements outline).0 (entries text ws))) old r new
file_laid p text ws outline a b s w =
    let k = file_bound p text ws outline a b s in
    let c = w.count in
    record { count = omega arith; bytes = w.bytes }
