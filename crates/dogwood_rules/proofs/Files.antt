-- What the layout of a file is made of: it stands, spells the layout, and has the tokens of the file's pieces.
use mathlib.Core.Path.{◌≡◌, refl, sym, ◌∙◌, ap, subst}
use mathlib.Core.Bool.{Bool, true, false}
use mathlib.Core.List.{List, [], ◌∷◌, ◌++◌, append-nil}
use Prim.Native.Nat.{ℕ}
use native.Mathlib.Omega.{arith}
use Rattle.dogwood_rules.specs.Token.{Token, spell}
use Rattle.dogwood_rules.specs.Tree.{blank, comment}
use Rattle.dogwood_rules.specs.Stands.{Stands, stands_end, stands_more, stops, stops_before}
use Rattle.dogwood_rules.specs.Layout.{Settings, join_lines}
use Rattle.dogwood_rules.specs.File.{Piece, remark, laid, part_lines, piece_text, join_pieces, gap_after, add_line}
use Rattle.dogwood_rules.specs.Claims.{nonblank}
use Rattle.dogwood_rules.specs.Made.{cut_right, new_line, two_lines, layout_as, on_lines, parts_as, piece_as, gap_as, file_as}
use Rattle.dogwood_rules.proofs.Calm.{Plain}
use Rattle.dogwood_rules.proofs.Trim.{lf_white}
use Rattle.dogwood_rules.proofs.Chains.{Read}
use Rattle.dogwood_rules.proofs.Standing.{white-stops}
use Rattle.dogwood_rules.proofs.Respaced.{Gap, gap_blank_lem, line_gap, lines-gap, Respaced, p_end, p_keep, p_gap, p_drop}
use Rattle.dogwood_rules.proofs.Spelt.{spell-append, AllFirm, firm_full}
use Rattle.dogwood_rules.proofs.Spread.{Spread, spread_end, spread_blank, spread_word, spread_append}
use Rattle.dogwood_rules.proofs.Solids.{NoComment, no_comment_lem, kind_plain}
use Rattle.dogwood_rules.proofs.Remarks.{cut_text, cut-nonblank, cut_alone, cut-stops, cut_twice}
use Rattle.dogwood_rules.proofs.Layouts.{Part, Layered, layered, stands-gap, nonblank-append, nonblank-blank, nonblank_word}

-- Lines ------------------------------------------------------------------------------------------------------------------

-- tokens whose last one ends before an LF
data Closed : List Token → Type 0 where
  closed_one : {t : Token} → stops t.kind t.text 10 ≡ true → Closed (t ∷ [])
  closed_more : {t u : Token} {us : List Token} → Closed (u ∷ us) → Closed (t ∷ u ∷ us)

-- tokens that stand, begin and end with no white space, and can be followed by an LF
record Line (os : List Token) : Type 0 where
  stands : Stands os
  spread : Spread true true os
  closed : Closed os

-- white space that begins with an LF
record Feed (g : Token) : Type 0 where
  gap : Gap g
  lf : gap.first ≡ 10

new_line_lem : (n : ℕ) → Feed (new_line n)
unfolding line_gap
new_line_lem n = record { gap = line_gap n; lf = refl }

two_lines_lem : Feed two_lines
unfolding lines-gap
two_lines_lem = record { gap = lines-gap; lf = refl }

feed_stops : (t g : Token) (os : List Token) → stops t.kind t.text 10 ≡ true → Feed g → stops_before t (g ∷ os) ≡ true
unfolding stops_before
feed_stops t g os e f = rw (f.gap.text, f.lf) e

stands_join : {xs : List Token} (g : Token) (ys : List Token) → Stands xs → Closed xs → Feed g → Stands (g ∷ ys) → Stands (xs ++ g ∷ ys)
unfolding stops_before
stands_join g ys stands_end c f q = elim c [ ]
stands_join g ys (stands_more {t} e n s) (closed_one c) f q = stands_more e (feed_stops t g ys c f) q
stands_join g ys (stands_more e n s) (closed_more c) f q = stands_more e n (stands_join g ys s c f q)

closed_join : {xs : List Token} (g : Token) {ys : List Token} → Closed xs → Closed ys → Closed (xs ++ g ∷ ys)
closed_join g (closed_one c) (closed_one e) = closed_more (closed_more (closed_one e))
closed_join g (closed_one c) (closed_more q) = closed_more (closed_more (closed_more q))
closed_join g (closed_more c) q = closed_more (closed_join g c q)

line_join : (xs : List Token) (g : Token) (ys : List Token) → Line xs → Feed g → Line ys → Line (xs ++ g ∷ ys)
line_join xs g ys a f b =
    record {
      stands = stands_join g ys a.stands a.closed f (stands-gap f.gap b.stands b.spread);
      spread = spread_append a.spread (spread_blank (gap_blank_lem f.gap) b.spread);
      closed = closed_join g a.closed b.closed;
    }

-- A part --------------------------------------------------------------------------------------------------------------------

-- tokens of a layout, each white space or neither that nor a comment
data Words : List Token → Type 0 where
  words_end : Words []
  words_blank : {t : Token} {ts : List Token} → blank t ≡ true → Words ts → Words (t ∷ ts)
  words_plain : {t : Token} {ts : List Token} → Plain t.kind → Words ts → Words (t ∷ ts)

respaced_words : {ts os : List Token} → NoComment ts → Respaced ts os → Words os
unfolding blank comment
respaced_words n p_end = words_end
respaced_words (no_comment_lem {t} c n) (p_keep b s) = words_plain (kind_plain t.kind b c) (respaced_words n s)
respaced_words n (p_gap h s) = words_blank (gap_blank_lem h) (respaced_words n s)
respaced_words (no_comment_lem c n) (p_drop b h s) = respaced_words n s

words_closed : {a : Bool} (t : Token) (ts : List Token) → Stands (t ∷ ts) → Words (t ∷ ts) → Spread a true (t ∷ ts) → Closed (t ∷ ts)
words_closed t [] (stands_more e n s) (words_blank w q) (spread_blank b p) = elim p [ ]
words_closed t [] (stands_more e n s) (words_plain k q) (spread_blank b p) = elim p [ ]
words_closed t [] (stands_more e n s) (words_blank w q) (spread_word b p) = absurd (let z : ◌≡◌ {A = ℕ} 0 1 = cc in omega arith)
words_closed t [] (stands_more e n s) (words_plain k q) (spread_word b p) = closed_one (white-stops t 10 k e lf_white)
words_closed t (u ∷ us) (stands_more e n s) (words_blank w q) (spread_blank b p) = closed_more (words_closed u us s q p)
words_closed t (u ∷ us) (stands_more e n s) (words_blank w q) (spread_word b p) = closed_more (words_closed u us s q p)
words_closed t (u ∷ us) (stands_more e n s) (words_plain k q) (spread_blank b p) = closed_more (words_closed u us s q p)
words_closed t (u ∷ us) (stands_more e n s) (words_plain k q) (spread_word b p) = closed_more (words_closed u us s q p)

not_nothing : {A : Type 0} (x : A) (xs : List A) → x ∷ xs ≡ [] → ⊥
not_nothing x xs e = let z : ◌≡◌ {A = ℕ} 0 1 = cc in omega arith

-- nothing, or a line
data Lined : List Token → Type 0 where
  lined_none : Lined []
  lined_some : {os : List Token} → Line os → Lined os

part_lined : (S : Settings) (d : ℕ) (ts : List Token) → Layered S d ts → Lined (layout_as S d ts)
part_lined S d ts l = go (layout_as S d ts) (respaced_words l.inside l.respaced) l.spread l.standing
  where
    go : (os : List Token) → Words os → ((os ≡ [] → ⊥) → Spread true true os) → ((os ≡ [] → ⊥) → Stands os) → Lined os
    go [] w p s = lined_none
    go (o ∷ os) w p s =
        let full = not_nothing o os in
        lined_some (record { stands = s full; spread = p full; closed = words_closed o os (s full) w (p full) })

lined_line : (t : Token) (ts : List Token) → Lined (t ∷ ts) → Line (t ∷ ts)
lined_line t ts (lined_some l) = l

on_lines_lem : (xs ys : List Token) → Lined xs → Lined ys → Lined (on_lines xs ys)
unfolding on_lines
on_lines_lem [] ys a b = b
on_lines_lem (x ∷ xs) [] a b = a
on_lines_lem (x ∷ xs) (y ∷ ys) a b = lined_some (line_join (x ∷ xs) (new_line 0) (y ∷ ys) (lined_line x xs a) (new_line_lem 0) (lined_line y ys b))

-- A statement -----------------------------------------------------------------------------------------------------------------

pub data AllParts : List (List Token) → Type 0 where
  parts_end : AllParts []
  parts_more : {ts : List Token} {ps : List (List Token)} → Part ts → AllParts ps → AllParts (ts ∷ ps)

abbrev pub words_all : List (List Token) → List Token
words_all [] = []
words_all (ts ∷ ps) = nonblank ts ++ words_all ps

on_nonblank : (xs ys : List Token) → nonblank (on_lines xs ys) ≡ nonblank xs ++ nonblank ys
unfolding on_lines nonblank
on_nonblank [] ys = refl
on_nonblank (x ∷ xs) [] = sym (append-nil (nonblank (x ∷ xs)))
on_nonblank (x ∷ xs) (y ∷ ys) =
    nonblank-append (x ∷ xs) (new_line 0 ∷ y ∷ ys) ∙ ap (λ (l : List Token). nonblank (x ∷ xs) ++ l) (nonblank-blank (new_line 0) (y ∷ ys) (gap_blank_lem (line_gap 0)))

-- a part's tokens, and the lines of its text: both empty, or both not, and the ones spell the others
data View : List Token → List (List ℕ) → Type 0 where
  view_none : View [] []
  view_some : (t : Token) (ts : List Token) (l : List ℕ) (ls : List (List ℕ)) → spell (t ∷ ts) ≡ join_lines (l ∷ ls) → View (t ∷ ts) (l ∷ ls)

add_line_lem : (line : List ℕ) (ls : List (List ℕ)) → (line ≡ [] → ⊥) → add_line line ls ≡ line ∷ ls
unfolding add_line
add_line_lem [] ls f = absurd (f refl)
add_line_lem (c ∷ cs) ls f = refl

view_add : (os us : List Token) (ls : List (List ℕ)) → AllFirm os → View us ls → View (on_lines os us) (add_line (spell os) ls)
unfolding on_lines spell add_line join_lines
view_add [] us ls a v = v
view_add (o ∷ os) us ls a view_none = rw (add_line_lem (spell (o ∷ os)) [] (λ e. firm_full o os a e)) (view_some o os (spell (o ∷ os)) [] refl)
view_add (o ∷ os) us ls a (view_some t ts l ms e) =
    rw (add_line_lem (spell (o ∷ os)) (l ∷ ms) (λ q. firm_full o os a q))
    (view_some o (os ++ new_line 0 ∷ t ∷ ts) (spell (o ∷ os)) (l ∷ ms) (spell-append (o ∷ os) (new_line 0 ∷ t ∷ ts) ∙ ap (λ (x : List ℕ). spell (o ∷ os) ++ 10 ∷ x) e))

view_spells : {ts : List Token} {ls : List (List ℕ)} → View ts ls → spell ts ≡ join_lines ls
unfolding spell join_lines
view_spells view_none = refl
view_spells (view_some t ts l ls e) = e

module _ (S : Settings) where
  parts_lined : {ps : List (List Token)} → AllParts ps → Lined (parts_as S ps)
  unfolding parts_as
  parts_lined parts_end = lined_none
  parts_lined (parts_more {ts} {ps} p a) = on_lines_lem (layout_as S 0 ts) (parts_as S ps) (part_lined S 0 ts (layered S 0 ts p)) (parts_lined a)

  parts_nonblank : {ps : List (List Token)} → AllParts ps → nonblank (parts_as S ps) ≡ words_all ps
  unfolding parts_as nonblank
  parts_nonblank parts_end = refl
  parts_nonblank (parts_more {ts} {ps} p a) =
      on_nonblank (layout_as S 0 ts) (parts_as S ps) ∙ ap (λ (l : List Token). l ++ nonblank (parts_as S ps)) (layered S 0 ts p).same ∙ ap (λ (l : List Token). nonblank ts ++ l) (parts_nonblank a)

  parts_view : {ps : List (List Token)} → AllParts ps → View (parts_as S ps) (part_lines S ps)
  unfolding parts_as part_lines
  parts_view parts_end = view_none
  parts_view (parts_more {ts} {ps} p a) =
      let l = layered S 0 ts p in
      subst (λ (x : List ℕ). View (on_lines (layout_as S 0 ts) (parts_as S ps)) (add_line x (part_lines S ps))) l.spelt
      (view_add (layout_as S 0 ts) (parts_as S ps) (part_lines S ps) l.firm (parts_view a))

-- Pieces ------------------------------------------------------------------------------------------------------------------------

abbrev pub piece_words : Piece → List Token
piece_words (remark t) = cut_right t ∷ []
piece_words (laid ps) = words_all ps

abbrev pub pieces_words : List Piece → List Token
pieces_words [] = []
pieces_words (p ∷ ps) = piece_words p ++ pieces_words ps

-- a comment that is read; a statement whose parts can be laid out, and that has a token
pub data Sane : Piece → Type 0 where
  sane_remark : {t : Token} (k : List ℕ) → comment t ≡ true → Read t k → Sane (remark t)
  sane_laid : {ps : List (List Token)} → AllParts ps → (words_all ps ≡ [] → ⊥) → Sane (laid ps)

pub data AllSane : List Piece → Type 0 where
  sane_end : AllSane []
  sane_more : {p : Piece} {ps : List Piece} → Sane p → AllSane ps → AllSane (p ∷ ps)

gap_feed : (p : Piece) → Feed (gap_as p)
unfolding gap_as
gap_feed (remark t) = new_line_lem 0
gap_feed (laid ps) = two_lines_lem

gap_text : (p : Piece) → (gap_as p).text ≡ gap_after p
unfolding gap_as gap_after
gap_text (remark t) = refl
gap_text (laid ps) = refl

lined_full : (os : List Token) → (nonblank os ≡ [] → ⊥) → Lined os → Line os
unfolding nonblank
lined_full [] f l = absurd (f refl)
lined_full (o ∷ os) f (lined_some l) = l

module _ (S : Settings) where
  piece_line : {p : Piece} → Sane p → Line (piece_as S p)
  unfolding piece_as stops_before
  piece_line (sane_remark {t} k w r) =
      record {
        stands = stands_more (cut_alone t k w r) refl stands_end;
        spread = spread_word (cut-nonblank t k w r) spread_end;
        closed = closed_one (cut-stops t k w r);
      }
  piece_line (sane_laid {ps} a f) = lined_full (parts_as S ps) (λ e. f (sym (parts_nonblank S a) ∙ e)) (parts_lined S a)

  piece_spelt : {p : Piece} → Sane p → spell (piece_as S p) ≡ piece_text S p
  unfolding piece_as piece_text spell
  piece_spelt (sane_remark {t} k w r) = append-nil (cut_right t).text ∙ cut_text t k w r
  piece_spelt (sane_laid a f) = view_spells (parts_view S a)

  piece-nonblank : {p : Piece} → Sane p → nonblank (piece_as S p) ≡ piece_words p
  unfolding piece_as nonblank
  piece-nonblank (sane_remark {t} k w r) = nonblank_word (cut_right t) [] (cut-nonblank t k w r) ∙ ap (λ (u : Token). u ∷ []) (cut_twice t k w r)
  piece-nonblank (sane_laid a f) = parts_nonblank S a

  file_line : (p : Piece) {ps : List Piece} → Sane p → AllSane ps → Line (file_as S (p ∷ ps))
  unfolding file_as
  file_line p s sane_end = piece_line s
  file_line p s (sane_more {p = q} {ps = qs} t a) = line_join (piece_as S p) (gap_as p) (file_as S (q ∷ qs)) (piece_line s) (gap_feed p) (file_line q t a)

  pub file_stands : {ps : List Piece} → AllSane ps → Stands (file_as S ps)
  unfolding file_as
  file_stands sane_end = stands_end
  file_stands (sane_more {p} s a) = (file_line p s a).stands

  pub file_spelt : {ps : List Piece} → AllSane ps → spell (file_as S ps) ≡ join_pieces S ps
  unfolding file_as join_pieces spell
  file_spelt sane_end = refl
  file_spelt (sane_more s sane_end) = piece_spelt s
  file_spelt (sane_more {p} s (sane_more {p = q} {ps = qs} t a)) =
      spell-append (piece_as S p) (gap_as p ∷ file_as S (q ∷ qs)) ∙ ap (λ (l : List ℕ). l ++ ((gap_as p).text ++ spell (file_as S (q ∷ qs)))) (piece_spelt s)
      ∙ ap (λ (l : List ℕ). piece_text S p ++ (l ++ spell (file_as S (q ∷ qs)))) (gap_text p) ∙ ap (λ (l : List ℕ). piece_text S p ++ (gap_after p ++ l)) (file_spelt (sane_more t a))

  pub file_nonblank : {ps : List Piece} → AllSane ps → nonblank (file_as S ps) ≡ pieces_words ps
  unfolding file_as nonblank
  file_nonblank sane_end = refl
  file_nonblank (sane_more {p} s sane_end) = piece-nonblank s ∙ sym (append-nil (piece_words p))
  file_nonblank (sane_more {p} s (sane_more {p = q} {ps = qs} t a)) =
      nonblank-append (piece_as S p) (gap_as p ∷ file_as S (q ∷ qs)) ∙ ap (λ (l : List Token). l ++ nonblank (gap_as p ∷ file_as S (q ∷ qs))) (piece-nonblank s)
      ∙ ap (λ (l : List Token). piece_words p ++ l) (nonblank-blank (gap_as p) (file_as S (q ∷ qs)) (gap_blank_lem (gap_feed p).gap) ∙ file_nonblank (sane_more t a))
