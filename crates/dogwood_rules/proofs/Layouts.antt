-- The layout of a balanced run is made of the run's tokens with their white space changed, and these stand.
use mathlib.Core.Path.{◌≡◌, refl, sym, ◌∙◌, ap, subst}
use mathlib.Core.Bool.{Bool, true, false, not}
use mathlib.Core.List.{List, [], ◌∷◌, ◌++◌, append-nil}
use Prim.Native.Nat.{ℕ, ◌+◌, ◌*◌}
use native.Mathlib.Omega.{arith}
use lib.Dec.{leb}
use lib.ListN.{length}
use Rattle.dogwood_rules.specs.Basic.{drop_back, trim}
use Rattle.dogwood_rules.specs.Token.{Token, tokenise, spell}
use Rattle.dogwood_rules.specs.Tree.{blank, comment, flat, run_of}
use Rattle.dogwood_rules.specs.Stands.{Stands, stands_end, stands_more, stops_before}
use Rattle.dogwood_rules.specs.Layout.{Settings, layout, walk}
use Rattle.dogwood_rules.specs.Outline.{balanced}
use Rattle.dogwood_rules.specs.Claims.{nonblank}
use Rattle.dogwood_rules.specs.Made.{cut_right, layout_as, walk_as, fit_or_as, flat_as, joined_as}
use Rattle.dogwood_rules.proofs.Runs.{pass_run}
use Rattle.dogwood_rules.proofs.Rules.{r1}
use Rattle.dogwood_rules.proofs.Calm.{Plain}
use Rattle.dogwood_rules.proofs.Trim.{AllSolid}
use Rattle.dogwood_rules.proofs.Standing.{read_alone, white-stops, blank-stops}
use Rattle.dogwood_rules.proofs.Respaced.{Gap, gap_blank_lem, Respaced, p_end, p_keep, p_gap, p_drop}
use Rattle.dogwood_rules.proofs.Laid.{AllBlank, blanks_end, blanks_more, blanks_front, blanks_append, Trimmed, trimmed, solid_trim, run_respaced, walk_respaced}
use Rattle.dogwood_rules.proofs.Spelt.{AllFirm, respaced_firm, fit_spelt, walk_spelt}
use Rattle.dogwood_rules.proofs.Spread.{Spread, spread_end, spread_last, spread_blank, spread_word, fit_spread, walk_spread}
use Rattle.dogwood_rules.proofs.Solids.{NoComment, no_comment_end, no_comment_lem, kind_plain}
use Rattle.dogwood_rules.proofs.Trees.{AllSound, tree, good_solid}

-- White space of a layout stands ------------------------------------------------------------------------------------

gap_alone : {g : Token} → Gap g → tokenise g.text ≡ (g ∷ [], [])
gap_alone {g} h = read_alone g [] (record { first = h.first; more = h.more; text = h.text; rule = r1 h.first_white h.kind (pass_run h.more_white) })

gap-stops : {b : Bool} (g : Token) (os : List Token) → Gap g → Stands os → Spread true b os → stops_before g os ≡ true
unfolding stops_before
gap-stops g [] h s p = refl
gap-stops g (u ∷ us) h (stands_more e n s) (spread_word w p) = blank-stops g u us (gap_blank_lem h) e ∙ ap not w

pub stands-gap : {b : Bool} {g : Token} {os : List Token} → Gap g → Stands os → Spread true b os → Stands (g ∷ os)
stands-gap {g} {os} h s p = stands_more (gap_alone h) (gap-stops g os h s p) s

-- Tokens that stand, with their white space changed -------------------------------------------------------------------

before_gap : (t g : Token) (os : List Token) → Plain t.kind → tokenise t.text ≡ (t ∷ [], []) → Gap g → stops_before t (g ∷ os) ≡ true
unfolding stops_before
before_gap t g os p e h = rw h.text (white-stops t h.first p e h.first_white)

-- a token stops before what comes next: the token that came next in the source too, or white space
keep_stops : (t : Token) {ts os : List Token} → Plain t.kind → tokenise t.text ≡ (t ∷ [], []) → stops_before t ts ≡ true → Respaced ts os → stops_before t os ≡ true
unfolding stops_before
keep_stops t p e n p_end = refl
keep_stops t p e n (p_keep b s) = n
keep_stops t p e n (p_gap {g} {os} h s) = before_gap t g os p e h
keep_stops t p e n (p_drop {g} {os} b h s) = before_gap t g os p e h

respaced_stands : {a b : Bool} {ts os : List Token} → Stands ts → NoComment ts → Respaced ts os → Spread a b os → Stands os
unfolding blank comment
respaced_stands s n p_end q = stands_end
respaced_stands (stands_more {t} e m s) (no_comment_lem c n) (p_keep w r) (spread_blank v q) = absurd (let z : ◌≡◌ {A = ℕ} 0 1 = cc in omega arith)
respaced_stands (stands_more {t} e m s) (no_comment_lem c n) (p_keep w r) (spread_word v q) =
    stands_more e (keep_stops t (kind_plain t.kind w c) e m r) (respaced_stands s n r q)
respaced_stands s n (p_gap h r) (spread_blank v q) = stands-gap h (respaced_stands s n r q) q
respaced_stands s n (p_gap h r) (spread_word v q) = absurd (let w = gap_blank_lem h in let z : ◌≡◌ {A = ℕ} 0 1 = cc in omega arith)
respaced_stands (stands_more e m s) (no_comment_lem c n) (p_drop w h r) q = respaced_stands s n r q

-- no two white-space tokens of a text stand side by side
blank_then : (g : Token) {ts : List Token} → blank g ≡ true → stops_before g ts ≡ true → Stands ts → Spread false false ts → Spread true false ts
blank_then g w n s spread_end = spread_last
blank_then g w n (stands_more {t = u} {ts = us} e m s) (spread_blank v q) =
    absurd (let x : not (blank u) ≡ true = sym (blank-stops g u us w e) ∙ n in let y : not true ≡ true = ap not (sym v) ∙ x in let z : ◌≡◌ {A = ℕ} 0 1 = cc in omega arith)
blank_then g w n s (spread_word v q) = spread_word v q

stands_spread : {ts : List Token} → Stands ts → Spread false false ts
stands_spread stands_end = spread_end
stands_spread (stands_more {t} {ts} e n s) = go (stands_spread s) (blank t) refl
  where
    go : Spread false false ts → (b : Bool) → blank t ≡ b → Spread false false (t ∷ ts)
    go h true w = spread_blank w (blank_then t w n s h)
    go h false w = spread_word w h

-- Parts of tokens that stand --------------------------------------------------------------------------------------------

pub stands_back : (ts us : List Token) → Stands (ts ++ us) → Stands us
stands_back [] us s = s
stands_back (t ∷ ts) us (stands_more e n s) = stands_back ts us s

pub stands_front : (ts us : List Token) → Stands (ts ++ us) → Stands ts
unfolding stops_before
stands_front [] us s = stands_end
stands_front (t ∷ []) us (stands_more e n s) = stands_more e refl stands_end
stands_front (t ∷ u ∷ ts) us (stands_more e n s) = stands_more e n (stands_front (u ∷ ts) us s)

pub free_front : (ts us : List Token) → NoComment (ts ++ us) → NoComment ts
free_front [] us n = no_comment_end
free_front (t ∷ ts) us (no_comment_lem e n) = no_comment_lem e (free_front ts us n)

pub free_back : (ts us : List Token) → NoComment (ts ++ us) → NoComment us
free_back [] us n = n
free_back (t ∷ ts) us (no_comment_lem e n) = free_back ts us n

-- What is not white space ------------------------------------------------------------------------------------------------

pub nonblank-blank : (t : Token) (ts : List Token) → blank t ≡ true → nonblank (t ∷ ts) ≡ nonblank ts
unfolding nonblank
nonblank-blank t ts b = simp b

pub nonblank_word : (t : Token) (ts : List Token) → blank t ≡ false → nonblank (t ∷ ts) ≡ cut_right t ∷ nonblank ts
unfolding nonblank
nonblank_word t ts b = simp b

pub nonblank-append : (ts us : List Token) → nonblank (ts ++ us) ≡ nonblank ts ++ nonblank us
unfolding nonblank
nonblank-append [] us = refl
nonblank-append (t ∷ ts) us = go (nonblank-append ts us) (blank t) refl
  where
    go : nonblank (ts ++ us) ≡ nonblank ts ++ nonblank us → (b : Bool) → blank t ≡ b → nonblank (t ∷ (ts ++ us)) ≡ nonblank (t ∷ ts) ++ nonblank us
    go h true e = rw (e, nonblank) h
    go h false e = rw (e, nonblank) (ap (λ (l : List Token). cut_right t ∷ l) h)

pub blanks_nonblank : {bs : List Token} → AllBlank bs → nonblank bs ≡ []
unfolding nonblank
blanks_nonblank blanks_end = refl
blanks_nonblank (blanks_more {t} {ts} b a) = nonblank-blank t ts b ∙ blanks_nonblank a

pub respaced_nonblank : {ts os : List Token} → Respaced ts os → nonblank os ≡ nonblank ts
unfolding nonblank
respaced_nonblank p_end = refl
respaced_nonblank (p_keep {t} {ts} {os} b s) = nonblank_word t os b ∙ ap (λ (l : List Token). cut_right t ∷ l) (respaced_nonblank s) ∙ sym (nonblank_word t ts b)
respaced_nonblank (p_gap {g} {os} h s) = nonblank-blank g os (gap_blank_lem h) ∙ respaced_nonblank s
respaced_nonblank (p_drop {t} {ts} b h s) = respaced_nonblank s ∙ sym (nonblank-blank t ts b)

trimmed_nonblank : {ts us : List Token} → Trimmed ts us → nonblank us ≡ nonblank ts
trimmed_nonblank {ts} {us} k =
    sym
    (ap nonblank k.whole ∙ nonblank-append k.left (us ++ k.right) ∙ ap (λ (l : List Token). l ++ nonblank (us ++ k.right)) (blanks_nonblank k.left_blank)
    ∙ nonblank-append us k.right ∙ ap (λ (l : List Token). nonblank us ++ l) (blanks_nonblank k.right_blank) ∙ append-nil (nonblank us))

-- White space alone ----------------------------------------------------------------------------------------------------

respaced_blanks : {ts os : List Token} → AllBlank ts → Respaced ts os → AllBlank os
respaced_blanks a p_end = blanks_end
respaced_blanks (blanks_more w a) (p_keep b s) = absurd (let z : ◌≡◌ {A = ℕ} 0 1 = cc in omega arith)
respaced_blanks a (p_gap h s) = blanks_more (gap_blank_lem h) (respaced_blanks a s)
respaced_blanks (blanks_more w a) (p_drop b h s) = respaced_blanks a s

blanks_trim : {ts : List Token} → AllBlank ts → trim blank ts ≡ []
blanks_trim a = ap (drop_back blank) (blanks_front a)

-- a run that is all white space leaves nothing
nothing_left : (S : Settings) (d : ℕ) (ts walked : List Token) → Respaced ts walked → trim blank ts ≡ [] → fit_or_as S d ts walked ≡ []
unfolding fit_or_as flat_as joined_as
nothing_left S d ts walked r e = go (leb (S.indent * d + length (flat ts)) S.width) refl
  where
    all : AllBlank ts
    all = let k = trimmed ts in subst AllBlank (sym (k.whole ∙ ap (λ (l : List Token). k.left ++ (l ++ k.right)) e)) (blanks_append k.left_blank k.right_blank)

    go : (b : Bool) → leb (S.indent * d + length (flat ts)) S.width ≡ b → fit_or_as S d ts walked ≡ []
    go true q = rw q (ap joined_as e)
    go false q = rw q (blanks_trim (respaced_blanks all r))

-- THE LAYOUT OF A RUN ----------------------------------------------------------------------------------------------------

-- a run that can be laid out: it stands, has no comment, and balances
pub record Part (ts : List Token) : Type 0 where
  pub stands : Stands ts
  pub free : NoComment ts
  pub sound : AllSound ts
  pub balance : balanced 0 ts ≡ true

-- what its layout is made of: the run's tokens, their white space changed; firm; spelling the layout; standing, if anything is left
pub record Layered (S : Settings) (d : ℕ) (ts : List Token) : Type 0 where
  pub respaced : Respaced (trim blank ts) (layout_as S d ts)
  pub firm : AllFirm (layout_as S d ts)
  pub spelt : spell (layout_as S d ts) ≡ layout S d ts
  pub same : nonblank (layout_as S d ts) ≡ nonblank ts
  pub inside : NoComment (trim blank ts)
  pub spread : (layout_as S d ts ≡ [] → ⊥) → Spread true true (layout_as S d ts)
  pub standing : (layout_as S d ts ≡ [] → ⊥) → Stands (layout_as S d ts)

pub layered : (S : Settings) (d : ℕ) (ts : List Token) → Part ts → Layered S d ts
unfolding layout layout_as
layered S d ts p =
    let t = tree ts p.sound p.balance in
    let n = S.indent * d in
    let walked = walk_as S d n (run_of ts) in
    let solid : AllSolid ts = subst AllSolid t.tokens (good_solid t.good) in
    let r : Respaced ts walked = subst (λ (l : List Token). Respaced l walked) t.tokens (walk_respaced S d n t.good) in
    let q = run_respaced S d ts walked r in
    let k = trimmed ts in
    let mid : Stands (trim blank ts) = stands_front (trim blank ts) k.right (stands_back k.left (trim blank ts ++ k.right) (subst Stands k.whole p.stands)) in
    let free : NoComment (trim blank ts) = free_front (trim blank ts) k.right (free_back k.left (trim blank ts ++ k.right) (subst NoComment k.whole p.free)) in
    let w : Spread false false walked = walk_spread S d n t.good (subst (λ (l : List Token). Spread false false l) (sym t.tokens) (stands_spread p.stands)) in
    let wide : (layout_as S d ts ≡ [] → ⊥) → Spread true true (layout_as S d ts) =
    λ f. fit_spread S d ts walked (λ e. f (nothing_left S d ts walked r e)) r (stands_spread p.stands) w in
    record {
      respaced = q;
      firm = respaced_firm (solid_trim ts solid) q;
      spelt = fit_spelt S d ts walked (walk S d n (run_of ts)) (respaced_firm solid r) (walk_spelt S d n t.good);
      same = respaced_nonblank q ∙ trimmed_nonblank k;
      inside = free;
      spread = wide;
      standing = λ f. respaced_stands mid free q (wide f);
    }
