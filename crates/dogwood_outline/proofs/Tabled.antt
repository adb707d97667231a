-- A table that has the words of some tokens: the walks over it say what the rules say of the tokens.
use Rattle.std.specs.Prelude.{if◌then◌else◌}
use mathlib.Core.Path.{◌≡◌, refl, sym, ◌∙◌, ap, subst}
use mathlib.Core.Bool.{Bool, true, false, not, ◌&&◌, ◌||◌, or-false, or_assoc}
use mathlib.Core.List.{List, [], ◌∷◌}
use mathlib.Core.Option.{Option, none, some}
use Prim.Native.Nat.{ℕ, suc, ◌+◌, ◌-◌, ◌*◌}
use native.Mathlib.Omega.{arith}
use lib.Dec.{leb, ltb, eqb}
use lib.ListN.{length, get_or, drop}
use lib.Seq.{drop-drop}
use borrow.Author.Tests.{eqb-true, eqb-false, lt-ltb, le-ltb}
use Rattle.dogwood_rules.specs.Basic.{every, some?}
use Rattle.dogwood_rules.specs.Token.{Token, Kind, Whitespace, Comment, String, Identifier, Number, Symbol, Other, Placed, kind_number, tokens, words_of}
use Rattle.dogwood_rules.specs.Tree.{blank, comment, is_whitespace, is_comment, opener, closer}
use Rattle.dogwood_rules.specs.Outline.{Span, Statement, up_to, from, plain, balanced, kind_ok, within, beyond}
use Rattle.dogwood_rules.specs.Searches.{comment_in, or_else, first_comment, too_deep}
use Rattle.dogwood_words.specs.Brackets.{opening, closing}
use Rattle.dogwood_outline.specs.Pass.{quiet, spoken, here, gap, part, parts_pass, statement_pass, outline_pass}
use Rattle.dogwood_words.specs.Search.{absent}
use Rattle.dogwood_words.specs.Rows.{skip_in, gap_in, part_in}
use Rattle.dogwood_outline.specs.Table.{parts_in, statements_in}
use Rattle.dogwood_searches.specs.Searches.{comment_before, deep_in, first_comment_in}
use Rattle.dogwood_outline.proofs.Spans.{from_on, from_off, up_to_on, up_to_off}
use Rattle.dogwood_outline.proofs.SearchSteps.{deep_here, deep_open, deep_close, deep-plain}

-- Kinds ------------------------------------------------------------------------------------------------------------------

plain_kind : (k : Kind) → leb 2 (kind_number k) ≡ not (is_whitespace k) && not (is_comment k)
unfolding kind_number is_whitespace is_comment
plain_kind Whitespace = refl
plain_kind Comment = refl
plain_kind String = refl
plain_kind Identifier = refl
plain_kind Number = refl
plain_kind Symbol = refl
plain_kind Other = refl

comment_kind : (k : Kind) → eqb (kind_number k) 1 ≡ is_comment k
unfolding kind_number is_comment
comment_kind Whitespace = refl
comment_kind Comment = refl
comment_kind String = refl
comment_kind Identifier = refl
comment_kind Number = refl
comment_kind Symbol = refl
comment_kind Other = refl

plain_row : (t : Token) → leb 2 (kind_number t.kind) ≡ plain t
unfolding plain blank comment
plain_row t = plain_kind t.kind

comment_row : (t : Token) → eqb (kind_number t.kind) 1 ≡ comment t
unfolding comment
comment_row t = comment_kind t.kind

-- Rows -------------------------------------------------------------------------------------------------------------------

-- how many words stand before a place
abbrev before : ℕ → List Placed → ℕ
before n ps = 3 * length (up_to n ps)

skip_words : (n i : ℕ) (ps : List Placed) → skip_in n i (words_of ps) ≡ i + before n ps
unfolding skip_in words_of up_to
skip_words n i [] = omega arith
skip_words n i (p ∷ ps) = by (skip_words n (i + 3) ps) (ltb p.start n) refl
  where
    by : skip_in n (i + 3) (words_of ps) ≡ i + 3 + before n ps → (b : Bool) → ltb p.start n ≡ b → skip_in n i (words_of (p ∷ ps)) ≡ i + before n (p ∷ ps)
    by ih true e = ap (λ (b : Bool). if b then skip_in n (i + 3) (words_of ps) else i) e ∙ ih ∙ (let l = ap length (up_to_on n p ps e) in let q : i + 3 + before n ps ≡ i + before n (p ∷ ps) = omega arith in q)
    by ih false e = ap (λ (b : Bool). if b then skip_in n (i + 3) (words_of ps) else i) e ∙ (let l = ap length (up_to_off n p ps e) in let q : i ≡ i + before n (p ∷ ps) = omega arith in q)

rest_words : (n : ℕ) (ps : List Placed) → drop (before n ps) (words_of ps) ≡ words_of (from n ps)
unfolding words_of up_to from
rest_words n [] = refl
rest_words n (p ∷ ps) = by (rest_words n ps) (ltb p.start n) refl
  where
    by : drop (before n ps) (words_of ps) ≡ words_of (from n ps) → (b : Bool) → ltb p.start n ≡ b → drop (before n (p ∷ ps)) (words_of (p ∷ ps)) ≡ words_of (from n (p ∷ ps))
    by ih true e =
        let q : before n (p ∷ ps) ≡ suc (suc (suc (before n ps))) = let l = ap length (up_to_on n p ps e) in omega arith in
        ap (λ (m : ℕ). drop m (words_of (p ∷ ps))) q ∙ ih ∙ ap words_of (sym (from_on n p ps e))
    by ih false e =
        let q : before n (p ∷ ps) ≡ 0 = let l = ap length (up_to_off n p ps e) in omega arith in
        ap (λ (m : ℕ). drop m (words_of (p ∷ ps))) q ∙ ap words_of (sym (from_off n p ps e))

-- from word i on, and from the first token at n or behind it
rest_from : (table : List ℕ) (i n : ℕ) (ps : List Placed) → drop i table ≡ words_of ps → drop (i + before n ps) table ≡ words_of (from n ps)
rest_from table i n ps w = sym (drop-drop (before n ps) i table) ∙ ap (drop (before n ps)) w ∙ rest_words n ps

abbrev told : Bool → ℕ → Option ℕ
told b i = if b then some i else none

module _ (end n i : ℕ) (p : Placed) (ps : List Placed) where
  abbrev gap_row : Bool → Bool → Option ℕ
  gap_row b c = if b then if c then none else gap_in end n (i + 3) (words_of ps) else told (eqb p.start n) i

abbrev gap_of : ℕ → ℕ → ℕ → List Placed → List Placed → Option ℕ
gap_of end n i us fs = told (every quiet (tokens us) && eqb (here end fs) n) (i + 3 * length us)

gap_words : (end n i : ℕ) (ps : List Placed) → gap_in end n i (words_of ps) ≡ told (gap end n ps) (i + before n ps)
unfolding gap_in words_of gap up_to from tokens
gap_words end n i [] = ap (told (eqb end n)) (let q : i ≡ i + 3 * 0 = omega arith in q)
gap_words end n i (p ∷ ps) = by (gap_words end n (i + 3) ps) (ltb p.start n) refl (plain p.token) refl
  where
    by : gap_in end n (i + 3) (words_of ps) ≡ told (gap end n ps) (i + 3 + before n ps) → (b : Bool) → ltb p.start n ≡ b → (c : Bool) → plain p.token ≡ c
        → gap_in end n i (words_of (p ∷ ps)) ≡ told (gap end n (p ∷ ps)) (i + before n (p ∷ ps))
    by ih true e true f =
        (λ j. gap_row end n i p ps (e j) ((plain_row p.token ∙ f) j))
        ∙ ap (λ (c : Bool). told (not c && every quiet (tokens (up_to n ps)) && eqb (here end (from n ps)) n) (i + 3 * suc (length (up_to n ps)))) (sym f)
        ∙ sym (λ j. gap_of end n i (up_to_on n p ps e j) (from_on n p ps e j))
    by ih true e false f =
        (λ j. gap_row end n i p ps (e j) ((plain_row p.token ∙ f) j))
        ∙ ih
        ∙ ap (told (gap end n ps)) (let q : i + 3 + before n ps ≡ i + 3 * suc (length (up_to n ps)) = omega arith in q)
        ∙ ap (λ (c : Bool). told (not c && every quiet (tokens (up_to n ps)) && eqb (here end (from n ps)) n) (i + 3 * suc (length (up_to n ps)))) (sym f)
        ∙ sym (λ j. gap_of end n i (up_to_on n p ps e j) (from_on n p ps e j))
    by ih false e c f =
        (λ j. gap_row end n i p ps (e j) (plain_row p.token j))
        ∙ ap (told (eqb p.start n)) (let q : i ≡ i + 3 * 0 = omega arith in q)
        ∙ sym (λ j. gap_of end n i (up_to_off n p ps e j) (from_off n p ps e j))

-- Brackets ---------------------------------------------------------------------------------------------------------------

-- a token is a bracket by its kind and the byte at its start
pub data Bracketed (text : List ℕ) : List Placed → Type 0 where
  bracketed_end : Bracketed text []
  bracketed-more :
      {p : Placed} {ps : List Placed}
      → opening (kind_number p.token.kind) (get_or text p.start 0) ≡ opener p.token
      → closing (kind_number p.token.kind) (get_or text p.start 0) ≡ closer p.token
      → Bracketed text ps
      → Bracketed text (p ∷ ps)

bracketed_from : (text : List ℕ) (n : ℕ) {ps : List Placed} → Bracketed text ps → Bracketed text (from n ps)
unfolding from
bracketed_from text n bracketed_end = bracketed_end
bracketed_from text n (bracketed-more {p} {ps} o c h) = by (bracketed_from text n h) (ltb p.start n) refl
  where
    by : Bracketed text (from n ps) → (b : Bool) → ltb p.start n ≡ b → Bracketed text (from n (p ∷ ps))
    by ih true e = subst (Bracketed text) (sym (from_on n p ps e)) ih
    by ih false e = subst (Bracketed text) (sym (from_off n p ps e)) (bracketed-more o c h)

abbrev sound : Bool → Bool → ℕ → Option (Bool × ℕ)
sound b seen i = if b then some (seen, i) else none

module _ (text : List ℕ) (n d : ℕ) (seen : Bool) (i : ℕ) where
  abbrev part_row : Placed → List Placed → Bool → Bool → Bool → Bool → Option (Bool × ℕ)
  part_row p ps b o c w =
      if b
      then if o then part_in text n (suc d) (seen || w) (i + 3) (words_of ps)
      else if c then if eqb d 0 then none else part_in text n (d - 1) (seen || w) (i + 3) (words_of ps)
      else part_in text n d (seen || w) (i + 3) (words_of ps)
      else sound (eqb d 0 && eqb p.start n) seen i

  abbrev part_of : List Placed → List Placed → Option (Bool × ℕ)
  part_of us fs = sound (balanced d (tokens us) && eqb (here (length text) fs) n) (seen || some? plain (tokens us)) (i + 3 * length us)

  -- behind a token, which is an opener, a closer, or neither
  abbrev part_after : List Placed → List Placed → Bool → Bool → Bool → Option (Bool × ℕ)
  part_after us fs o c w =
      sound
      ((if o then balanced (suc d) (tokens us) else if c then ltb 0 d && balanced (d - 1) (tokens us) else balanced d (tokens us)) && eqb (here (length text) fs) n)
      (seen || (w || some? plain (tokens us)))
      (i + 3 * suc (length us))

  same_stop : (s : ℕ) → sound (eqb d 0 && eqb s n) seen i ≡ sound (eqb d 0 && eqb s n) (seen || false) (i + 3 * 0)
  same_stop s j = sound (eqb d 0 && eqb s n) (sym (or-false seen) j) ((let q : i ≡ i + 3 * 0 = omega arith in q) j)

part_words_lem : (text : List ℕ) (n d : ℕ) (seen : Bool) (i : ℕ) {ps : List Placed} → Bracketed text ps
    → part_in text n d seen i (words_of ps) ≡ sound (part (length text) d n ps) (seen || spoken n ps) (i + before n ps)
unfolding part_in words_of part spoken up_to from tokens balanced
part_words_lem text n d seen i bracketed_end = same_stop text n d seen i (length text)
part_words_lem text n d seen i (bracketed-more {p} {ps} o c h) =
    by (λ (d : ℕ) (seen : Bool) (i : ℕ). part_words_lem text n d seen i h) (ltb p.start n) refl (opener p.token) refl (closer p.token) refl (eqb d 0) refl
  where
    tail : (b : Bool) → ltb p.start n ≡ b → (x y : Bool) → opener p.token ≡ x → closer p.token ≡ y → part_in text n d seen i (words_of (p ∷ ps)) ≡ part_row text n d seen i p ps b x y (plain p.token)
    tail b e x y f g j = part_row text n d seen i p ps (e j) ((o ∙ f) j) ((c ∙ g) j) (plain_row p.token j)

    head : ltb p.start n ≡ true → (x y : Bool) → opener p.token ≡ x → closer p.token ≡ y
        → part_after text n d seen i (up_to n ps) (from n ps) x y (plain p.token) ≡ part_of text n d seen i (up_to n (p ∷ ps)) (from n (p ∷ ps))
    head e x y f g =
        (λ j. part_after text n d seen i (up_to n ps) (from n ps) (sym f j) (sym g j) (plain p.token))
        ∙ sym (λ j. part_of text n d seen i (up_to_on n p ps e j) (from_on n p ps e j))

    step : (x : Bool) → sound x (seen || plain p.token || spoken n ps) (i + 3 + before n ps) ≡ sound x (seen || (plain p.token || spoken n ps)) (i + 3 * suc (length (up_to n ps)))
    step x j = sound x (or_assoc seen (plain p.token) (spoken n ps) j) ((let q : i + 3 + before n ps ≡ i + 3 * suc (length (up_to n ps)) = omega arith in q) j)

    by : ((d : ℕ) (seen : Bool) (i : ℕ) → part_in text n d seen i (words_of ps) ≡ sound (part (length text) d n ps) (seen || spoken n ps) (i + before n ps))
        → (b : Bool) → ltb p.start n ≡ b → (x : Bool) → opener p.token ≡ x → (y : Bool) → closer p.token ≡ y → (z : Bool) → eqb d 0 ≡ z
        → part_in text n d seen i (words_of (p ∷ ps)) ≡ sound (part (length text) d n (p ∷ ps)) (seen || spoken n (p ∷ ps)) (i + before n (p ∷ ps))
    by ih true e true f y g z q = tail true e true y f g ∙ ih (suc d) (seen || plain p.token) (i + 3) ∙ step (part (length text) (suc d) n ps) ∙ head e true y f g
    by ih true e false f false g z q = tail true e false false f g ∙ ih d (seen || plain p.token) (i + 3) ∙ step (part (length text) d n ps) ∙ head e false false f g
    by ih true e false f true g true q =
        let l : ltb 0 d ≡ false = let k = eqb-true d 0 q in le-ltb 0 d (omega arith) in
        tail true e false true f g
        ∙ ap (λ (t : Bool). if t then none else part_in text n (d - 1) (seen || plain p.token) (i + 3) (words_of ps)) q
        ∙ sym (ap (λ (t : Bool). sound (t && balanced (d - 1) (tokens (up_to n ps)) && eqb (here (length text) (from n ps)) n) (seen || (plain p.token || spoken n ps)) (i + 3 * suc (length (up_to n ps)))) l)
        ∙ head e false true f g
    by ih true e false f true g false q =
        let l : ltb 0 d ≡ true = let k = eqb-false d 0 q in lt-ltb 0 d (omega arith) in
        tail true e false true f g
        ∙ ap (λ (t : Bool). if t then none else part_in text n (d - 1) (seen || plain p.token) (i + 3) (words_of ps)) q
        ∙ ih (d - 1) (seen || plain p.token) (i + 3)
        ∙ step (part (length text) (d - 1) n ps)
        ∙ sym (ap (λ (t : Bool). sound (t && balanced (d - 1) (tokens (up_to n ps)) && eqb (here (length text) (from n ps)) n) (seen || (plain p.token || spoken n ps)) (i + 3 * suc (length (up_to n ps)))) l)
        ∙ head e false true f g
    by ih false e x f y g z q =
        tail false e x y f g ∙ same_stop text n d seen i p.start ∙ sym (λ j. part_of text n d seen i (up_to_off n p ps e j) (from_off n p ps e j))

-- Searches ---------------------------------------------------------------------------------------------------------------

pub comment_words : (n : ℕ) (ps : List Placed) → comment_before n (words_of ps) ≡ comment_in (up_to n ps)
unfolding comment_before words_of comment_in up_to
comment_words n [] = refl
comment_words n (p ∷ ps) = by (comment_words n ps) (ltb p.start n) refl (comment p.token) refl
  where
    by : comment_before n (words_of ps) ≡ comment_in (up_to n ps) → (b : Bool) → ltb p.start n ≡ b → (c : Bool) → comment p.token ≡ c
        → comment_before n (words_of (p ∷ ps)) ≡ comment_in (up_to n (p ∷ ps))
    by ih true e true f =
        (λ j. if e j then if (comment_row p.token ∙ f) j then some p.start else comment_before n (words_of ps) else none)
        ∙ sym (ap comment_in (up_to_on n p ps e) ∙ rw (f, comment_in) refl)
    by ih true e false f =
        (λ j. if e j then if (comment_row p.token ∙ f) j then some p.start else comment_before n (words_of ps) else none)
        ∙ ih
        ∙ sym (ap comment_in (up_to_on n p ps e) ∙ rw (f, comment_in) refl)
    by ih false e c f =
        (λ j. if e j then if eqb (kind_number p.token.kind) 1 then some p.start else comment_before n (words_of ps) else none) ∙ sym (ap comment_in (up_to_off n p ps e))

pub deep_words : (text : List ℕ) (d : ℕ) {ps : List Placed} → Bracketed text ps → deep_in text d (words_of ps) ≡ too_deep d ps
unfolding deep_in words_of too_deep
deep_words text d bracketed_end = refl
deep_words text d (bracketed-more {p} {ps} o c h) = by (λ (d : ℕ). deep_words text d h) (opener p.token) refl (closer p.token) refl (eqb d 64) refl
  where
    row : (x y : Bool) → opener p.token ≡ x → closer p.token ≡ y
        → deep_in text d (words_of (p ∷ ps))
        ≡ (if x then if eqb d 64 then some p.start else deep_in text (suc d) (words_of ps) else if y then deep_in text (d - 1) (words_of ps) else deep_in text d (words_of ps))
    row x y f g j = if (o ∙ f) j then if eqb d 64 then some p.start else deep_in text (suc d) (words_of ps) else if (c ∙ g) j then deep_in text (d - 1) (words_of ps) else deep_in text d (words_of ps)

    by : ((d : ℕ) → deep_in text d (words_of ps) ≡ too_deep d ps) → (x : Bool) → opener p.token ≡ x → (y : Bool) → closer p.token ≡ y → (z : Bool) → eqb d 64 ≡ z
        → deep_in text d (words_of (p ∷ ps)) ≡ too_deep d (p ∷ ps)
    by ih true f y g true q = row true y f g ∙ ap (λ (t : Bool). if t then some p.start else deep_in text (suc d) (words_of ps)) q ∙ sym (deep_here d p ps f q)
    by ih true f y g false q = row true y f g ∙ ap (λ (t : Bool). if t then some p.start else deep_in text (suc d) (words_of ps)) q ∙ ih (suc d) ∙ sym (deep_open d p ps f q)
    by ih false f true g z q = row false true f g ∙ ih (d - 1) ∙ sym (deep_close d p ps f g)
    by ih false f false g z q = row false false f g ∙ ih d ∙ sym (deep-plain d p ps f g)

-- A whole outline --------------------------------------------------------------------------------------------------------

present : (b : Bool) (i : ℕ) → not (absent (told b i)) ≡ b
present true i = refl
present false i = refl

module _ (text table : List ℕ) where
  gap_at : (n i : ℕ) (ps : List Placed) → drop i table ≡ words_of ps → gap_in (length text) n i (drop i table) ≡ told (gap (length text) n ps) (i + before n ps)
  gap_at n i ps w = ap (gap_in (length text) n i) w ∙ gap_words (length text) n i ps

  skip_at : (n i : ℕ) (ps : List Placed) → drop i table ≡ words_of ps → drop (skip_in n i (drop i table)) table ≡ words_of (from n ps)
  skip_at n i ps w = ap (λ (m : ℕ). drop m table) (ap (skip_in n i) w ∙ skip_words n i ps) ∙ rest_from table i n ps w

  abbrev parts_row : Span → List Span → ℕ → Bool → Bool → Option ℕ → Bool
  parts_row s ss b seen l o =
      l
      && elim o [
        | none ↦ false
        | some j ↦ elim (part_in text s.stop 0 false j (drop j table)) [ none ↦ false | some r ↦ parts_in text table ss b (seen || r.0) r.1 ]
      ]

  abbrev parts_next : List Span → ℕ → Bool → Option (Bool × ℕ) → Bool
  parts_next ss b seen o = elim o [ none ↦ false | some r ↦ parts_in text table ss b (seen || r.0) r.1 ]

  parts_words : (ss : List Span) (b : ℕ) (seen : Bool) (i : ℕ) {ps : List Placed} → Bracketed text ps → drop i table ≡ words_of ps
      → parts_in text table ss b seen i ≡ parts_pass (length text) ss b seen ps
  unfolding parts_in parts_pass
  parts_words [] b seen i {ps} h w = ap (λ (o : Option ℕ). seen && not (absent o)) (gap_at b i ps w) ∙ ap (λ (t : Bool). seen && t) (present (gap (length text) b ps) (i + before b ps))
  parts_words (s ∷ ss) b seen i {ps} h w =
      by (λ (seen : Bool) (i : ℕ) (w : drop i table ≡ words_of (from s.stop (from s.start ps))). parts_words ss b seen i (bracketed_from text s.stop (bracketed_from text s.start h)) w)
      (ltb s.start s.stop) refl (gap (length text) s.start ps) refl (part (length text) 0 s.stop (from s.start ps)) refl
    where
      by : ((seen : Bool) (i : ℕ) → drop i table ≡ words_of (from s.stop (from s.start ps)) → parts_in text table ss b seen i ≡ parts_pass (length text) ss b seen (from s.stop (from s.start ps)))
          → (x : Bool) → ltb s.start s.stop ≡ x → (y : Bool) → gap (length text) s.start ps ≡ y → (z : Bool) → part (length text) 0 s.stop (from s.start ps) ≡ z
          → parts_in text table (s ∷ ss) b seen i ≡ parts_pass (length text) (s ∷ ss) b seen ps
      by ih false e y f z g = (λ k. parts_row s ss b seen (e k) (gap_in (length text) s.start i (drop i table))) ∙ sym (rw e refl)
      by ih true e false f z g = (λ k. parts_row s ss b seen (e k) ((gap_at s.start i ps w ∙ ap (λ (t : Bool). told t (i + before s.start ps)) f) k)) ∙ sym (rw e (rw f refl))
      by ih true e true f z g =
          let at : drop (i + before s.start ps) table ≡ words_of (from s.start ps) = rest_from table i s.start ps w in
          let p : part_in text s.stop 0 false (i + before s.start ps) (drop (i + before s.start ps) table) ≡ sound (part (length text) 0 s.stop (from s.start ps)) (spoken s.stop (from s.start ps)) (i + before s.start ps + before s.stop (from s.start ps)) = ap (part_in text s.stop 0 false (i + before s.start ps)) at ∙ part_words_lem text s.stop 0 false (i + before s.start ps) (bracketed_from text s.start h) in
          (λ k. parts_row s ss b seen (e k) ((gap_at s.start i ps w ∙ ap (λ (t : Bool). told t (i + before s.start ps)) f) k))
          ∙ ap (parts_next ss b seen) p
          ∙ last z g at
          ∙ sym (rw e (rw f refl))
        where
          last : (z : Bool) → part (length text) 0 s.stop (from s.start ps) ≡ z → drop (i + before s.start ps) table ≡ words_of (from s.start ps)
              → parts_next ss b seen (sound (part (length text) 0 s.stop (from s.start ps)) (spoken s.stop (from s.start ps)) (i + before s.start ps + before s.stop (from s.start ps)))
              ≡ (part (length text) 0 s.stop (from s.start ps) && parts_pass (length text) ss b (seen || spoken s.stop (from s.start ps)) (from s.stop (from s.start ps)))
          last true g at = rw g (ih (seen || spoken s.stop (from s.start ps)) (i + before s.start ps + before s.stop (from s.start ps)) (rest_from table (i + before s.start ps) s.stop (from s.start ps) at))
          last false g at = rw g refl

  abbrev statement_row : Statement → List Statement → Bool → Option ℕ → Bool
  statement_row s ss l o =
      l && elim o [ none ↦ false | some j ↦ parts_in text table s.parts s.span.stop false j && statements_in text table ss (skip_in s.span.stop j (drop j table)) ]

  pub statements_words : (ss : List Statement) (i : ℕ) {ps : List Placed} → Bracketed text ps → drop i table ≡ words_of ps → statements_in text table ss i ≡ outline_pass (length text) ss ps
  unfolding statements_in outline_pass statement_pass
  statements_words [] i {ps} h w = ap (λ (o : Option ℕ). not (absent o)) (gap_at (length text) i ps w) ∙ present (gap (length text) (length text) ps) (i + before (length text) ps)
  statements_words (s ∷ ss) i {ps} h w =
      by (λ (i : ℕ) (w : drop i table ≡ words_of (from s.span.stop (from s.span.start ps))). statements_words ss i (bracketed_from text s.span.stop (bracketed_from text s.span.start h)) w)
      (kind_ok s) refl (gap (length text) s.span.start ps) refl
    where
      by : ((i : ℕ) → drop i table ≡ words_of (from s.span.stop (from s.span.start ps)) → statements_in text table ss i ≡ outline_pass (length text) ss (from s.span.stop (from s.span.start ps)))
          → (x : Bool) → kind_ok s ≡ x → (y : Bool) → gap (length text) s.span.start ps ≡ y
          → statements_in text table (s ∷ ss) i ≡ outline_pass (length text) (s ∷ ss) ps
      by ih false e y f = (λ k. statement_row s ss (e k) (gap_in (length text) s.span.start i (drop i table))) ∙ sym (rw e refl)
      by ih true e false f = (λ k. statement_row s ss (e k) ((gap_at s.span.start i ps w ∙ ap (λ (t : Bool). told t (i + before s.span.start ps)) f) k)) ∙ sym (rw e (rw f refl))
      by ih true e true f =
          let at : drop (i + before s.span.start ps) table ≡ words_of (from s.span.start ps) = rest_from table i s.span.start ps w in
          (λ k. statement_row s ss (e k) ((gap_at s.span.start i ps w ∙ ap (λ (t : Bool). told t (i + before s.span.start ps)) f) k))
          ∙ (λ k. parts_words s.parts s.span.stop false (i + before s.span.start ps) (bracketed_from text s.span.start h) at k && ih (skip_in s.span.stop (i + before s.span.start ps) (drop (i + before s.span.start ps) table)) (skip_at s.span.stop (i + before s.span.start ps) (from s.span.start ps) at) k)
          ∙ sym (rw e (rw f refl))

  pub first_comment_words : (ss : List Statement) (i : ℕ) (ps : List Placed) → drop i table ≡ words_of ps → first_comment_in table ss i ≡ first_comment ss ps
  unfolding first_comment_in first_comment within beyond
  first_comment_words [] i ps w = refl
  first_comment_words (s ∷ ss) i ps w =
      let at = skip_at s.span.start i ps w in
      λ k. or_else ((ap (comment_before s.span.stop) at ∙ comment_words s.span.stop (from s.span.start ps)) k)
      (first_comment_words ss (skip_in s.span.stop (skip_in s.span.start i (drop i table)) (drop (skip_in s.span.start i (drop i table)) table)) (from s.span.stop (from s.span.start ps)) (skip_at s.span.stop (skip_in s.span.start i (drop i table)) (from s.span.start ps) at) k)
