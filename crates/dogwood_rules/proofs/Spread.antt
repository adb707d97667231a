-- No two white-space tokens of a layout stand side by side.
use mathlib.Core.Path.{◌≡◌, refl, sym, ◌∙◌, ap, subst}
use mathlib.Core.Bool.{Bool, true, false, ◌||◌}
use mathlib.Core.List.{List, [], ◌∷◌, ◌++◌, append_assoc}
use Prim.Native.Nat.{ℕ, suc, ◌+◌, ◌*◌}
use native.Mathlib.Omega.{arith}
use lib.Dec.{leb}
use lib.ListN.{length}
use Rattle.dogwood_rules.specs.Basic.{drop_front, drop_back, or_drop, trim}
use Rattle.dogwood_rules.specs.Token.{Token}
use Rattle.dogwood_rules.specs.Tree.{blank, is_whitespace, shown, flat, Run, Items, tokens_of}
use Rattle.dogwood_rules.specs.Layout.{Settings, lines, fit_group, following, column, join_lines, empty}
use Rattle.dogwood_rules.specs.Made.{new_line, shown_as, joined_as, flat_as, fit_or_as, fit_group_as, walk_as, lines_as}
use Rattle.dogwood_rules.proofs.Trim.{front_drops, front_keeps, back_keeps}
use Rattle.dogwood_rules.proofs.Respaced.{gap_blank_lem, line_gap, Respaced, respaced_empty, respaced_trim}
use Rattle.dogwood_rules.proofs.Spelt.{or_false}
use Rattle.dogwood_rules.proofs.Laid.{Begins, Filled, filled-item, Covers, Cover, covers_first, GoodRun, good_nothing, good_single, good_group, GoodItems, good_end, good_item, walk_respaced, group-trim}

-- no two white-space tokens side by side, with white space before (the first flag) or behind (the second) counted in
pub data Spread : Bool → Bool → List Token → Type 0 where
  spread_end : {b : Bool} → Spread false b []
  spread_last : Spread true false []
  spread_blank : {t : Token} {ts : List Token} {b : Bool} → blank t ≡ true → Spread true b ts → Spread false b (t ∷ ts)
  spread_word : {t : Token} {ts : List Token} {a b : Bool} → blank t ≡ false → Spread false b ts → Spread a b (t ∷ ts)

-- what stands with white space before it stands without
pub spread_free : {b : Bool} {ts : List Token} → Spread true b ts → Spread false b ts
spread_free spread_last = spread_end
spread_free (spread_word e s) = spread_word e s

-- .. and what stands with white space behind it stands without
pub spread_open : {a : Bool} {ts : List Token} → Spread a true ts → Spread a false ts
spread_open spread_end = spread_end
spread_open (spread_blank e s) = spread_blank e (spread_open s)
spread_open (spread_word e s) = spread_word e (spread_open s)

-- white space may follow the first, or may not begin the second
pub spread_append : {a b : Bool} {xs ys : List Token} → Spread a true xs → Spread false b ys → Spread a b (xs ++ ys)
spread_append spread_end q = q
spread_append (spread_blank e s) q = spread_blank e (spread_append s q)
spread_append (spread_word e s) q = spread_word e (spread_append s q)

-- Parts of a list that is spread
spread_back : {a b : Bool} (xs ys : List Token) → Spread a b (xs ++ ys) → Spread false b ys
spread_back {a = true} [] ys s = spread_free s
spread_back {a = false} [] ys s = s
spread_back (x ∷ xs) ys (spread_blank e s) = spread_back xs ys s
spread_back (x ∷ xs) ys (spread_word e s) = spread_back xs ys s

spread_front : {a b : Bool} (xs ys : List Token) → Spread a b (xs ++ ys) → Spread a false xs
spread_front {a = true} [] ys s = spread_last
spread_front {a = false} [] ys s = spread_end
spread_front (x ∷ xs) ys (spread_blank e s) = spread_blank e (spread_front xs ys s)
spread_front (x ∷ xs) ys (spread_word e s) = spread_word e (spread_front xs ys s)

-- White space dropped at both ends ------------------------------------------------------------------------------------

front_spread : {b : Bool} (ts : List Token) → Spread false b ts → (drop_front blank ts ≡ [] → ⊥) → Spread true b (drop_front blank ts)
front_spread [] s f = absurd (f refl)
front_spread (t ∷ ts) (spread_blank e s) f =
    rw (front_drops blank t ts e) (front_spread ts (spread_free s) (λ q. f (front_drops blank t ts e ∙ q)))
front_spread (t ∷ ts) (spread_word e s) f = rw (front_keeps blank t ts e) (spread_word e s)

back_spread : {a : Bool} (ts : List Token) → Spread a false ts → (drop_back blank ts ≡ [] → ⊥) → Spread a true (drop_back blank ts)
back_spread [] s f = absurd (f refl)
back_spread (t ∷ ts) (spread_blank e s) f = go (drop_back blank ts) (λ g. back_spread ts s g) f
  where
    go : (us : List Token) → ((us ≡ [] → ⊥) → Spread true true us) → (or_drop blank t us ≡ [] → ⊥) → Spread false true (or_drop blank t us)
    go [] h f = absurd (f (rw e refl))
    go (u ∷ us) h f = spread_blank e (h (λ (q : u ∷ us ≡ []). let z : ◌≡◌ {A = ℕ} 0 1 = cc in omega arith))
back_spread {a} (t ∷ ts) (spread_word e s) f = rw (back_keeps blank t ts e) (spread_word e (go (drop_back blank ts) (λ g. back_spread ts s g)))
  where
    go : (us : List Token) → ((us ≡ [] → ⊥) → Spread false true us) → Spread false true us
    go [] h = spread_end
    go (u ∷ us) h = h (λ (q : u ∷ us ≡ []). let z : ◌≡◌ {A = ℕ} 0 1 = cc in omega arith)

back_none : (ts : List Token) → ts ≡ [] → drop_back blank ts ≡ []
back_none [] e = refl
back_none (t ∷ ts) e = absurd (let z : ◌≡◌ {A = ℕ} 0 1 = cc in omega arith)

pub trim_spread : (ts : List Token) → Spread false false ts → (trim blank ts ≡ [] → ⊥) → Spread true true (trim blank ts)
trim_spread ts s f = back_spread (drop_front blank ts) (front_spread ts s (λ q. f (back_none (drop_front blank ts) q))) f

-- Flat text -------------------------------------------------------------------------------------------------------------

shown-blank : (t : Token) → blank (shown_as t) ≡ blank t
unfolding shown_as blank is_whitespace
shown-blank t = go (blank t) refl
  where
    go : (b : Bool) → blank t ≡ b → blank (shown_as t) ≡ blank t
    go true e = rw e refl
    go false e = rw e e

joined_spread : {a b : Bool} {ts : List Token} → Spread a b ts → Spread a b (joined_as ts)
unfolding joined_as
joined_spread spread_end = spread_end
joined_spread spread_last = spread_last
joined_spread (spread_blank {t} e s) = spread_blank (shown-blank t ∙ e) (joined_spread s)
joined_spread (spread_word {t} e s) = spread_word (shown-blank t ∙ e) (joined_spread s)

-- Items that begin with a token ----------------------------------------------------------------------------------------

begins-trim : (ts : List Token) → Begins ts → trim blank ts ≡ [] → ⊥
begins-trim ts b e =
    let q : b.first ∷ drop_back blank b.more ≡ [] = sym (ap (trim blank) b.whole ∙ ap (drop_back blank) (front_keeps blank b.first b.more b.solid) ∙ back_keeps blank b.first b.more b.solid) ∙ e in
    let z : ◌≡◌ {A = ℕ} 0 1 = cc in omega arith

close_spread : {a : Bool} (c : Token) (ts : List Token) → blank c ≡ false → Spread a false ts → Spread a true (ts ++ c ∷ [])
close_spread c [] e s = spread_word e spread_end
close_spread c (t ∷ ts) e (spread_blank b s) = spread_blank b (close_spread c ts e s)
close_spread c (t ∷ ts) e (spread_word b s) = spread_word b (close_spread c ts e s)

behind_closer : {b : Bool} (c : Token) (ts : List Token) → blank c ≡ false → Spread false b (c ∷ ts) → Spread false b ts
behind_closer c ts e (spread_blank b s) = absurd (let z : ◌≡◌ {A = ℕ} 0 1 = cc in omega arith)
behind_closer c ts e (spread_word b s) = s

behind_opener : {a b : Bool} (o : Token) (ts : List Token) → blank o ≡ false → Spread a b (o ∷ ts) → Spread false b ts
behind_opener o ts e (spread_blank b s) = absurd (let z : ◌≡◌ {A = ℕ} 0 1 = cc in omega arith)
behind_opener o ts e (spread_word b s) = s

single_spread : {a b : Bool} (t : Token) (ts os : List Token) → ((c : Bool) → Spread c b ts → Spread c b os) → Spread a b (t ∷ ts) → Spread a b (shown_as t ∷ os)
single_spread t ts os h (spread_blank e s) = spread_blank (shown-blank t ∙ e) (h true s)
single_spread t ts os h (spread_word e s) = spread_word (shown-blank t ∙ e) (h false s)

-- The tokens of an item among those of an inside
item_spread : {r : Run} {is : Items} (ts : List Token) (k : Cover ts r is) → Spread false false ts → Spread false false (tokens_of r) × Spread false false k.rest
item_spread {r} ts k s =
    let t : Spread false false (tokens_of r ++ k.rest) = spread_back k.gap (tokens_of r ++ k.rest) (subst (λ (l : List Token). Spread false false l) k.whole s) in
    (spread_front (tokens_of r) k.rest t, spread_back (tokens_of r) k.rest t)

module _ (S : Settings) where
  pub fit_spread : (d : ℕ) (ts walked : List Token) → (trim blank ts ≡ [] → ⊥) → Respaced ts walked → Spread false false ts → Spread false false walked → Spread true true (fit_or_as S d ts walked)
  unfolding fit_or_as flat_as
  fit_spread d ts walked f r s w = go (leb (S.indent * d + length (flat ts)) S.width) refl
    where
      go : (b : Bool) → leb (S.indent * d + length (flat ts)) S.width ≡ b → Spread true true (fit_or_as S d ts walked)
      go true e = rw e (joined_spread (trim_spread ts s f))
      go false e = rw e (trim_spread walked w (λ q. f (respaced_empty (respaced_trim r) q)))

  group_spread : {a : Bool} (d n m : ℕ) (o c : Token) (inside broken : List Token) → blank o ≡ false → blank c ≡ false → Spread false false inside
      → (empty (flat inside) ≡ false → Spread false true (broken ++ new_line (S.indent * d) ∷ c ∷ [])) → Spread a true (fit_group_as S d n m o inside c broken)
  unfolding fit_group_as flat_as
  group_spread {a} d n m o c inside broken bo bc s f = go (empty (flat inside) || leb (n + length (flat (o ∷ (inside ++ c ∷ []))) + m) S.width) refl
    where
      go : (b : Bool) → empty (flat inside) || leb (n + length (flat (o ∷ (inside ++ c ∷ []))) + m) S.width ≡ b → Spread a true (fit_group_as S d n m o inside c broken)
      go true e = rw e (subst (λ (l : List Token). Spread a true (joined_as l)) (sym (group-trim o c inside bo bc)) (joined_spread (spread_word bo (close_spread c inside bc s))))
      go false e = rw e (spread_word bo (f (or_false (empty (flat inside)) _ e)))

  closer_spread : (d : ℕ) (c : Token) → blank c ≡ false → Spread false true (new_line (S.indent * d) ∷ c ∷ [])
  closer_spread d c bc = spread_blank (gap_blank_lem (line_gap (S.indent * d))) (spread_word bc spread_end)

  mutual
    unfolding walk_as tokens_of

    pub walk_spread : {a b : Bool} (d n : ℕ) {r : Run} → GoodRun r → Spread a b (tokens_of r) → Spread a b (walk_as S d n r)
    walk_spread d n good_nothing s = s
    walk_spread {b} d n (good_single {t} {r} a g) s =
        single_spread t (tokens_of r) (walk_as S d (column n (shown t)) r) (λ c u. walk_spread d (column n (shown t)) g u) s
    walk_spread {b} d n (good_group {o} {c} {inside} {is} {r} bo vo bc vc a cov fl gi g) s =
        let t : Spread false b (inside ++ c ∷ tokens_of r) = behind_opener o (inside ++ c ∷ tokens_of r) bo s in
        let within : Spread false false inside = spread_front inside (c ∷ tokens_of r) t in
        spread_append
        (group_spread d n (following S r) o c inside (lines_as S (suc d) is) bo bc within
        (λ q. lines_spread (suc d) gi (fl q) inside cov within (new_line (S.indent * d) ∷ c ∷ []) (closer_spread d c bc)))
        (walk_spread d (column n (fit_group S d n (following S r) o inside c (join_lines (lines S (suc d) is)))) g (behind_closer c (tokens_of r) bc (spread_back inside (c ∷ tokens_of r) t)))

    pub lines_spread : {b : Bool} (d : ℕ) {is : Items} → GoodItems is → Filled is → (ts : List Token) → Covers ts is → Spread false false ts → (os : List Token) → Spread false b os
        → Spread false b (lines_as S d is ++ os)
    lines_spread d good_end f ts cov s os q = q
    lines_spread {b} d (good_item {r} {is} a gr gi) (filled-item bg f) ts cov s os q =
        let k = covers_first cov in
        let n = S.indent * d in
        let t = item_spread ts k s in
        let body = fit_spread d (tokens_of r) (walk_as S d n r) (begins-trim (tokens_of r) bg) (walk_respaced S d n gr) t.0 (walk_spread d n gr t.0) in
        spread_blank (gap_blank_lem (line_gap n))
        (subst (λ (l : List Token). Spread true b l) (sym (append_assoc (fit_or_as S d (tokens_of r) (walk_as S d n r)) (lines_as S d is) os))
        (spread_append body (lines_spread d gi f k.rest k.others t.1 os q)))
