-- What a run's layout is made of spells the layout.
use mathlib.Core.Path.{◌≡◌, refl, sym, ◌∙◌, ap, subst}
use mathlib.Core.Bool.{Bool, true, false, ◌||◌}
use mathlib.Core.List.{List, [], ◌∷◌, ◌++◌, append-nil, append_assoc}
use Prim.Native.Nat.{ℕ, suc, ◌+◌, ◌*◌}
use native.Mathlib.Omega.{arith}
use lib.Dec.{leb}
use lib.ListN.{length, replicate}
use Rattle.dogwood_rules.specs.Basic.{drop_front, drop_back, or_drop, trim}
use Rattle.dogwood_rules.specs.Token.{Token, white, spell}
use Rattle.dogwood_rules.specs.Tree.{blank, shown, joined, flat, Run, Items, end, item, tokens_of}
use Rattle.dogwood_rules.specs.Layout.{Settings, walk, lines, fit_or, fit_group, spaces, following, column, join_lines, empty}
use Rattle.dogwood_rules.specs.Made.{new_line, shown_as, joined_as, flat_as, fit_or_as, fit_group_as, walk_as, lines_as}
use Rattle.dogwood_rules.proofs.Runs.{AllPass, pass_end, pass_more}
use Rattle.dogwood_rules.proofs.Trim.{Solid, AllSolid, solid_blank, solid_word, front_drops, front_keeps, back_keeps}
use Rattle.dogwood_rules.proofs.Respaced.{Gap, gap_blank_lem, Respaced, p_end, p_keep, p_gap, p_drop}
use Rattle.dogwood_rules.proofs.Laid.{blanks_flat, Covers, covers_end, GoodRun, good_nothing, good_single, good_group, GoodItems, good_end, good_item, walk_respaced}

pub spell-append : (ts us : List Token) → spell (ts ++ us) ≡ spell ts ++ spell us
unfolding spell
spell-append [] us = refl
spell-append (t ∷ ts) us = ap (λ (l : List ℕ). t.text ++ l) (spell-append ts us) ∙ sym (append_assoc t.text (spell ts) (spell us))

-- White space dropped at both ends ------------------------------------------------------------------------------------

-- each token is white space of a layout, or begins and ends in no white space
pub data AllFirm : List Token → Type 0 where
  firm_end : AllFirm []
  firm_gap : {g : Token} {os : List Token} → Gap g → AllFirm os → AllFirm (g ∷ os)
  firm_word : {t : Token} {os : List Token} → blank t ≡ false → Solid t.text → AllFirm os → AllFirm (t ∷ os)

pub respaced_firm : {ts os : List Token} → AllSolid ts → Respaced ts os → AllFirm os
respaced_firm a p_end = firm_end
respaced_firm (solid_blank e a) (p_keep b s) = absurd (let z : ◌≡◌ {A = ℕ} 0 1 = cc in omega arith)
respaced_firm (solid_word e v a) (p_keep b s) = firm_word b v (respaced_firm a s)
respaced_firm a (p_gap h s) = firm_gap h (respaced_firm a s)
respaced_firm (solid_blank e a) (p_drop b h s) = respaced_firm a s
respaced_firm (solid_word e v a) (p_drop b h s) = absurd (let z : ◌≡◌ {A = ℕ} 0 1 = cc in omega arith)

whites_front : {cs : List ℕ} (o : List ℕ) → AllPass white cs → drop_front white (cs ++ o) ≡ drop_front white o
whites_front o pass_end = refl
whites_front o (pass_more {c} {cs} w a) = front_drops white c (cs ++ o) w ∙ whites_front o a

gap_front : {g : Token} (o : List ℕ) → Gap g → drop_front white (g.text ++ o) ≡ drop_front white o
gap_front o h = ap (λ (l : List ℕ). drop_front white (l ++ o)) h.text ∙ front_drops white h.first (h.more ++ o) h.first_white ∙ whites_front o h.more_white

front_spelt : {os : List Token} → AllFirm os → drop_front white (spell os) ≡ spell (drop_front blank os)
unfolding spell
front_spelt firm_end = refl
front_spelt (firm_gap {g} {os} h a) = gap_front (spell os) h ∙ front_spelt a ∙ ap spell (sym (front_drops blank g os (gap_blank_lem h)))
front_spelt (firm_word {t} {os} b v a) = v.front (spell os) ∙ ap spell (sym (front_keeps blank t os b))

front_firm : {os : List Token} → AllFirm os → AllFirm (drop_front blank os)
front_firm firm_end = firm_end
front_firm (firm_gap {g} {os} h a) = rw (front_drops blank g os (gap_blank_lem h)) (front_firm a)
front_firm (firm_word {t} {os} b v a) = rw (front_keeps blank t os b) (firm_word b v a)

or_firm : (g : Token) (us : List Token) → Gap g → AllFirm us → AllFirm (or_drop blank g us)
or_firm g [] h a = rw (gap_blank_lem h) a
or_firm g (u ∷ us) h a = firm_gap h a

back_firm : {os : List Token} → AllFirm os → AllFirm (drop_back blank os)
back_firm firm_end = firm_end
back_firm (firm_gap {g} {os} h a) = or_firm g (drop_back blank os) h (back_firm a)
back_firm (firm_word {t} {os} b v a) = rw (back_keeps blank t os b) (firm_word b v (back_firm a))

-- white space before what is left, if anything is
abbrev backed : List ℕ → List ℕ → List ℕ
backed cs [] = []
backed cs (y ∷ ys) = cs ++ y ∷ ys

backed_more : (c : ℕ) (cs l : List ℕ) → white c ≡ true → or_drop white c (backed cs l) ≡ backed (c ∷ cs) l
backed_more c cs [] w = rw w refl
backed_more c [] (y ∷ ys) w = refl
backed_more c (d ∷ cs) (y ∷ ys) w = refl

whites_back : {cs : List ℕ} (o : List ℕ) → AllPass white cs → drop_back white (cs ++ o) ≡ backed cs (drop_back white o)
whites_back o pass_end = by (drop_back white o)
  where
    by : (l : List ℕ) → l ≡ backed [] l
    by [] = refl
    by (y ∷ ys) = refl
whites_back o (pass_more {c} {cs} w a) = ap (or_drop white c) (whites_back o a) ∙ backed_more c cs (drop_back white o) w

gap_back : {g : Token} (o : List ℕ) → Gap g → drop_back white (g.text ++ o) ≡ backed g.text (drop_back white o)
gap_back o h =
    ap (λ (l : List ℕ). drop_back white (l ++ o)) h.text ∙ whites_back o (pass_more h.first_white h.more_white) ∙ ap (λ (l : List ℕ). backed l (drop_back white o)) (sym h.text)

append-empty : (xs ys : List ℕ) → xs ++ ys ≡ [] → xs ≡ []
append-empty [] ys e = refl
append-empty (x ∷ xs) ys e = absurd (let z : ◌≡◌ {A = ℕ} 0 1 = cc in omega arith)

pub firm_full : (t : Token) (os : List Token) → AllFirm (t ∷ os) → spell (t ∷ os) ≡ [] → ⊥
unfolding spell
firm_full t os (firm_gap h a) e = let q : h.first ∷ h.more ≡ [] = sym h.text ∙ append-empty t.text (spell os) e in let z : ◌≡◌ {A = ℕ} 0 1 = cc in omega arith
firm_full t os (firm_word b v a) e = v.full (append-empty t.text (spell os) e)

backed_full : (cs l : List ℕ) → (l ≡ [] → ⊥) → backed cs l ≡ cs ++ l
backed_full cs [] f = absurd (f refl)
backed_full cs (y ∷ ys) f = refl

or_spelt : (g : Token) (us : List Token) → Gap g → AllFirm us → backed g.text (spell us) ≡ spell (or_drop blank g us)
unfolding spell
or_spelt g [] h a = rw (gap_blank_lem h) refl
or_spelt g (u ∷ us) h a = backed_full g.text (spell (u ∷ us)) (λ e. firm_full u us a e)

back_spelt : {os : List Token} → AllFirm os → drop_back white (spell os) ≡ spell (drop_back blank os)
unfolding spell
back_spelt firm_end = refl
back_spelt (firm_gap {g} {os} h a) = gap_back (spell os) h ∙ ap (backed g.text) (back_spelt a) ∙ or_spelt g (drop_back blank os) h (back_firm a)
back_spelt (firm_word {t} {os} b v a) = v.back (spell os) ∙ ap (λ (l : List ℕ). t.text ++ l) (back_spelt a) ∙ ap spell (sym (back_keeps blank t os b))

pub trim_spelt : {os : List Token} → AllFirm os → trim white (spell os) ≡ spell (trim blank os)
trim_spelt a = ap (drop_back white) (front_spelt a) ∙ back_spelt (front_firm a)

-- Runs -----------------------------------------------------------------------------------------------------------------

joined_spelt : (ts : List Token) → spell (joined_as ts) ≡ joined ts
unfolding joined_as joined spell shown_as shown
joined_spelt [] = refl
joined_spelt (t ∷ ts) = go (joined_spelt ts) (blank t) refl
  where
    go : spell (joined_as ts) ≡ joined ts → (b : Bool) → blank t ≡ b → spell (joined_as (t ∷ ts)) ≡ joined (t ∷ ts)
    go h true e = rw e (ap (λ (l : List ℕ). 32 ∷ l) h)
    go h false e = rw e (ap (λ (l : List ℕ). t.text ++ l) h)

flat_spelt : (ts : List Token) → spell (flat_as ts) ≡ flat ts
unfolding flat_as flat
flat_spelt ts = joined_spelt (trim blank ts)

shown_spelt : (t : Token) (os : List Token) → spell (shown_as t ∷ os) ≡ shown t ++ spell os
unfolding spell shown_as shown
shown_spelt t os = go (blank t) refl
  where
    go : (b : Bool) → blank t ≡ b → spell (shown_as t ∷ os) ≡ shown t ++ spell os
    go true e = rw e refl
    go false e = rw e refl

pub or_false : (a b : Bool) → a || b ≡ false → a ≡ false
or_false true b e = e
or_false false b e = refl

-- each line with an LF before it
abbrev after : List (List ℕ) → List ℕ → List ℕ
after [] o = o
after (l ∷ ls) o = 10 ∷ (l ++ after ls o)

after_join : (l : List ℕ) (ls : List (List ℕ)) (o : List ℕ) → after (l ∷ ls) o ≡ 10 ∷ (join_lines (l ∷ ls) ++ o)
unfolding join_lines
after_join l [] o = refl
after_join l (m ∷ ls) o = ap (λ (p : List ℕ). 10 ∷ p) (ap (λ (p : List ℕ). l ++ p) (after_join m ls o) ∙ sym (append_assoc l (10 ∷ join_lines (m ∷ ls)) o))

module _ (S : Settings) where
  pub fit_spelt : (d : ℕ) (ts walked : List Token) (text : List ℕ) → AllFirm walked → spell walked ≡ text → spell (fit_or_as S d ts walked) ≡ fit_or S d ts text
  unfolding fit_or_as fit_or
  fit_spelt d ts walked text a e = go (leb (S.indent * d + length (flat ts)) S.width) refl
    where
      go : (b : Bool) → leb (S.indent * d + length (flat ts)) S.width ≡ b → spell (fit_or_as S d ts walked) ≡ fit_or S d ts text
      go true q = rw q (flat_spelt ts)
      go false q = rw q (sym (trim_spelt a) ∙ ap (trim white) e)

  group_spelt : (d n m : ℕ) (o c : Token) (inside broken : List Token) (text : List ℕ)
      → (empty (flat inside) ≡ false → spell (broken ++ new_line (S.indent * d) ∷ c ∷ []) ≡ 10 ∷ (text ++ 10 ∷ (spaces S d ++ c.text)))
      → spell (fit_group_as S d n m o inside c broken) ≡ fit_group S d n m o inside c text
  unfolding fit_group_as fit_group spell
  group_spelt d n m o c inside broken text f = go (empty (flat inside) || leb (n + length (flat (o ∷ (inside ++ c ∷ []))) + m) S.width) refl
    where
      go : (b : Bool) → empty (flat inside) || leb (n + length (flat (o ∷ (inside ++ c ∷ []))) + m) S.width ≡ b → spell (fit_group_as S d n m o inside c broken) ≡ fit_group S d n m o inside c text
      go true q = rw q (flat_spelt (o ∷ (inside ++ c ∷ [])))
      go false q =
          rw q
          (subst (λ (l : List ℕ). o.text ++ spell (broken ++ new_line (S.indent * d) ∷ c ∷ []) ≡ l) (simp append_assoc)
          (ap (λ (l : List ℕ). o.text ++ l) (f (or_false (empty (flat inside)) _ q))))

  closer_spelt : (d : ℕ) (c : Token) → spell (new_line (S.indent * d) ∷ c ∷ []) ≡ 10 ∷ (spaces S d ++ c.text)
  unfolding spell spaces
  closer_spelt d c = ap (λ (l : List ℕ). 10 ∷ (replicate (S.indent * d) 32 ++ l)) (append-nil c.text)

  -- a group that is broken has an item
  broken_spelt : (d e : ℕ) (c : Token) (inside : List Token) (is : Items) → Covers inside is
      → ((os : List Token) → spell (lines_as S e is ++ os) ≡ after (lines S e is) (spell os))
      → empty (flat inside) ≡ false → spell (lines_as S e is ++ new_line (S.indent * d) ∷ c ∷ []) ≡ 10 ∷ (join_lines (lines S e is) ++ 10 ∷ (spaces S d ++ c.text))
  unfolding lines empty
  broken_spelt d e c inside end (covers_end a) h q = absurd (let z : true ≡ false = sym (ap empty (blanks_flat a)) ∙ q in let y : ◌≡◌ {A = ℕ} 0 1 = cc in omega arith)
  broken_spelt d e c inside (item r is) cov h q =
      h (new_line (S.indent * d) ∷ c ∷ []) ∙ ap (after (lines S e (item r is))) (closer_spelt d c) ∙ after_join _ (lines S e is) (10 ∷ (spaces S d ++ c.text))

  line_spelt : (d : ℕ) (body rest os : List Token) (text more : List ℕ) → spell body ≡ text → spell (rest ++ os) ≡ more
      → spell (new_line (S.indent * d) ∷ ((body ++ rest) ++ os)) ≡ 10 ∷ ((spaces S d ++ text) ++ more)
  unfolding spell spaces
  line_spelt d body rest os text more e f =
      ap (λ (l : List ℕ). 10 ∷ l)
      (ap (λ (l : List ℕ). replicate (S.indent * d) 32 ++ l) (ap spell (append_assoc body rest os) ∙ spell-append body (rest ++ os) ∙ ap (λ (l : List ℕ). l ++ spell (rest ++ os)) e ∙ ap (λ (l : List ℕ). text ++ l) f)
      ∙ sym (append_assoc (replicate (S.indent * d) 32) text more))

  nothing_spelt : spell [] ≡ []
  unfolding spell
  nothing_spelt = refl

  mutual
    unfolding walk walk_as

    pub walk_spelt : (d n : ℕ) {r : Run} → GoodRun r → spell (walk_as S d n r) ≡ walk S d n r
    walk_spelt d n good_nothing = nothing_spelt
    walk_spelt d n (good_single {t} {r} a g) = shown_spelt t (walk_as S d (column n (shown t)) r) ∙ ap (λ (l : List ℕ). shown t ++ l) (walk_spelt d (column n (shown t)) g)
    walk_spelt d n (good_group {o} {c} {inside} {is} {r} bo vo bc vc a cov fl gi g) =
        spell-append (fit_group_as S d n (following S r) o inside c (lines_as S (suc d) is)) (walk_as S d (column n (fit_group S d n (following S r) o inside c (join_lines (lines S (suc d) is)))) r)
        ∙ ap (λ (l : List ℕ). l ++ spell (walk_as S d (column n (fit_group S d n (following S r) o inside c (join_lines (lines S (suc d) is)))) r))
        (group_spelt d n (following S r) o c inside (lines_as S (suc d) is) (join_lines (lines S (suc d) is)) (broken_spelt d (suc d) c inside is cov (λ os. lines_spelt (suc d) gi os)))
        ∙ ap (λ (l : List ℕ). fit_group S d n (following S r) o inside c (join_lines (lines S (suc d) is)) ++ l) (walk_spelt d (column n (fit_group S d n (following S r) o inside c (join_lines (lines S (suc d) is)))) g)

    pub lines_spelt : (d : ℕ) {is : Items} → GoodItems is → (os : List Token) → spell (lines_as S d is ++ os) ≡ after (lines S d is) (spell os)
    lines_spelt d good_end os = refl
    lines_spelt d (good_item {r} {is} a gr gi) os =
        line_spelt d (fit_or_as S d (tokens_of r) (walk_as S d (S.indent * d) r)) (lines_as S d is) os (fit_or S d (tokens_of r) (walk S d (S.indent * d) r)) (after (lines S d is) (spell os))
        (fit_spelt d (tokens_of r) (walk_as S d (S.indent * d) r) (walk S d (S.indent * d) r) (respaced_firm a (walk_respaced S d (S.indent * d) gr)) (walk_spelt d (S.indent * d) gr))
        (lines_spelt d gi os)
