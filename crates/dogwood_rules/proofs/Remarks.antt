-- A comment cut of white space at the right is a comment again, and ends before an LF.
use mathlib.Core.Path.{◌≡◌, refl, sym, ◌∙◌, ap}
use mathlib.Core.Bool.{Bool, true, false, ◌&&◌}
use mathlib.Core.List.{List, [], ◌∷◌, ◌++◌}
use Prim.Native.Nat.{ℕ, suc}
use native.Mathlib.Omega.{arith}
use lib.Dec.{eqb}
use lib.ListN.{length}
use Rattle.dogwood_rules.specs.Basic.{drop_back, or_drop, run_length}
use Rattle.dogwood_rules.specs.Token.{Token, Kind, Comment, tokenise, white, next, line_end}
use Rattle.dogwood_rules.specs.Tree.{blank, comment, is_comment, is_whitespace}
use Rattle.dogwood_rules.specs.Stands.{stops}
use Rattle.dogwood_rules.specs.Made.{cut_right}
use Rattle.dogwood_rules.proofs.Below.{and_true}
use Rattle.dogwood_rules.proofs.Runs.{run_more, AllPass, pass_end, pass_more, pass_run}
use Rattle.dogwood_rules.proofs.Rules.{Rule, r1, r2, r3, r4, r5, r6, r6', r7, in_line, in_line_slash, slash_second}
use Rattle.dogwood_rules.proofs.Trim.{back_keeps}
use Rattle.dogwood_rules.proofs.Chains.{Read}
use Rattle.dogwood_rules.proofs.Standing.{read_alone}

-- what passes, cut at the right, passes
pass_or : (f : ℕ → Bool) (x : ℕ) (us : List ℕ) → f x ≡ true → AllPass f us → AllPass f (or_drop white x us)
pass_or f x [] e a = go (white x) refl
  where
    go : (b : Bool) → white x ≡ b → AllPass f (or_drop white x [])
    go true q = rw q pass_end
    go false q = rw q (pass_more e pass_end)
pass_or f x (u ∷ us) e a = pass_more e a

pass_back : {f : ℕ → Bool} {cs : List ℕ} → AllPass f cs → AllPass f (drop_back white cs)
pass_back pass_end = pass_end
pass_back {f} (pass_more {c} {cs} e a) = pass_or f c (drop_back white cs) e (pass_back a)

back_twice : (cs : List ℕ) → drop_back white (drop_back white cs) ≡ drop_back white cs
back_twice [] = refl
back_twice (c ∷ cs) = go (drop_back white cs) (back_twice cs)
  where
    or : (b : Bool) → white c ≡ b → drop_back white (or_drop white c []) ≡ or_drop white c []
    or true e = rw e refl
    or false e = rw e (rw e refl)

    go : (us : List ℕ) → drop_back white us ≡ us → drop_back white (or_drop white c us) ≡ or_drop white c us
    go [] h = or (white c) refl
    go (u ∷ us) h = ap (or_drop white c) h

-- What a comment that is read shows -------------------------------------------------------------------------------------

not_comment : {k j : Kind} → k ≡ j → is_comment k ≡ true → is_comment j ≡ false → ⊥
not_comment {k} {j} e a q = let z : is_comment k ≡ is_comment j = ap is_comment e in let y : ◌≡◌ {A = ℕ} 0 1 = cc in omega arith

record IsRemark (c : ℕ) (more : List ℕ) (k : Kind) : Type 0 where
  rest : List ℕ
  is_comment_kind : k ≡ Comment
  no_white : white c ≡ false
  no_quote : eqb c 34 ≡ false
  slash : eqb c 47 ≡ true
  second : more ≡ 47 ∷ rest
  passes : AllPass in_line rest

is_remark : (c : ℕ) (more k : List ℕ) (d : Kind) → is_comment d ≡ true → Rule c (more ++ k) d (length more) → IsRemark c more d
unfolding is_comment
is_remark c more k d w (r1 a e q) = absurd (not_comment e w refl)
is_remark c more k d w (r2 a b e q) = absurd (not_comment e w refl)
is_remark c more k d w (r3 a b s e q) =
    let h = slash_second c more k s q in
    record { rest = h.0; is_comment_kind = e; no_white = a; no_quote = b; slash = (and_true (eqb c 47) (next (eqb 47) (more ++ k)) s).0; second = h.1; passes = h.2 }
is_remark c more k d w (r4 a b s f e q) = absurd (not_comment e w refl)
is_remark c more k d w (r5 a b s f g e q) = absurd (not_comment e w refl)
is_remark c more k d w (r6 a b s f g h e q) = absurd (not_comment e w refl)
is_remark c more k d w (r6' a b s f g h i e q) = absurd (not_comment e w refl)
is_remark c more k d w (r7 a b s f g h i e q) = absurd (not_comment e w refl)

-- a comment that ends in no white space is cut already
cut-same : (u : Token) → comment u ≡ true → drop_back white u.text ≡ u.text → cut_right u ≡ u
unfolding cut_right
cut-same u c e = rw c (ap (λ (l : List ℕ). record { kind = u.kind; text = l }) e)

slash_solid : white 47 ≡ false
unfolding white
slash_solid = refl

module _ (t : Token) (k : List ℕ) (w : comment t ≡ true) (r : Read t k) where
  h : IsRemark r.first r.more t.kind
  unfolding comment
  h = is_remark r.first r.more k t.kind w r.rule

  left : List ℕ
  left = 47 ∷ drop_back white h.rest

  body : drop_back white t.text ≡ r.first ∷ left
  unfolding left
  body =
      ap (drop_back white) (r.text ∙ ap (λ (l : List ℕ). r.first ∷ l) h.second)
      ∙ back_keeps white r.first (47 ∷ h.rest) h.no_white ∙ ap (λ (l : List ℕ). r.first ∷ l) (back_keeps white 47 h.rest slash_solid)

  run : run_length in_line (left ++ []) ≡ length left
  unfolding left
  run = run_more in_line 47 (drop_back white h.rest ++ []) in_line_slash ∙ ap suc (pass_run (pass_back h.passes))

  slashes : eqb r.first 47 && next (eqb 47) (left ++ []) ≡ true
  unfolding left
  slashes = rw h.slash refl

  pub cut_kind : (cut_right t).kind ≡ Comment
  unfolding cut_right
  cut_kind = rw w h.is_comment_kind

  pub cut_text : (cut_right t).text ≡ drop_back white t.text
  unfolding cut_right
  cut_text = rw w refl

  pub cut-comment : comment (cut_right t) ≡ true
  unfolding comment is_comment
  cut-comment = rw cut_kind refl

  pub cut-nonblank : blank (cut_right t) ≡ false
  unfolding blank is_whitespace
  cut-nonblank = rw cut_kind refl

  pub cut_alone : tokenise (cut_right t).text ≡ (cut_right t ∷ [], [])
  cut_alone =
      read_alone (cut_right t) []
      (record { first = r.first; more = left; text = cut_text ∙ body; rule = r3 h.no_white h.no_quote slashes cut_kind run })

  pub cut-stops : stops (cut_right t).kind (cut_right t).text 10 ≡ true
  unfolding stops line_end
  cut-stops = rw cut_kind refl

  pub cut_twice : cut_right (cut_right t) ≡ cut_right t
  cut_twice = cut-same (cut_right t) cut-comment (ap (drop_back white) cut_text ∙ back_twice t.text ∙ sym cut_text)
