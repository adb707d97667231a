-- White space ends every token but white space and a comment.
use mathlib.Core.Path.{◌≡◌, refl, sym, ◌∙◌, ap}
use mathlib.Core.Bool.{Bool, true, false, not, ◌&&◌, ◌||◌}
use mathlib.Core.List.{List, [], ◌∷◌, ◌++◌}
use mathlib.Core.Option.{Option, none, some}
use Prim.Native.Nat.{ℕ, suc, ◌+◌, ◌<◌, ◌≤◌}
use native.Mathlib.Omega.{arith}
use lib.Dec.{ltb, leb, eqb}
use lib.ListN.{length}
use borrow.Author.Tests.{lt-leb, ne_eqb, ltb-true, ltb-false}
use Rattle.dogwood_rules.specs.Basic.{within}
use Rattle.dogwood_rules.specs.Token.{Kind, Whitespace, Comment, next, white, letter, digit, wordly, single, double, other, closing}
use Rattle.dogwood_rules.proofs.Below.{every_below, below, and_true, not_true}
use Rattle.dogwood_rules.proofs.Runs.{run_stops, next-stops}
use Rattle.dogwood_rules.proofs.Rules.{Rule, r1, r2, r3, r4, r5, r6, r6', r7}

-- a character that ends a word, a number, a symbol and other text
pub record Calm (x : ℕ) : Type 0 where
  pub no_word : wordly x ≡ false
  pub no_digit : digit x ≡ false
  pub no_slash : eqb 47 x ≡ false
  pub no_equals : eqb x 61 ≡ false
  pub no_other : other x ≡ false

calm : ℕ → Bool
calm x = not (wordly x) && (not (digit x) && (not (eqb 47 x) && (not (eqb x 61) && not (other x))))

calm_record : (x : ℕ) → calm x ≡ true → Calm x
unfolding calm
calm_record x e =
    let a = and_true (not (wordly x)) (not (digit x) && (not (eqb 47 x) && (not (eqb x 61) && not (other x)))) e in
    let b = and_true (not (digit x)) (not (eqb 47 x) && (not (eqb x 61) && not (other x))) a.1 in
    let d = and_true (not (eqb 47 x)) (not (eqb x 61) && not (other x)) b.1 in
    let f = and_true (not (eqb x 61)) (not (other x)) d.1 in
    record { no_word = not_true _ a.0; no_digit = not_true _ b.0; no_slash = not_true _ d.0; no_equals = not_true _ f.0; no_other = not_true _ f.1 }

white_calm : ℕ → Bool
white_calm x = not (white x) || calm x

or_true : (a b : Bool) → not a || b ≡ true → a ≡ true → b ≡ true
or_true true b e q = e
or_true false b e q = absurd (let y : ◌≡◌ {A = ℕ} 0 1 = cc in omega arith)

small : every_below white_calm 133 ≡ true
unfolding white_calm calm white wordly letter digit other single
small = refl

pub above : (low high n : ℕ) → high < n → within low high n ≡ false
above low high n k = go (leb low n) refl
  where
    go : (b : Bool) → leb low n ≡ b → within low high n ≡ false
    go true e = simp (e, lt-leb n high k)
    go false e = simp e

pub white_calm_lem : (x : ℕ) → white x ≡ true → Calm x
unfolding white_calm wordly letter digit other
white_calm_lem x w = go (ltb x 133) refl
  where
    go : (b : Bool) → ltb x 133 ≡ b → Calm x
    go true e = calm_record x (or_true (white x) (calm x) (below white_calm 133 small x (ltb-true x 133 e)) w)
    go false e =
        let h : 133 ≤ x = ltb-false x 133 e in
        record {
          no_word = simp (above 65 90 x (omega arith), above 97 122 x (omega arith), ne_eqb x 95 (λ (q : x ≡ 95). omega arith), above 48 57 x (omega arith));
          no_digit = above 48 57 x (omega arith);
          no_slash = ne_eqb 47 x (λ (q : 47 ≡ x). omega arith);
          no_equals = ne_eqb x 61 (λ (q : x ≡ 61). omega arith);
          no_other = simp w;
        }

-- Strings ------------------------------------------------------------------------------------------

-- one more, if any
abbrev pub up : Option ℕ → Option ℕ
up none = none
up (some n) = some (suc n)

pub closing-escaped : (c : ℕ) (cs : List ℕ) → closing true (c ∷ cs) ≡ up (closing false cs)
unfolding closing
closing-escaped c cs = refl

pub closing-quote : (c : ℕ) (cs : List ℕ) → eqb c 34 ≡ true → closing false (c ∷ cs) ≡ some 1
unfolding closing
closing-quote c cs q = rw (q, closing) refl

pub closing-plain : (c : ℕ) (cs : List ℕ) → eqb c 34 ≡ false → closing false (c ∷ cs) ≡ up (closing (eqb c 92) cs)
unfolding closing
closing-plain c cs q = rw (q, closing) refl

pub up_some : (o : Option ℕ) (n : ℕ) → up o ≡ some (suc n) → o ≡ some n
up_some none n e = cc
up_some (some m) n e = cc

up_pos : (o : Option ℕ) → up o ≡ some 0 → ⊥
up_pos none e = let z : ◌≡◌ {A = ℕ} 0 1 = cc in omega arith
up_pos (some m) e = let z : suc m ≡ 0 = cc in omega arith

pub closing_pos : (b : Bool) (cs : List ℕ) → closing b cs ≡ some 0 → ⊥
unfolding closing
closing_pos b [] e = let z : ◌≡◌ {A = ℕ} 0 1 = cc in omega arith
closing_pos true (c ∷ cs) e = up_pos (closing false cs) (sym (closing-escaped c cs) ∙ e)
closing_pos false (c ∷ cs) e = go (eqb c 34) refl
  where
    go : (t : Bool) → eqb c 34 ≡ t → ⊥
    go true q = let z : ◌≡◌ {A = Option ℕ} (some 1) (some 0) = sym (closing-quote c cs q) ∙ e in let y : ◌≡◌ {A = ℕ} 1 0 = cc in omega arith
    go false q = up_pos (closing (eqb c 92) cs) (sym (closing-plain c cs q) ∙ e)

-- how far a string goes does not depend on what stands behind it
pub closing_front : (b : Bool) (cs k k' : List ℕ) → closing b (cs ++ k) ≡ some (length cs) → closing b (cs ++ k') ≡ some (length cs)
closing_front b [] k k' e = absurd (closing_pos b k e)
closing_front true (c ∷ cs) k k' e =
    closing-escaped c (cs ++ k') ∙ ap up (closing_front false cs k k' (up_some (closing false (cs ++ k)) (length cs) (sym (closing-escaped c (cs ++ k)) ∙ e)))
closing_front false (c ∷ cs) k k' e = go (λ b e'. closing_front b cs k k' e') (eqb c 34) refl
  where
    go : ((b : Bool) → closing b (cs ++ k) ≡ some (length cs) → closing b (cs ++ k') ≡ some (length cs)) → (t : Bool) → eqb c 34 ≡ t → closing false (c ∷ (cs ++ k')) ≡ some (suc (length cs))
    go ih true q = closing-quote c (cs ++ k') q ∙ sym (closing-quote c (cs ++ k) q) ∙ e
    go ih false q = closing-plain c (cs ++ k') q ∙ ap up (ih (eqb c 92) (up_some (closing (eqb c 92) (cs ++ k)) (length cs) (sym (closing-plain c (cs ++ k) q) ∙ e)))

-- Behind a token ------------------------------------------------------------------------------------

pub not_double : (c x : ℕ) → white c ≡ false → white x ≡ true → double c x ≡ false
unfolding double
not_double c x a w = simp ((white_calm_lem x w).no_equals, differ)
  where
    differ : eqb c x ≡ false
    differ = ne_eqb c x (λ (q : c ≡ x). let z : white c ≡ white x = ap white q in absurd (let y : ◌≡◌ {A = ℕ} 0 1 = cc in omega arith))

-- the test on the second slash, with white space behind a token
slash_stops : (c : ℕ) (cs k k' : List ℕ) (x : ℕ) → eqb c 47 && next (eqb 47) (cs ++ k) ≡ false → white x ≡ true → eqb c 47 && next (eqb 47) (cs ++ x ∷ k') ≡ false
slash_stops c cs k k' x e w = go (eqb c 47) refl
  where
    go : (t : Bool) → eqb c 47 ≡ t → eqb c 47 && next (eqb 47) (cs ++ x ∷ k') ≡ false
    go true q = rw q (next-stops (eqb 47) cs k k' x (rw q at e) (white_calm_lem x w).no_slash)
    go false q = rw q refl

pub next-within : (f : ℕ → Bool) (cs k k' : List ℕ) → length cs ≡ 1 → next f (cs ++ k) ≡ true → next f (cs ++ k') ≡ true
next-within f [] k k' e h = absurd (omega arith)
next-within f (c ∷ cs) k k' e h = h

pub record Plain (k : Kind) : Type 0 where
  pub no_whitespace : k ≡ Whitespace → ⊥
  pub no_comment : k ≡ Comment → ⊥

-- a rule gives the same token with white space right behind it
pub stays : (c : ℕ) (cs k k' : List ℕ) (x : ℕ) (d : Kind) → Plain d → white x ≡ true → Rule c (cs ++ k) d (length cs) → Rule c (cs ++ x ∷ k') d (length cs)
stays c cs k k' x d p w (r1 a e q) = absurd (p.no_whitespace e)
stays c cs k k' x d p w (r2 a b e q) = r2 a b e (closing_front false cs k (x ∷ k') q)
stays c cs k k' x d p w (r3 a b s e q) = absurd (p.no_comment e)
stays c cs k k' x d p w (r4 a b s f e q) = r4 a b (slash_stops c cs k k' x s w) f e (run_stops wordly cs k k' x q (white_calm_lem x w).no_word)
stays c cs k k' x d p w (r5 a b s f g e q) = r5 a b (slash_stops c cs k k' x s w) f g e (run_stops digit cs k k' x q (white_calm_lem x w).no_digit)
stays c cs k k' x d p w (r6 a b s f g h e q) = r6 a b (slash_stops c cs k k' x s w) f g (next-within (double c) cs k (x ∷ k') q h) e q
stays c cs k k' x d p w (r6' a b s f g h i e q) = r6' a b (slash_stops c cs k k' x s w) f g (next-stops (double c) cs k k' x h (not_double c x a w)) i e q
stays c cs k k' x d p w (r7 a b s f g h i e q) = r7 a b (slash_stops c cs k k' x s w) f g (next-stops (double c) cs k k' x h (not_double c x a w)) i e (run_stops other cs k k' x q (white_calm_lem x w).no_other)
