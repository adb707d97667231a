-- A token that is neither white space nor a comment neither begins nor ends in white space.
use mathlib.Core.Path.{◌≡◌, refl, sym, ◌∙◌, ap, subst}
use mathlib.Core.Bool.{Bool, true, false, not}
use mathlib.Core.List.{List, [], ◌∷◌, ◌++◌}
use mathlib.Core.Option.{Option, some}
use Prim.Native.Nat.{ℕ, zero, suc, ◌+◌}
use native.Mathlib.Omega.{arith}
use lib.Dec.{eqb}
use lib.ListN.{take}
use lib.Seq.{take-append_seam}
use borrow.Author.Tests.{ne_eqb, eqb-true}
use Rattle.dogwood_rules.specs.Basic.{run_length, drop_back, or_drop}
use Rattle.dogwood_rules.specs.Token.{Token, Kind, Whitespace, Comment, next, closing, white, wordly, digit, other, double, spell}
use Rattle.dogwood_rules.specs.Tree.{blank, comment, opener, closer, is_whitespace, is_comment}
use Rattle.dogwood_rules.proofs.Runs.{run_more, run_none}
use Rattle.dogwood_rules.proofs.Rules.{Rule, r1, r2, r3, r4, r5, r6, r6', r7}
use Rattle.dogwood_rules.proofs.Calm.{Plain, white_calm_lem, not_double, closing-escaped, closing-quote, closing-plain, up_some, closing_pos}
use Rattle.dogwood_rules.proofs.Trim.{front_keeps, back_keeps, Solid}
use Rattle.dogwood_rules.proofs.Trees.{AllSound, sound_end, sound_blank, sound_word}
use Rattle.dogwood_rules.proofs.Chains.{Read, Chain, chain_end, chain_more, closing_none}

-- a list whose last character is no white space
data Tail : List ℕ → Type 0 where
  tail_one : {z : ℕ} → white z ≡ false → Tail (z ∷ [])
  tail_more : {c : ℕ} {cs : List ℕ} → Tail cs → Tail (c ∷ cs)

tail_back : {cs : List ℕ} → Tail cs → (o : List ℕ) → drop_back white (cs ++ o) ≡ cs ++ drop_back white o
tail_back (tail_one {z} w) o = back_keeps white z o w
tail_back (tail_more {c} {cs} t) o = ap (or_drop white c) (tail_back t o) ∙ go cs t
  where
    go : (ds : List ℕ) → Tail ds → or_drop white c (ds ++ drop_back white o) ≡ c ∷ (ds ++ drop_back white o)
    go [] u = elim u [ ]
    go (d ∷ ds) u = refl

solid : (c : ℕ) (cs : List ℕ) → white c ≡ false → Tail (c ∷ cs) → Solid (c ∷ cs)
solid c cs w t =
    record { full = λ (e : c ∷ cs ≡ []). let z : ◌≡◌ {A = ℕ} 0 1 = cc in omega arith; front = λ o. front_keeps white c (cs ++ o) w; back = tail_back t }

-- what passes a test that no white space passes
not_white : (x : ℕ) (f : ℕ → Bool) → (white x ≡ true → f x ≡ false) → f x ≡ true → white x ≡ false
not_white x f h e = go (white x) refl
  where
    go : (b : Bool) → white x ≡ b → white x ≡ false
    go true w = let q : f x ≡ false = h w in absurd (let z : ◌≡◌ {A = ℕ} 0 1 = cc in omega arith)
    go false w = w

tail_run : (f : ℕ → Bool) → ((x : ℕ) → f x ≡ true → white x ≡ false) → (c : ℕ) (rest : List ℕ) → white c ≡ false → Tail (c ∷ take (run_length f rest) rest)
tail_run f h c [] w = tail_one w
tail_run f h c (x ∷ xs) w = go (λ e. tail_run f h x xs (h x e)) (f x) refl
  where
    go : (f x ≡ true → Tail (x ∷ take (run_length f xs) xs)) → (b : Bool) → f x ≡ b → Tail (c ∷ take (run_length f (x ∷ xs)) (x ∷ xs))
    go ih true e = rw (run_more f x xs e) (tail_more (ih e))
    go ih false e = rw (run_none f x xs e) (tail_one w)

-- a string ends in its closing quote
quote_solid : white 34 ≡ false
unfolding white
quote_solid = refl

tail_string : (b : Bool) (cs : List ℕ) (n : ℕ) → closing b cs ≡ some n → Tail (take n cs)
tail_string b cs zero e = absurd (closing_pos b cs e)
tail_string b [] (suc n) e = absurd (closing_none b (suc n) e)
tail_string true (c ∷ cs) (suc n) e = tail_more (tail_string false cs n (up_some (closing false cs) n (sym (closing-escaped c cs) ∙ e)))
tail_string false (c ∷ cs) (suc n) e = go (λ b h. tail_string b cs n h) (eqb c 34) refl
  where
    go : ((b : Bool) → closing b cs ≡ some n → Tail (take n cs)) → (t : Bool) → eqb c 34 ≡ t → Tail (c ∷ take n cs)
    go ih true q =
        let z : ◌≡◌ {A = Option ℕ} (some 1) (some (suc n)) = sym (closing-quote c cs q) ∙ e in
        let y : n ≡ 0 = (let x : 1 ≡ suc n = cc in omega arith) in
        rw y (tail_one (ap white (eqb-true c 34 q) ∙ quote_solid))
    go ih false q = tail_more (ih (eqb c 92) (up_some (closing (eqb c 92) cs) n (sym (closing-plain c cs q) ∙ e)))

tail_double : (c : ℕ) (rest : List ℕ) → white c ≡ false → next (double c) rest ≡ true → Tail (c ∷ take 1 rest)
tail_double c [] w e = tail_one w
tail_double c (x ∷ xs) w e = tail_more (tail_one (not_white x (double c) (λ u. not_double c x w u) e))

rule_tail : {c : ℕ} {rest : List ℕ} {k : Kind} {n : ℕ} → Plain k → Rule c rest k n → (white c ≡ false) × Tail (c ∷ take n rest)
rule_tail p (r1 a e q) = absurd (p.no_whitespace e)
rule_tail {rest} {n} p (r2 a b e q) = (a, tail_more (tail_string false rest n q))
rule_tail p (r3 a b d e q) = absurd (p.no_comment e)
rule_tail {c} {rest} p (r4 a b d f e q) = (a, rw (← q) (tail_run wordly (λ x. not_white x wordly (λ w. (white_calm_lem x w).no_word)) c rest a))
rule_tail {c} {rest} p (r5 a b d f g e q) = (a, rw (← q) (tail_run digit (λ x. not_white x digit (λ w. (white_calm_lem x w).no_digit)) c rest a))
rule_tail {c} {rest} p (r6 a b d f g h e q) = (a, rw q (tail_double c rest a h))
rule_tail {c} {rest} p (r6' a b d f g h i e q) = (a, rw q (tail_one a))
rule_tail {c} {rest} p (r7 a b d f g h i e q) = (a, rw (← q) (tail_run other (λ x. not_white x other (λ w. (white_calm_lem x w).no_other)) c rest a))

read_solid : (t : Token) (k : List ℕ) → Plain t.kind → Read t k → Solid t.text
read_solid t k p r =
    let h = rule_tail p r.rule in
    subst Solid (sym r.text) (solid r.first r.more h.0 (subst (λ (l : List ℕ). Tail (r.first ∷ l)) (take-append_seam r.more k) h.1))

-- White space is no bracket ------------------------------------------------------------------------------------

clash : {k j : Kind} {b : Bool} → k ≡ j → is_whitespace k ≡ b → is_whitespace j ≡ not b → ⊥
clash {k} {j} {b = true} e a q = let z : is_whitespace k ≡ is_whitespace j = ap is_whitespace e in let y : ◌≡◌ {A = ℕ} 0 1 = cc in omega arith
clash {k} {j} {b = false} e a q = let z : is_whitespace k ≡ is_whitespace j = ap is_whitespace e in let y : ◌≡◌ {A = ℕ} 0 1 = cc in omega arith

clash' : {k j : Kind} → k ≡ j → is_comment k ≡ false → is_comment j ≡ true → ⊥
clash' {k} {j} e a q = let z : is_comment k ≡ is_comment j = ap is_comment e in let y : ◌≡◌ {A = ℕ} 0 1 = cc in omega arith

blank_first : {c : ℕ} {rest : List ℕ} {k : Kind} {n : ℕ} → Rule c rest k n → is_whitespace k ≡ true → white c ≡ true
unfolding is_whitespace
blank_first (r1 a e q) b = a
blank_first (r2 a f e q) b = absurd (clash e b refl)
blank_first (r3 a f d e q) b = absurd (clash e b refl)
blank_first (r4 a f d g e q) b = absurd (clash e b refl)
blank_first (r5 a f d g h e q) b = absurd (clash e b refl)
blank_first (r6 a f d g h i e q) b = absurd (clash e b refl)
blank_first (r6' a f d g h i j e q) b = absurd (clash e b refl)
blank_first (r7 a f d g h i j e q) b = absurd (clash e b refl)

differ : (x c : ℕ) → white x ≡ true → white c ≡ false → eqb x c ≡ false
differ x c w v = ne_eqb x c (λ (q : x ≡ c). let z : white x ≡ white c = ap white q in let y : ◌≡◌ {A = ℕ} 0 1 = cc in omega arith)

pub not_opener : (t : Token) (x : ℕ) (more : List ℕ) → t.text ≡ x ∷ more → white x ≡ true → opener t ≡ false
unfolding opener white
not_opener t x more e w = rw e (simp (differ x 40 w refl, differ x 91 w refl, differ x 123 w refl))

pub not_closer : (t : Token) (x : ℕ) (more : List ℕ) → t.text ≡ x ∷ more → white x ≡ true → closer t ≡ false
unfolding closer white
not_closer t x more e w = rw e (simp (differ x 41 w refl, differ x 93 w refl, differ x 125 w refl))

pub kind_plain : (k : Kind) → is_whitespace k ≡ false → is_comment k ≡ false → Plain k
unfolding is_whitespace is_comment
kind_plain k a b =
    record { no_whitespace = λ (e : k ≡ Whitespace). clash e a refl; no_comment = λ (e : k ≡ Comment). clash' e b refl }

-- Runs without comments -----------------------------------------------------------------------------------------

pub data NoComment : List Token → Type 0 where
  no_comment_end : NoComment []
  no_comment_lem : {t : Token} {ts : List Token} → comment t ≡ false → NoComment ts → NoComment (t ∷ ts)

-- tokens that are read, none of them a comment: each is white space and no bracket, or solid
pub all_sound : {k : List ℕ} {ts : List Token} → Chain k ts → NoComment ts → AllSound ts
unfolding blank comment
all_sound chain_end no_comment_end = sound_end
all_sound {k} (chain_more {t} {ts} r c) (no_comment_lem n m) = go (all_sound c m) (blank t) refl
  where
    go : AllSound ts → (b : Bool) → blank t ≡ b → AllSound (t ∷ ts)
    go a true e =
        let w = blank_first r.rule e in
        sound_blank e (not_opener t r.first r.more r.text w) (not_closer t r.first r.more r.text w) a
    go a false e = sound_word e (read_solid t (spell ts ++ k) (kind_plain t.kind e n) r) a
