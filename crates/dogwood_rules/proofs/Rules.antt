-- The token rules one by one: which of them gave a token, and what may stand behind it.
use mathlib.Core.Path.{◌≡◌, refl, sym, ◌∙◌, ap, subst}
use mathlib.Core.Bool.{Bool, true, false, not, ◌&&◌}
use mathlib.Core.List.{List, [], ◌∷◌, ◌++◌}
use mathlib.Core.Option.{Option, none, some}
use Prim.Native.Nat.{ℕ, suc, ◌+◌}
use native.Mathlib.Omega.{arith}
use lib.Dec.{eqb}
use lib.ListN.{length, take}
use Rattle.dogwood_rules.specs.Basic.{run_length}
use Rattle.dogwood_rules.specs.Token.{Token, Kind, Whitespace, Comment, String, Identifier, Number, Symbol, Other, next, white, letter, digit, wordly, single, double, other, line_end, closing, token, piece, string_piece}
use Rattle.dogwood_rules.proofs.Runs.{run_more, run_passes, AllPass, pass_of}
use borrow.Author.Tests.{eqb-true}
use Rattle.dogwood_rules.proofs.Below.{and_true}

abbrev pub in_line : ℕ → Bool
in_line a = not (line_end a)

-- the rule that gives, at a character c with rest behind it, a token of kind k with n more characters
pub data Rule (c : ℕ) (rest : List ℕ) (k : Kind) (n : ℕ) : Type 0 where
  r1 : white c ≡ true → k ≡ Whitespace → run_length white rest ≡ n → Rule c rest k n
  r2 : white c ≡ false → eqb c 34 ≡ true → k ≡ String → closing false rest ≡ some n → Rule c rest k n
  r3 : white c ≡ false → eqb c 34 ≡ false → eqb c 47 && next (eqb 47) rest ≡ true → k ≡ Comment → run_length in_line rest ≡ n → Rule c rest k n
  r4 : white c ≡ false → eqb c 34 ≡ false → eqb c 47 && next (eqb 47) rest ≡ false → letter c ≡ true → k ≡ Identifier → run_length wordly rest ≡ n → Rule c rest k n
  r5 : white c ≡ false → eqb c 34 ≡ false → eqb c 47 && next (eqb 47) rest ≡ false → letter c ≡ false → digit c ≡ true → k ≡ Number → run_length digit rest ≡ n → Rule c rest k n
  r6 : white c ≡ false → eqb c 34 ≡ false → eqb c 47 && next (eqb 47) rest ≡ false → letter c ≡ false → digit c ≡ false → next (double c) rest ≡ true → k ≡ Symbol → n ≡ 1 → Rule c rest k n
  r6' : white c ≡ false → eqb c 34 ≡ false → eqb c 47 && next (eqb 47) rest ≡ false → letter c ≡ false → digit c ≡ false → next (double c) rest ≡ false → single c ≡ true → k ≡ Symbol → n ≡ 0 → Rule c rest k n
  r7 : white c ≡ false → eqb c 34 ≡ false → eqb c 47 && next (eqb 47) rest ≡ false → letter c ≡ false → digit c ≡ false → next (double c) rest ≡ false → single c ≡ false → k ≡ Other → run_length other rest ≡ n → Rule c rest k n

abbrev pub made : ℕ → List ℕ → Kind → ℕ → Option (Token × ℕ)
made c rest k n = some (record { kind = k; text = c ∷ take n rest }, n)

-- a rule gives its token
pub rule_gives : (c : ℕ) (rest : List ℕ) (k : Kind) (n : ℕ) → Rule c rest k n → token (c ∷ rest) ≡ made c rest k n
unfolding token piece string_piece
rule_gives c rest k n (r1 a e q) = rw (e, ← q) (simp a)
rule_gives c rest k n (r2 a b e q) = rw e (simp (a, b, q))
rule_gives c rest k n (r3 a b d e q) = rw (e, ← q) (simp (a, b, d))
rule_gives c rest k n (r4 a b d f e q) = rw (e, ← q) (simp (a, b, d, f))
rule_gives c rest k n (r5 a b d f g e q) = rw (e, ← q) (simp (a, b, d, f, g))
rule_gives c rest k n (r6 a b d f g h e q) = rw (e, q) (simp (a, b, d, f, g, h))
rule_gives c rest k n (r6' a b d f g h i e q) = rw (e, q) (simp (a, b, d, f, g, h, i))
rule_gives c rest k n (r7 a b d f g h i e q) = rw (e, ← q) (simp (a, b, d, f, g, h, i))

-- what a token that was found shows: the rule that gave it, and its text
same-token : (c : ℕ) (rest : List ℕ) (k : Kind) (m : ℕ) (t : Token) (n : ℕ) → made c rest k m ≡ some (t, n) → (k ≡ t.kind) × (m ≡ n) × (c ∷ take m rest ≡ t.text)
same-token c rest k m t n e = (ap (λ (x : Token × ℕ). x.0.kind) p, ap (λ (x : Token × ℕ). x.1) p, ap (λ (x : Token × ℕ). x.0.text) p)
  where
    p : ◌≡◌ {A = Token × ℕ} (record { kind = k; text = c ∷ take m rest }, m) (t, n)
    p = cc

found : (c : ℕ) (rest : List ℕ) (k : Kind) (m : ℕ) (t : Token) (n : ℕ) → Rule c rest k m → token (c ∷ rest) ≡ some (t, n) → Rule c rest t.kind n × (t.text ≡ c ∷ take n rest)
found c rest k m t n r h =
    let e = same-token c rest k m t n (sym (rule_gives c rest k m r) ∙ h) in
    (subst (λ (j : Kind). Rule c rest j n) e.0 (subst (λ (j : ℕ). Rule c rest k j) e.1 r), sym e.2 ∙ ap (λ (j : ℕ). c ∷ take j rest) e.1)

pub rule_of : (c : ℕ) (rest : List ℕ) (t : Token) (n : ℕ) → token (c ∷ rest) ≡ some (t, n) → Rule c rest t.kind n × (t.text ≡ c ∷ take n rest)
unfolding token string_piece
rule_of c rest t n h = go1 (white c) refl
  where
    Goal : Type 0
    Goal = Rule c rest t.kind n × (t.text ≡ c ∷ take n rest)

    go7 : white c ≡ false → eqb c 34 ≡ false → eqb c 47 && next (eqb 47) rest ≡ false → letter c ≡ false → digit c ≡ false → next (double c) rest ≡ false → (b : Bool) → single c ≡ b → Goal
    go7 e₁ e₂ e₃ e₄ e₅ e₆ true e = found c rest Symbol 0 t n (r6' e₁ e₂ e₃ e₄ e₅ e₆ e refl refl) h
    go7 e₁ e₂ e₃ e₄ e₅ e₆ false e = found c rest Other (run_length other rest) t n (r7 e₁ e₂ e₃ e₄ e₅ e₆ e refl refl) h

    go6 : white c ≡ false → eqb c 34 ≡ false → eqb c 47 && next (eqb 47) rest ≡ false → letter c ≡ false → digit c ≡ false → (b : Bool) → next (double c) rest ≡ b → Goal
    go6 e₁ e₂ e₃ e₄ e₅ true e = found c rest Symbol 1 t n (r6 e₁ e₂ e₃ e₄ e₅ e refl refl) h
    go6 e₁ e₂ e₃ e₄ e₅ false e = go7 e₁ e₂ e₃ e₄ e₅ e (single c) refl

    go5 : white c ≡ false → eqb c 34 ≡ false → eqb c 47 && next (eqb 47) rest ≡ false → letter c ≡ false → (b : Bool) → digit c ≡ b → Goal
    go5 e₁ e₂ e₃ e₄ true e = found c rest Number (run_length digit rest) t n (r5 e₁ e₂ e₃ e₄ e refl refl) h
    go5 e₁ e₂ e₃ e₄ false e = go6 e₁ e₂ e₃ e₄ e (next (double c) rest) refl

    go4 : white c ≡ false → eqb c 34 ≡ false → eqb c 47 && next (eqb 47) rest ≡ false → (b : Bool) → letter c ≡ b → Goal
    go4 e₁ e₂ e₃ true e = found c rest Identifier (run_length wordly rest) t n (r4 e₁ e₂ e₃ e refl refl) h
    go4 e₁ e₂ e₃ false e = go5 e₁ e₂ e₃ e (digit c) refl

    go3 : white c ≡ false → eqb c 34 ≡ false → (b : Bool) → eqb c 47 && next (eqb 47) rest ≡ b → Goal
    go3 e₁ e₂ true e = found c rest Comment (run_length in_line rest) t n (r3 e₁ e₂ e refl refl) h
    go3 e₁ e₂ false e = go4 e₁ e₂ e (letter c) refl

    go_string : white c ≡ false → eqb c 34 ≡ true → (o : Option ℕ) → closing false rest ≡ o → Goal
    go_string e₁ e₂ none e =
        let q : token (c ∷ rest) ≡ none = simp (e₁, e₂, e) in
        absurd (let z : ◌≡◌ {A = ℕ} 0 1 = cc in omega arith)
    go_string e₁ e₂ (some m) e = found c rest String m t n (r2 e₁ e₂ refl e) h

    go2 : white c ≡ false → (b : Bool) → eqb c 34 ≡ b → Goal
    go2 e₁ true e = go_string e₁ e (closing false rest) refl
    go2 e₁ false e = go3 e₁ e (eqb c 47 && next (eqb 47) rest) refl

    go1 : (b : Bool) → white c ≡ b → Goal
    go1 true e = found c rest Whitespace (run_length white rest) t n (r1 e refl refl) h
    go1 false e = go2 e (eqb c 34) refl

-- Comments --------------------------------------------------------------------------------------------------

pub in_line_slash : in_line 47 ≡ true
unfolding line_end
in_line_slash = refl

-- the second slash of a comment is its own, and what follows it lies in the line
pub slash_second : (c : ℕ) (more k : List ℕ) → eqb c 47 && next (eqb 47) (more ++ k) ≡ true → run_length in_line (more ++ k) ≡ length more → (rest : List ℕ) × (more ≡ 47 ∷ rest) × AllPass in_line rest
slash_second c [] [] d q = absurd (let z = (and_true (eqb c 47) false d).1 in let y : ◌≡◌ {A = ℕ} 0 1 = cc in omega arith)
slash_second c [] (x ∷ k) d q =
    let h = (and_true (eqb c 47) (eqb 47 x) d).1 in
    let r : run_length in_line (x ∷ k) ≡ suc (run_length in_line k) = run_more in_line x k (ap in_line (sym (eqb-true 47 x h)) ∙ in_line_slash) in
    absurd (omega arith)
slash_second c (x ∷ more) k d q =
    let h = (and_true (eqb c 47) (eqb 47 x) d).1 in
    let r = run_passes in_line x (more ++ k) (length more) q in
    (more, ap (λ (y : ℕ). y ∷ more) (sym (eqb-true 47 x h)), pass_of in_line more k r.1)
