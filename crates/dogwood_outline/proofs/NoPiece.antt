-- Answer 3: an outline that fits gives no piece exactly where it has no words and the text no comment.
use mathlib.Core.Path.{◌≡◌, refl, sym, ◌∙◌, ap}
use mathlib.Core.Bool.{Bool, true, false, ◌&&◌}
use mathlib.Core.List.{List, [], ◌∷◌, ◌++◌}
use mathlib.Core.Option.{Option, none, some}
use Prim.Native.Nat.{ℕ}
use native.Mathlib.Omega.{arith}
use lib.Dec.{eqb}
use lib.ListN.{length, drop}
use borrow.Author.Tests.{eqb-true, eqb-false}
use Rattle.dogwood_rules.specs.Basic.{cut, cut_after}
use Rattle.dogwood_rules.specs.Token.{Placed, tokens}
use Rattle.dogwood_rules.specs.Tree.{comment}
use Rattle.dogwood_rules.specs.Outline.{Statement, statement, statements, up_to, within, beyond, parts_of, fits}
use Rattle.dogwood_rules.specs.File.{Piece, laid, remarks, pieces}
use Rattle.dogwood_rules.specs.Searches.{comment_in}
use Rattle.dogwood_rules.proofs.Below.{and_true}
use Rattle.dogwood_rules.proofs.Cutting.{cut_step, cut_stop}
use Rattle.dogwood_outline.specs.Pass.{placed_in, outline_pass, passes}
use Rattle.dogwood_words.specs.Search.{absent}
use Rattle.dogwood_words.proofs.Bools.{false_true}
use Rattle.dogwood_outline.proofs.Texts.{fit_law}

length_none : (ws : List ℕ) → length ws ≡ 0 → ws ≡ []
length_none [] e = refl
length_none (w ∷ ws) e = absurd (omega arith)

remarks_none : (ps : List Placed) → comment_in ps ≡ none → remarks (tokens ps) ≡ []
unfolding remarks tokens comment_in
remarks_none [] e = refl
remarks_none (p ∷ ps) e = go (λ h. remarks_none ps h) (comment p.token) refl
  where
    go : (comment_in ps ≡ none → remarks (tokens ps) ≡ []) → (c : Bool) → comment p.token ≡ c → remarks (tokens (p ∷ ps)) ≡ []
    go ih true q = absurd (let h : some p.start ≡ none = rw (q, comment_in) at e in let z : ◌≡◌ {A = ℕ} 0 1 = cc in omega arith)
    go ih false q = rw (q, remarks) (ih (rw (q, comment_in) at e))

remarks_some : (ps : List Placed) {n : ℕ} → comment_in ps ≡ some n → remarks (tokens ps) ≡ [] → ⊥
unfolding remarks tokens comment_in
remarks_some [] e f = let z : ◌≡◌ {A = ℕ} 0 1 = cc in omega arith
remarks_some (p ∷ ps) {n} e f = go (λ h k. remarks_some ps h k) (comment p.token) refl
  where
    go : (comment_in ps ≡ some n → remarks (tokens ps) ≡ [] → ⊥) → (c : Bool) → comment p.token ≡ c → ⊥
    go ih true q = let z : ◌≡◌ {A = ℕ} 0 1 = (let h = rw (q, remarks) at f in cc) in omega arith
    go ih false q = ih (rw (q, comment_in) at e) (rw (q, remarks) at f)

never_nil : {A : Type 0} {x : A} {xs : List A} → x ∷ xs ≡ [] → ⊥
never_nil e = let z : ◌≡◌ {A = ℕ} 0 1 = cc in omega arith

-- a first record that is read is a piece
statement-piece : (x : Statement) (xs : List Statement) (ps : List Placed) → pieces (x ∷ xs) ps ≡ [] → ⊥
unfolding pieces
statement-piece x xs ps e = by (remarks (tokens (up_to x.span.start ps))) e
  where
    by : (qs : List Piece) → qs ++ laid (parts_of x.parts (within x.span ps)) ∷ pieces xs (beyond x.span ps) ≡ [] → ⊥
    by [] h = never_nil h
    by (q ∷ qs) h = never_nil h

statement_first : (w : ℕ) (ws : List ℕ) (ps : List Placed) → (statements (w ∷ ws)).1 ≡ [] → pieces (statements (w ∷ ws)).0 ps ≡ [] → ⊥
unfolding statements
statement_first w ws ps x f = by (statement (w ∷ ws)) refl
  where
    by : (o : Option (Statement × ℕ)) → statement (w ∷ ws) ≡ o → ⊥
    by none e = never_nil (sym (ap (λ (r : List Statement × List ℕ). r.1) (cut_stop statement w ws e)) ∙ x)
    by (some p) e =
        statement-piece p.0 (cut statement (drop p.1 ws)).0 ps
        (sym (ap (λ (r : List Statement × List ℕ). pieces r.0 ps) (cut_step statement w ws p.0 p.1 e)) ∙ f)

absent_none : (o : Option ℕ) → absent o ≡ true → o ≡ none
absent_none none e = refl
absent_none (some n) e = false_true e

module _ (s ws : List ℕ) (fit : fits (length s) (placed_in s) ws ≡ true) where
  passed : (eqb (length (statements ws).1) 0 ≡ true) × (outline_pass (length s) (statements ws).0 (placed_in s) ≡ true)
  unfolding passes
  passed = and_true (eqb (length (statements ws).1) 0) (outline_pass (length s) (statements ws).0 (placed_in s)) (fit_law s ws ∙ fit)

  pieces_text : length ws ≡ 0 → pieces (statements ws).0 (placed_in s) ≡ remarks (tokens (placed_in s))
  unfolding pieces statements cut cut_after
  pieces_text n = ap (λ (l : List ℕ). pieces (statements l).0 (placed_in s)) (length_none ws n)

  -- a statement
  pieces-statement : (length ws ≡ 0 → ⊥) → pieces (statements ws).0 (placed_in s) ≡ [] → ⊥
  pieces-statement n f = by ws refl
    where
      by : (l : List ℕ) → ws ≡ l → ⊥
      by [] e = n (ap length e)
      by (w ∷ l) e =
          statement_first w l (placed_in s) (ap (λ (x : List ℕ). (statements x).1) (sym e) ∙ length_none (statements ws).1 (eqb-true (length (statements ws).1) 0 passed.0))
          (ap (λ (x : List ℕ). pieces (statements x).0 (placed_in s)) (sym e) ∙ f)

  -- nothing is there exactly where there is no piece
  pub pieces_none : eqb (length ws) 0 && absent (comment_in (placed_in s)) ≡ true → pieces (statements ws).0 (placed_in s) ≡ []
  pieces_none e =
      let h = and_true (eqb (length ws) 0) (absent (comment_in (placed_in s))) e in
      pieces_text (eqb-true (length ws) 0 h.0) ∙ remarks_none (placed_in s) (absent_none (comment_in (placed_in s)) h.1)

  pub pieces_some : eqb (length ws) 0 && absent (comment_in (placed_in s)) ≡ false → pieces (statements ws).0 (placed_in s) ≡ [] → ⊥
  pieces_some e f = by (eqb (length ws) 0) refl (comment_in (placed_in s)) refl
    where
      by : (b : Bool) → eqb (length ws) 0 ≡ b → (o : Option ℕ) → comment_in (placed_in s) ≡ o → ⊥
      by false q o c = pieces-statement (eqb-false (length ws) 0 q) f
      by true q none c = false_true {A = ⊥} (sym (sym (λ i. q i && absent (c i)) ∙ e))
      by true q (some n) c = remarks_some (placed_in s) c (sym (pieces_text (eqb-true (length ws) 0 q)) ∙ f)
