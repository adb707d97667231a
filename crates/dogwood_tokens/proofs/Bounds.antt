-- A token is not empty, and lies within the text.
use Prim.Native.Nat.{ℕ, ◌+◌, ◌<◌, ◌≤◌}
use mathlib.Core.Path.{◌≡◌, refl, sym, ap, ◌∙◌}
use mathlib.Core.Bool.{Bool, true, false, cond, ◌&&◌, ◌||◌, false≢true}
use mathlib.Core.Logic.{⊎_elim}
use mathlib.Core.List.{List}
use native.Mathlib.Omega.{arith}
use borrow.Author.Tests.{eqb-true, ltb-true, ltb-false}
use lib.ListN.{length, get_or, get_or-eq_default}
use lib.Dec.{eqb, ltb}
use Rattle.utf8.specs.Utf8.{decode_at}
use Rattle.utf8.specs.Walk.{stop, go}
use Rattle.utf8.proofs.Cases.{tested, and_true}
use Rattle.utf8.proofs.Walk.{from_ind, stop≢go}
use Rattle.utf8.proofs.Inside.{inside}
use Rattle.dogwood_tokens.specs.declared.token.Lexeme.TheVariants.{Token}
use Rattle.dogwood_rules.specs.Token.{white, letter, digit, wordly, single, double, line_end, other}
use Rattle.dogwood_scans.specs.Run.{past_one, run_step, run_end, escaped, quoted, string_step, string_end}
use Rattle.dogwood_letters.specs.Symbol.{symbol_len}
use Rattle.dogwood_tokens.specs.Token.{string_to, begins, lexeme, token_at, symbol_or}
use Rattle.dogwood_scans.proofs.Run.{run_onward, run_on, string_onward}
use Rattle.dogwood_letters.proofs.SymbolLaws.{double-zero}
use Rattle.std.specs.Prelude.{None, Option, Some}
use Rattle.utf8.specs.declared.Char.{Char}
use Rattle.dogwood_letters.specs.Promises.{in_line}
use Rattle.utf8.specs.Char.{char_of}
use Rattle.dogwood_rows.specs.declared.kind.Kind.{Kind}
use Rattle.dogwood_rows.specs.declared.kind.Kind.TheVariants as K

-- ---- a run

pub run_stop : (k : ℕ → Bool) (s : List ℕ) (i r : ℕ) → run_step k s i ≡ stop r → r ≡ i
unfolding run_step
run_stop k s i r e = by (decode_at s i) e
  where
    in_class_lem : (t : Bool) (n : ℕ) → cond t (go (tt {0}) (i + n)) (stop i) ≡ stop r → r ≡ i
    in_class_lem true n e = absurd (stop≢go (sym e))
    in_class_lem false n e = cc

    by : (d : Option Char) → past_one k i d ≡ stop r → r ≡ i
    by (Some x) e = let c = x.code in let n = x.len in in_class_lem (k c) n e
    by None e = cc

run_bounds : (k : ℕ → Bool) (s : List ℕ) (i : ℕ) → i ≤ length s → (i ≤ run_end k s i) × (run_end k s i ≤ length s)
unfolding run_end
run_bounds k s =
    from_ind (run_step k s) (λ u r. r) (length s) (length s) (run_onward k s) (λ i r. i ≤ length s → (i ≤ r) × (r ≤ length s))
    (λ i r e h. let q = run_stop k s i r e in omega arith)
    (λ i j a r e p h. let o = run_onward k s i a j e in let q = p o.1 in omega arith)

pub run_some : (k : ℕ → Bool) (s : List ℕ) (i : ℕ) {c n : ℕ} → decode_at s i ≡ char_of c n → k c ≡ true
    → (i < run_end k s i) × (run_end k s i ≤ length s)
run_some k s i {c} {n} e h =
    let p = inside s i e in
    let q = run_bounds k s (i + n) p.1 in
    rw (run_on k s i e h) (omega arith)

-- ---- a string

pub string_inside : (s : List ℕ) (i e : ℕ) → string_end s i ≡ Some e → (i < e) × (e ≤ length s)
unfolding string_end string_step
string_inside s i =
    from_ind (string_step s) (λ u r. r) None (length s) (string_onward s) (λ i r. (e : ℕ) → r ≡ Some e → (i < e) × (e ≤ length s))
    stops
    (λ i j a r g p e h. let o = string_onward s i a j g in let q = p e h in omega arith)
    i
  where
    never : (e : ℕ) → None ≡ Some e → ⊥
    never e h = let z : ◌≡◌ {A = ℕ} 0 1 = cc in omega arith

    esc : (m : ℕ) (d : Option Char) (r : Option ℕ) → escaped m d ≡ stop r → r ≡ None
    esc m (Some x) r g = absurd (stop≢go (sym g))
    esc m None r g = cc

    tests : (i c n : ℕ) (t u : Bool) (r : Option ℕ) (e : ℕ) → decode_at s i ≡ char_of c n
        → cond t (stop (Some (i + n))) (cond u (escaped (i + n) (decode_at s (i + n))) (go (tt {0}) (i + n))) ≡ stop r → r ≡ Some e → (i < e) × (e ≤ length s)
    tests i c n true u r e d g h = let q : i + n ≡ e = cc in let p = inside s i d in omega arith
    tests i c n false true r e d g h = absurd (never e (sym (esc (i + n) (decode_at s (i + n)) r g) ∙ h))
    tests i c n false false r e d g h = absurd (stop≢go (sym g))

    by : (i : ℕ) (d : Option Char) (r : Option ℕ) (e : ℕ) → decode_at s i ≡ d → quoted s i d ≡ stop r → r ≡ Some e → (i < e) × (e ≤ length s)
    by i (Some x) r e d g h = let c = x.code in let n = x.len in tests i c n (eqb c 0x22) (eqb c 0x5C) r e d g h
    by i None r e d g h = absurd (never e cc)

    stops : (i : ℕ) (r : Option ℕ) → string_step s i ≡ stop r → (e : ℕ) → r ≡ Some e → (i < e) × (e ≤ length s)
    stops i r g e h = by i (decode_at s i) r e refl g h

-- ---- a token

-- a symbol of two characters lies within the text
pub double_inside : (s : List ℕ) (c k : ℕ) → double c (get_or s k 0) ≡ true → k < length s
double_inside s c k e = ⊎_elim (λ t. ltb-true k (length s) t) (λ f. absurd (false≢true (out f))) (tested (ltb k (length s)))
  where
    out : ltb k (length s) ≡ false → false ≡ true
    out f = sym (double-zero c) ∙ ap (double c) (sym (get_or-eq_default s 0 (ltb-false k (length s) f))) ∙ e

or_left : (a b : Bool) → a ≡ true → (a || b) ≡ true
or_left true b e = refl
or_left false b e = absurd (false≢true e)

module _ (s : List ℕ) (i c n : ℕ) (d : decode_at s i ≡ char_of c n) (k : Kind) (e : ℕ) where
  as_end : (m : Kind) (x : ℕ) → Token m x ≡ Token k e → (i < x) × (x ≤ length s) → (i < e) × (e ≤ length s)
  as_end m x q h = let z : x ≡ e = cc in omega arith

  string_end_lem : (f : Option ℕ) → string_end s (i + 1) ≡ f → string_to f ≡ Token k e → (i < e) × (e ≤ length s)
  string_end_lem (Some x) h q = let p = string_inside s (i + 1) x h in as_end K.String x q (omega arith)
  string_end_lem None h q = let z : ◌≡◌ {A = ℕ} 0 1 = cc in absurd (omega arith)

  by : (t₁ t₂ t₃ t₄ t₅ t₆ t₇ : Bool) → white c ≡ t₁ → eqb c 0x22 ≡ t₂ → (eqb c 0x2F && eqb (get_or s (i + 1) 0) 0x2F) ≡ t₃
      → letter c ≡ t₄ → digit c ≡ t₅ → double c (get_or s (i + 1) 0) ≡ t₆ → single c ≡ t₇
      → cond t₁ (Token K.Whitespace (run_end white s i))
      (cond t₂ (string_to (string_end s (i + 1)))
      (cond t₃ (Token K.Comment (run_end in_line s i))
      (cond t₄ (Token K.Identifier (run_end wordly s i))
      (cond t₅ (Token K.Number (run_end digit s i))
      (symbol_or s i (cond t₆ (Some 2) (cond t₇ (Some 1) None))))))) ≡ Token k e
      → (i < e) × (e ≤ length s)
  unfolding wordly other line_end
  by true t₂ t₃ t₄ t₅ t₆ t₇ h₁ h₂ h₃ h₄ h₅ h₆ h₇ q = as_end K.Whitespace (run_end white s i) q (run_some white s i d h₁)
  by false true t₃ t₄ t₅ t₆ t₇ h₁ h₂ h₃ h₄ h₅ h₆ h₇ q = string_end_lem (string_end s (i + 1)) refl q
  by false false true t₄ t₅ t₆ t₇ h₁ h₂ h₃ h₄ h₅ h₆ h₇ q =
      as_end K.Comment (run_end in_line s i) q (run_some in_line s i d (simp (eqb-true c 0x2F (and_true _ _ h₃).0)))
  by false false false true t₅ t₆ t₇ h₁ h₂ h₃ h₄ h₅ h₆ h₇ q = as_end K.Identifier (run_end wordly s i) q (run_some wordly s i d (or_left (letter c) (digit c) h₄))
  by false false false false true t₆ t₇ h₁ h₂ h₃ h₄ h₅ h₆ h₇ q = as_end K.Number (run_end digit s i) q (run_some digit s i d h₅)
  by false false false false false true t₇ h₁ h₂ h₃ h₄ h₅ h₆ h₇ q = let p = double_inside s c (i + 1) h₆ in as_end K.Symbol (i + 2) q (omega arith)
  by false false false false false false true h₁ h₂ h₃ h₄ h₅ h₆ h₇ q = let p = inside s i d in as_end K.Symbol (i + 1) q (omega arith)
  by false false false false false false false h₁ h₂ h₃ h₄ h₅ h₆ h₇ q =
      as_end K.Other (run_end other s i) q (run_some other s i d (simp (h₁, h₂, h₄, h₅, h₇)))

pub token_inside : (s : List ℕ) (i : ℕ) {k : Kind} {e : ℕ} → token_at s i ≡ Token k e → (i < e) × (e ≤ length s)
unfolding token_at begins symbol_len
token_inside s i {k} {e} q = go_on (decode_at s i) refl q
  where
    go_on : (x : Option Char) → decode_at s i ≡ x → lexeme s i x ≡ Token k e → (i < e) × (e ≤ length s)
    go_on (Some x) d q =
        let c = x.code in let n = x.len in
        by s i c n d k e (white c) (eqb c 0x22) (eqb c 0x2F && eqb (get_or s (i + 1) 0) 0x2F) (letter c) (digit c)
        (double c (get_or s (i + 1) 0)) (single c) refl refl refl refl refl refl refl q
    go_on None d q = let z : ◌≡◌ {A = ℕ} 0 1 = cc in absurd (omega arith)
