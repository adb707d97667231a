-- The scan for quotes and comments finds the string without end that the tokens show.
use Prim.Native.Nat.{ℕ, ◌+◌, ◌<◌, ◌≤◌}
use mathlib.Core.Path.{◌≡◌, refl, sym, ap, ◌∙◌}
use mathlib.Core.Bool.{Bool, true, false, cond, ◌&&◌, false≢true}
use mathlib.Core.List.{List}
use native.Mathlib.Omega.{arith}
use borrow.Author.Tests.{eqb-true, ne_eqb}
use lib.ListN.{length, get_or}
use lib.Dec.{eqb}
use Rattle.dogwood_rules.specs.Token.{white, letter, digit, wordly, single, double, other}
use Rattle.utf8.specs.Utf8.{decode_at}
use Rattle.utf8.specs.Walk.{stop, go}
use Rattle.utf8.proofs.Cases.{and_true}
use Rattle.utf8.proofs.Inside.{inside, plain}
use Rattle.utf8.proofs.Reading.{size_at, size_ascii, wide_at, end_fault}
use Rattle.utf8.proofs.Walk.{Onward, from_go, from_stop, from_ind, stop≢go}
use Rattle.dogwood_tokens.specs.declared.token.Lexeme.{Lexeme}
use Rattle.dogwood_tokens.specs.declared.token.Lexeme.TheVariants.{Token, NoEnd, End}
use Rattle.dogwood_scans.specs.Run.{past_one, run_step, run_end, string_end}
use Rattle.dogwood_tokens.specs.Scan.{quote, scanned, scan_step, scan_from}
use Rattle.dogwood_letters.specs.Symbol.{symbol_len}
use Rattle.dogwood_tokens.specs.Token.{string_to, begins, lexeme, token_at, symbol_or}
use Rattle.dogwood_tokens.specs.Tokens.{sought, open_step, open_from}
use Rattle.dogwood_letters.proofs.SymbolLaws.{double_not}
use Rattle.dogwood_scans.proofs.Run.{run_onward}
use Rattle.dogwood_tokens.proofs.Bounds.{run_stop, run_some, string_inside, double_inside}
use Rattle.dogwood_tokens.proofs.Front.{single_ascii, double_ascii, slash_in}
use Rattle.dogwood_tokens.proofs.Tokens.{open_onward}
use Rattle.std.specs.Prelude.{None, Option, Some}
use Rattle.utf8.specs.declared.Char.{Char}
use Rattle.dogwood_letters.specs.Promises.{in_line}
use Rattle.utf8.specs.Char.{char_of}
use Rattle.dogwood_rows.specs.declared.kind.Kind.TheVariants as K

pub scan_onward : (s : List ℕ) → Onward (scan_step s) (length s)
unfolding scan_step
scan_onward s i a j e = by (decode_at s i) refl e
  where
    string : (f : Option ℕ) → string_end s (i + 1) ≡ f → quote i f ≡ go a j → (i < j) × (j ≤ length s)
    string (Some x) h e = let z : x ≡ j = cc in let p = string_inside s (i + 1) x h in omega arith
    string None h e = absurd (stop≢go e)

    tests : (c n : ℕ) (t u : Bool) → decode_at s i ≡ char_of c n → (eqb c 0x2F && eqb (get_or s (i + 1) 0) 0x2F) ≡ u
        → cond t (quote i (string_end s (i + 1))) (cond u (go tt (run_end in_line s i)) (go tt (i + n))) ≡ go a j → (i < j) × (j ≤ length s)
    tests c n true u d h e = string (string_end s (i + 1)) refl e
    tests c n false true d h e =
        let z : run_end in_line s i ≡ j = cc in
        let p = run_some in_line s i d (slash_in c (eqb-true c 0x2F (and_true _ _ h).0)) in
        omega arith
    tests c n false false d h e = let z : i + n ≡ j = cc in let p = inside s i d in omega arith

    by : (x : Option Char) → decode_at s i ≡ x → scanned s i x ≡ go a j → (i < j) × (j ≤ length s)
    by (Some x) d e = let c = x.code in let n = x.len in tests c n (eqb c 0x22) (eqb c 0x2F && eqb (get_or s (i + 1) 0) 0x2F) d refl e
    by None d e = absurd (stop≢go e)

-- ---- one step

module _ (s : List ℕ) (i : ℕ) where
  pub scan_fault : decode_at s i ≡ None → scan_from s i ≡ None
  unfolding scan_from scan_step
  scan_fault d = from_stop (scan_step s) (λ u r. r) None (length s) i (simp d)

  pub scan_out : length s ≤ i → scan_from s i ≡ None
  scan_out l = scan_fault (end_fault s i l)

  module _ {c n : ℕ} (d : decode_at s i ≡ char_of c n) where
    pub scan_closed : {e : ℕ} → eqb c 0x22 ≡ true → string_end s (i + 1) ≡ Some e → scan_from s i ≡ scan_from s e
    unfolding scan_from scan_step
    scan_closed {e} t f = from_go (scan_step s) (λ u r. r) None (length s) (scan_onward s) i e (simp (d, t, f))

    pub scan_open : eqb c 0x22 ≡ true → string_end s (i + 1) ≡ None → scan_from s i ≡ Some i
    unfolding scan_from scan_step
    scan_open t f = from_stop (scan_step s) (λ u r. r) None (length s) i (simp (d, t, f))

    pub scan_comment : eqb c 0x22 ≡ false → (eqb c 0x2F && eqb (get_or s (i + 1) 0) 0x2F) ≡ true → scan_from s i ≡ scan_from s (run_end in_line s i)
    unfolding scan_from scan_step
    scan_comment t u = from_go (scan_step s) (λ u r. r) None (length s) (scan_onward s) i (run_end in_line s i) (simp (d, t, u))

    pub scan_past : eqb c 0x22 ≡ false → (eqb c 0x2F && eqb (get_or s (i + 1) 0) 0x2F) ≡ false → scan_from s i ≡ scan_from s (i + n)
    unfolding scan_from scan_step
    scan_past t u = from_go (scan_step s) (λ u r. r) None (length s) (scan_onward s) i (i + n) (simp (d, t, u))

-- the same by the byte that stands there
module _ (s : List ℕ) (i : ℕ) (l : i < length s) where
  pub byte_closed : {e : ℕ} → get_or s i 0 ≡ 0x22 → string_end s (i + 1) ≡ Some e → scan_from s i ≡ scan_from s e
  byte_closed h f = scan_closed s i (plain s i 0x22 l h (omega arith)) refl f

  pub byte_open : get_or s i 0 ≡ 0x22 → string_end s (i + 1) ≡ None → scan_from s i ≡ Some i
  byte_open h f = scan_open s i (plain s i 0x22 l h (omega arith)) refl f

  pub byte_comment : get_or s i 0 ≡ 0x2F → get_or s (i + 1) 0 ≡ 0x2F → scan_from s i ≡ scan_from s (run_end in_line s i)
  byte_comment h k = scan_comment s i (plain s i 0x2F l h (omega arith)) refl (simp k)

  pub comment_inside : get_or s i 0 ≡ 0x2F → (i < run_end in_line s i) × (run_end in_line s i ≤ length s)
  comment_inside h = run_some in_line s i (plain s i 0x2F l h (omega arith)) (slash_in 0x2F refl)

  pub byte_past : get_or s i 0 < 128 → (get_or s i 0 ≡ 0x22 → ⊥) → (get_or s i 0 ≡ 0x2F → get_or s (i + 1) 0 ≡ 0x2F → ⊥) → scan_from s i ≡ scan_from s (i + 1)
  byte_past h q k = scan_past s i (plain s i (get_or s i 0) l refl h) (ne_eqb _ _ q) (by (eqb (get_or s i 0) 0x2F) refl)
    where
      by : (t : Bool) → eqb (get_or s i 0) 0x2F ≡ t → (t && eqb (get_or s (i + 1) 0) 0x2F) ≡ false
      by true e = ne_eqb _ _ (k (eqb-true _ _ e))
      by false e = refl

  pub wide_past : {c n : ℕ} → decode_at s i ≡ char_of c n → 128 ≤ get_or s i 0 → scan_from s i ≡ scan_from s (i + n)
  wide_past {c} {n} d h =
      let w = wide_at s i d h in
      scan_past s i d (ne_eqb c 0x22 (λ (q : c ≡ 0x22). omega arith)) (simp (ne_eqb c 0x2F (λ (q : c ≡ 0x2F). omega arith)))

-- ---- a run

-- a character that passes a test is none that fails it
not_that : (f : ℕ → Bool) (x : ℕ) → f x ≡ false → (c : ℕ) → f c ≡ true → eqb c x ≡ false
not_that f x e c h = by (eqb c x) refl
  where
    by : (t : Bool) → eqb c x ≡ t → t ≡ false
    by true k = absurd (false≢true (sym e ∙ ap f (sym (eqb-true c x k)) ∙ h))
    by false k = refl

module _ (k : ℕ → Bool) (no-quote : k 0x22 ≡ false) (no_slash : k 0x2F ≡ false) (s : List ℕ) where
  pub scan_run : (i : ℕ) → scan_from s (run_end k s i) ≡ scan_from s i
  unfolding run_end run_step
  scan_run =
      from_ind (run_step k s) (λ u r. r) (length s) (length s) (run_onward k s) (λ i r. scan_from s r ≡ scan_from s i)
      (λ i r e. ap (scan_from s) (run_stop k s i r e))
      (λ i j a r e p. p ∙ by i j a (decode_at s i) refl e)
    where
      tests : (i j : ℕ) (a : Unit {0}) (c n : ℕ) (t : Bool) → decode_at s i ≡ char_of c n → k c ≡ t → cond t (go tt (i + n)) (stop i) ≡ go a j
          → scan_from s j ≡ scan_from s i
      tests i j a c n true d h e =
          let z : i + n ≡ j = cc in
          ap (scan_from s) (sym z)
          ∙ sym (scan_past s i d (not_that k 0x22 no-quote c h) (simp (not_that k 0x2F no_slash c h)))
      tests i j a c n false d h e = absurd (stop≢go e)

      by : (i j : ℕ) (a : Unit {0}) (x : Option Char) → decode_at s i ≡ x → past_one k i x ≡ go a j → scan_from s j ≡ scan_from s i
      by i j a (Some x) d e = let c = x.code in let n = x.len in tests i j a c n (k c) d refl e
      by i j a None d e = absurd (stop≢go e)

-- ---- a token

-- where the scan goes on behind what stands at a place
abbrev after : List ℕ → ℕ → Lexeme → Option ℕ
after s i (Token k e) = scan_from s e
after s i NoEnd = Some i
after s i End = None

module _ (s : List ℕ) (i c n : ℕ) (d : decode_at s i ≡ char_of c n) where
  string_after : (f : Option ℕ) → string_end s (i + 1) ≡ f → eqb c 0x22 ≡ true → scan_from s i ≡ after s i (string_to f)
  string_after (Some e) h t = scan_closed s i d t h
  string_after None h t = scan_open s i d t h

  one_byte : c < 128 → n ≡ 1
  one_byte h = size_at s i d ∙ size_ascii c h

  double_after : double c (get_or s (i + 1) 0) ≡ true → eqb c 0x22 ≡ false → (eqb c 0x2F && eqb (get_or s (i + 1) 0) 0x2F) ≡ false → scan_from s i ≡ scan_from s (i + 2)
  double_after h t u =
      let p = double_ascii c (get_or s (i + 1) 0) h in
      let l = double_inside s c (i + 1) h in
      let e = plain s (i + 1) (get_or s (i + 1) 0) l refl p.1 in
      let q : i + 1 + 1 ≡ i + 2 = omega arith in
      scan_past s i d t u
      ∙ ap (λ (m : ℕ). scan_from s (i + m)) (one_byte p.0)
      ∙ scan_past s (i + 1) e
      (not_that (double c) 0x22 (double_not 0x22 refl refl c) (get_or s (i + 1) 0) h)
      (simp (not_that (double c) 0x2F (double_not 0x2F refl refl c) (get_or s (i + 1) 0) h))
      ∙ ap (scan_from s) q

  by : (t₁ t₂ t₃ t₄ t₅ t₆ t₇ : Bool) → white c ≡ t₁ → eqb c 0x22 ≡ t₂ → (eqb c 0x2F && eqb (get_or s (i + 1) 0) 0x2F) ≡ t₃
      → double c (get_or s (i + 1) 0) ≡ t₆ → single c ≡ t₇
      → scan_from s i
      ≡ after s i
      (cond t₁ (Token K.Whitespace (run_end white s i))
      (cond t₂ (string_to (string_end s (i + 1)))
      (cond t₃ (Token K.Comment (run_end in_line s i))
      (cond t₄ (Token K.Identifier (run_end wordly s i))
      (cond t₅ (Token K.Number (run_end digit s i))
      (symbol_or s i (cond t₆ (Some 2) (cond t₇ (Some 1) None))))))))
  unfolding white wordly letter digit other single
  by true t₂ t₃ t₄ t₅ t₆ t₇ h₁ h₂ h₃ h₆ h₇ = sym (scan_run white refl refl s i)
  by false true t₃ t₄ t₅ t₆ t₇ h₁ h₂ h₃ h₆ h₇ = string_after (string_end s (i + 1)) refl h₂
  by false false true t₄ t₅ t₆ t₇ h₁ h₂ h₃ h₆ h₇ = scan_comment s i d h₂ h₃
  by false false false true t₅ t₆ t₇ h₁ h₂ h₃ h₆ h₇ = sym (scan_run wordly refl refl s i)
  by false false false false true t₆ t₇ h₁ h₂ h₃ h₆ h₇ = sym (scan_run digit refl refl s i)
  by false false false false false true t₇ h₁ h₂ h₃ h₆ h₇ = double_after h₆ h₂ h₃
  by false false false false false false true h₁ h₂ h₃ h₆ h₇ =
      scan_past s i d h₂ h₃ ∙ ap (λ (m : ℕ). scan_from s (i + m)) (one_byte (single_ascii c h₇))
  by false false false false false false false h₁ h₂ h₃ h₆ h₇ = sym (scan_run other refl refl s i)

scan_token : (s : List ℕ) (i : ℕ) → scan_from s i ≡ after s i (token_at s i)
unfolding token_at begins symbol_len
scan_token s i = go_on (decode_at s i) refl
  where
    go_on : (x : Option Char) → decode_at s i ≡ x → scan_from s i ≡ after s i (lexeme s i x)
    go_on (Some x) d =
        let c = x.code in let n = x.len in
        by s i c n d (white c) (eqb c 0x22) (eqb c 0x2F && eqb (get_or s (i + 1) 0) 0x2F) (letter c) (digit c)
        (double c (get_or s (i + 1) 0)) (single c) refl refl refl refl refl
    go_on None d = scan_fault s i d

-- ---- the whole

pub open_scan : (s : List ℕ) (i : ℕ) → open_from s i ≡ scan_from s i
unfolding open_from open_step
open_scan s =
    from_ind (open_step s) (λ u r. r) None (length s) (open_onward s) (λ i r. r ≡ scan_from s i)
    (λ i r e. stops i r (token_at s i) refl e)
    (λ i j a r e p. p ∙ goes i j a (token_at s i) refl e)
  where
    stops : (i : ℕ) (r : Option ℕ) (x : Lexeme) → token_at s i ≡ x → sought i x ≡ stop r → r ≡ scan_from s i
    stops i r (Token k z) h e = absurd (stop≢go (sym e))
    stops i r NoEnd h e = let z : Some i ≡ r = cc in sym z ∙ sym (scan_token s i ∙ ap (after s i) h)
    stops i r End h e = let z : None ≡ r = cc in sym z ∙ sym (scan_token s i ∙ ap (after s i) h)

    goes : (i j : ℕ) (a : Unit {0}) (x : Lexeme) → token_at s i ≡ x → sought i x ≡ go a j → scan_from s j ≡ scan_from s i
    goes i j a (Token k z) h e = let q : z ≡ j = cc in ap (scan_from s) (sym q) ∙ sym (scan_token s i ∙ ap (after s i) h)
    goes i j a NoEnd h e = absurd (stop≢go e)
    goes i j a End h e = absurd (stop≢go e)
