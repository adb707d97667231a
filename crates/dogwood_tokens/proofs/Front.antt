-- THE TOKEN BRIDGE, one token: what stands at a place is what dogwood_rules' seven rules give at the front of the characters from there on.
use Rattle.std.specs.Prelude.{if◌then◌else◌, Some}
use Prim.Native.Nat.{ℕ, ◌+◌, ◌<◌, ◌≤◌}
use mathlib.Core.Path.{◌≡◌, refl, sym, ap, ◌∙◌, subst}
use mathlib.Core.Bool.{Bool, true, false, cond, not, ◌&&◌, false≢true}
use mathlib.Core.List.{List, [], ◌∷◌}
use mathlib.Core.Option.{Option, none, some}
use native.Mathlib.Omega.{arith}
use borrow.Author.Tests.{eqb-true, ltb-true, ltb-false, ne_eqb}
use lib.ListN.{take, get_or}
use lib.Dec.{eqb, ltb}
use Rattle.dogwood_rules.specs.Basic.{run_length}
use Rattle.dogwood_rules.specs.Utf8.{size, byte_length}
use Rattle.dogwood_rules.specs.Token.{white, letter, digit, wordly, single, double, line_end, other, next, closing, piece, string_piece, token, Whitespace, Comment, Identifier, Number}
use Rattle.dogwood_rules.specs.Token as R
use Rattle.dogwood_rules.proofs.Runs.{run_more}
use Rattle.utf8.specs.Utf8.{decode_at}
use Rattle.utf8.proofs.Cases.{and_true}
use Rattle.utf8.proofs.Reading.{Reads, reads_more, size_ascii, next_at_lem}
use Rattle.dogwood_tokens.specs.declared.token.Lexeme.{Lexeme}
use Rattle.dogwood_tokens.specs.declared.token.Lexeme.TheVariants.{Token, NoEnd}
use Rattle.dogwood_scans.specs.Run.{run_end, string_end}
use Rattle.dogwood_letters.specs.Symbol.{symbol_len}
use Rattle.dogwood_tokens.specs.Token.{string_to, begins, lexeme, token_at, symbol_or}
use Rattle.dogwood_letters.proofs.SymbolLaws.{eqb_sym, double-zero, double_big, double-next, single_big}
use Rattle.dogwood_tokens.proofs.Onwards.{run_reads, string_reads, ended}
use Rattle.dogwood_letters.specs.Promises.{in_line}
use Rattle.utf8.specs.Char.{char_of}
use Rattle.dogwood_rows.specs.Kinds.{kind_of}
use Rattle.dogwood_rows.specs.declared.kind.Kind.TheVariants as K
use Rattle.std.specs.Prelude.{Some, None}

-- the token at the place i, from what the rules give
abbrev pub lexeme_of : ℕ → Option (R.Token × ℕ) → Lexeme
lexeme_of i none = NoEnd
lexeme_of i (some p) = Token (kind_of p.0.kind) (i + byte_length p.0.text)

-- ---- ASCII

pub single_ascii : (c : ℕ) → single c ≡ true → c < 128
single_ascii c e = by (ltb c 128) refl
  where
    by : (t : Bool) → ltb c 128 ≡ t → c < 128
    by true h = ltb-true c 128 h
    by false h = absurd (false≢true (sym (single_big c (ltb-false c 128 h)) ∙ e))

pub double_ascii : (a b : ℕ) → double a b ≡ true → (a < 128) × (b < 128)
double_ascii a b e = by (ltb a 128) refl (ltb b 128) refl
  where
    by : (t : Bool) → ltb a 128 ≡ t → (u : Bool) → ltb b 128 ≡ u → (a < 128) × (b < 128)
    by true h true k = (ltb-true a 128 h, ltb-true b 128 k)
    by true h false k = absurd (false≢true (sym (double-next a b (ltb-true a 128 h) (ltb-false b 128 k)) ∙ e))
    by false h u k = absurd (false≢true (sym (double_big a b (ltb-false a 128 h)) ∙ e))

-- two characters that are a symbol have two bytes
double-size : (c : ℕ) (cs : List ℕ) → next (double c) cs ≡ true → byte_length (c ∷ take 1 cs) ≡ 2
unfolding byte_length
double-size c [] e = absurd (false≢true e)
double-size c (x ∷ cs) e =
    let p = double_ascii c x e in
    let u = size_ascii c p.0 in
    let v = size_ascii x p.1 in
    omega arith

single-size : (c : ℕ) → single c ≡ true → byte_length (c ∷ []) ≡ 1
unfolding byte_length
single-size c e = let u = size_ascii c (single_ascii c e) in omega arith

-- ---- the first character is in the class of its run

pub slash_in : (c : ℕ) → c ≡ 47 → not (line_end c) ≡ true
unfolding line_end
slash_in c e = ap (λ (x : ℕ). not (line_end x)) e

pub letter_in : (c : ℕ) → letter c ≡ true → wordly c ≡ true
unfolding wordly
letter_in c e = simp e

pub other_in : (c : ℕ) → white c ≡ false → eqb c 34 ≡ false → letter c ≡ false → digit c ≡ false → single c ≡ false → other c ≡ true
unfolding other wordly
other_in c h₁ h₂ h₄ h₅ h₇ = simp (h₁, h₂, h₄, h₅, h₇)

-- ---- the rules

module _ (s : List ℕ) (i c : ℕ) (cs : List ℕ) (d : decode_at s i ≡ char_of c (size c)) (r : Reads s (i + size c) cs) where
  behind : c < 128 → Reads s (i + 1) cs
  behind h = subst (λ (n : ℕ). Reads s (i + n) cs) (size_ascii c h) r

  comment-same : (eqb c 0x2F && eqb (get_or s (i + 1) 0) 0x2F) ≡ (eqb c 47 && next (eqb 47) cs)
  comment-same = by (eqb c 47) refl
    where
      by : (t : Bool) → eqb c 47 ≡ t → (t && eqb (get_or s (i + 1) 0) 0x2F) ≡ (t && next (eqb 47) cs)
      by true h =
          let q = eqb-true c 47 h in
          eqb_sym (get_or s (i + 1) 0) 47 ∙ next_at_lem s (eqb 47) (λ b k. ne_eqb 47 b (λ (e : 47 ≡ b). omega arith)) refl (behind (omega arith))
      by false h = refl

  double-same : double c (get_or s (i + 1) 0) ≡ next (double c) cs
  double-same = by (ltb c 128) refl
    where
      no_next : (l : List ℕ) → 128 ≤ c → next (double c) l ≡ false
      no_next [] h = refl
      no_next (x ∷ l) h = double_big c x h

      by : (t : Bool) → ltb c 128 ≡ t → double c (get_or s (i + 1) 0) ≡ next (double c) cs
      by true h = let k = ltb-true c 128 h in next_at_lem s (double c) (λ b l. double-next c b k l) (double-zero c) (behind k)
      by false h = let k = ltb-false c 128 h in double_big c (get_or s (i + 1) 0) k ∙ sym (no_next cs k)

  run_token : (k : ℕ → Bool) → k c ≡ true → run_end k s i ≡ i + byte_length (c ∷ take (run_length k cs) cs)
  run_token k h = run_reads k s (reads_more d r) ∙ ap (λ (n : ℕ). i + byte_length (take n (c ∷ cs))) (run_more k c cs h)

  string_token : c < 128 → (o : Option ℕ) → string_to (ended (i + 1) cs o) ≡ lexeme_of i (string_piece c cs o)
  unfolding string_piece piece byte_length
  string_token h none = refl
  string_token h (some n) =
      let z = size_ascii c h in
      let q : i + 1 + byte_length (take n cs) ≡ i + (size c + byte_length (take n cs)) = omega arith in
      ap (Token K.String) q

  by : (t₁ t₂ t₃ t₄ t₅ t₆ t₇ : Bool) → white c ≡ t₁ → eqb c 34 ≡ t₂ → eqb c 47 && next (eqb 47) cs ≡ t₃ → letter c ≡ t₄ → digit c ≡ t₅
      → next (double c) cs ≡ t₆ → single c ≡ t₇
      → cond t₁ (Token K.Whitespace (run_end white s i))
      (cond t₂ (string_to (string_end s (i + 1)))
      (cond t₃ (Token K.Comment (run_end in_line s i))
      (cond t₄ (Token K.Identifier (run_end wordly s i))
      (cond t₅ (Token K.Number (run_end digit s i))
      (symbol_or s i (cond t₆ (Some 2) (cond t₇ (Some 1) None)))))))
      ≡ lexeme_of i
      (if t₁ then piece Whitespace c cs (run_length white cs)
      else if t₂ then string_piece c cs (closing false cs)
      else if t₃ then piece Comment c cs (run_length (λ a. not (line_end a)) cs)
      else if t₄ then piece Identifier c cs (run_length wordly cs)
      else if t₅ then piece Number c cs (run_length digit cs)
      else if t₆ then piece R.Symbol c cs 1
      else if t₇ then piece R.Symbol c cs 0
      else piece R.Other c cs (run_length other cs))
  unfolding piece
  by true t₂ t₃ t₄ t₅ t₆ t₇ h₁ h₂ h₃ h₄ h₅ h₆ h₇ = ap (Token K.Whitespace) (run_token white h₁)
  by false true t₃ t₄ t₅ t₆ t₇ h₁ h₂ h₃ h₄ h₅ h₆ h₇ =
      let q = eqb-true c 34 h₂ in
      let u : c < 128 = omega arith in
      ap string_to (string_reads s (behind u)) ∙ string_token u (closing false cs)
  by false false true t₄ t₅ t₆ t₇ h₁ h₂ h₃ h₄ h₅ h₆ h₇ = ap (Token K.Comment) (run_token in_line (slash_in c (eqb-true c 47 (and_true _ (next (eqb 47) cs) h₃).0)))
  by false false false true t₅ t₆ t₇ h₁ h₂ h₃ h₄ h₅ h₆ h₇ = ap (Token K.Identifier) (run_token wordly (letter_in c h₄))
  by false false false false true t₆ t₇ h₁ h₂ h₃ h₄ h₅ h₆ h₇ = ap (Token K.Number) (run_token digit h₅)
  by false false false false false true t₇ h₁ h₂ h₃ h₄ h₅ h₆ h₇ = ap (λ (n : ℕ). Token K.Symbol (i + n)) (sym (double-size c cs h₆))
  by false false false false false false true h₁ h₂ h₃ h₄ h₅ h₆ h₇ = ap (λ (n : ℕ). Token K.Symbol (i + n)) (sym (single-size c h₇))
  by false false false false false false false h₁ h₂ h₃ h₄ h₅ h₆ h₇ = ap (Token K.Other) (run_token other (other_in c h₁ h₂ h₄ h₅ h₇))

  pub token-reads : token_at s i ≡ lexeme_of i (token (c ∷ cs))
  unfolding token_at begins symbol_len token
  token-reads =
      ap (lexeme s i) d
      ∙ rw (comment-same, double-same)
      (by (white c) (eqb c 34) (eqb c 47 && next (eqb 47) cs) (letter c) (digit c) (next (double c) cs) (single c) refl refl refl refl refl refl refl)
