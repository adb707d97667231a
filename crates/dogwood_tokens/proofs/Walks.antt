-- The cursor's steps, and that walking gives the tokens of dogwood_rules.
use Prim.Native.Nat.{ℕ, ◌+◌, ◌-◌, ◌<◌}
use mathlib.Core.Path.{◌≡◌, refl, sym, ap, ◌∙◌, subst}
use mathlib.Core.List.{List, [], ◌∷◌}
use mathlib.Core.Option.{Option as Maybe, none, some}
use native.Mathlib.Omega.{arith}
use native.Mathlib.Nat.{add-zero, zero-add}
use lib.ListN.{length}
use Rattle.dogwood_rules.specs.Basic.{cut, cut_after}
use Rattle.dogwood_rules.specs.Utf8.{decode, byte_length}
use Rattle.dogwood_rules.specs.Token.{placed, token, tokenise}
use Rattle.dogwood_rules.specs.Token as R
use Rattle.utf8.specs.Walk.{stop, go}
use Rattle.utf8.proofs.Walk.{from_ind, stop≢go}
use Rattle.utf8.proofs.Reading.{Reads, reads_end, reads_more, reads_at, length-decode}
use Rattle.dogwood_tokens.specs.declared.token.Lexeme.{Lexeme}
use Rattle.dogwood_tokens.specs.declared.token.Lexeme.TheVariants as L
use Rattle.dogwood_tokens.specs.declared.cursor.Step.{Step}
use Rattle.dogwood_tokens.specs.declared.cursor.Step.TheVariants.{Token, Unended, Ended}
use Rattle.dogwood_tokens.specs.Token.{lexeme, token_at}
use Rattle.dogwood_tokens.specs.Tokens.{Tok, listed, token_step, tokens_from}
use Rattle.dogwood_tokens.specs.Cursor.{given, step_of, next_of, Walk, walk_end, walk_open, walk_more, last_of}
use Rattle.dogwood_tokens.proofs.Tokens.{tokens_onward}
use Rattle.dogwood_tokens.proofs.Front.{lexeme_of, token-reads}
use Rattle.dogwood_tokens.proofs.Seam.{Turn, turn_end, turn_open, turn-token, turn_of}
use Rattle.std.specs.Prelude.{Option}
use Rattle.utf8.specs.declared.Char.{Char}

-- the step that the code makes of what stands at its place
abbrev pub stepped : ℕ → Lexeme → Step
stepped at (L.Token k e) = Token (record { kind = k; start = at; end = e }) (record { at = e })
stepped at L.NoEnd = Unended at
stepped at L.End = Ended

of_lexeme : (at : ℕ) (o : Maybe (R.Token × ℕ)) → given at o ≡ stepped at (lexeme_of at o)
of_lexeme at none = refl
of_lexeme at (some p) = refl

pub next_is : (s : List ℕ) (at : ℕ) {x : Lexeme} → token_at s at ≡ x → next_of s at ≡ stepped at x
unfolding next_of token_at
next_is s at {x} q = by (reads_at s at) ∙ ap (stepped at) q
  where
    by : {cs : List ℕ} → Reads s at cs → step_of at cs ≡ stepped at (token_at s at)
    by (reads_end d) = sym (ap (λ (x : Option Char). stepped at (lexeme s at x)) d)
    by (reads_more {c} {cs} d r) = of_lexeme at (token (c ∷ cs)) ∙ ap (stepped at) (sym (token-reads s at c cs d r))

-- ---- walking

walk-reads : (s : List ℕ) (e i : ℕ) (cs : List ℕ) → Reads s i cs → i + byte_length cs ≡ e → Walk s i (placed i (tokenise cs).0) (last_of e (tokenise cs).1)
unfolding tokens_from token_step tokenise cut cut_after placed
walk-reads s e =
    from_ind (token_step s) ◌∷◌ [] (length s) (tokens_onward s)
    (λ i ts. (cs : List ℕ) → Reads s i cs → i + byte_length cs ≡ e → Walk s i (placed i (tokenise cs).0) (last_of e (tokenise cs).1))
    (λ i r q cs rd h. stops i r q cs h (turn_of s rd))
    (λ i j a r q p cs rd h. goes i j a q p cs h (turn_of s rd))
  where
    Goal : ℕ → List R.Token × List ℕ → Type 0
    Goal i x = Walk s i (placed i x.0) (last_of e x.1)

    last : (l : List ℕ) (i : ℕ) → 0 < length l → i + byte_length l ≡ e → next_of s i ≡ Unended i → Walk s i [] (last_of e l)
    last [] i l h q = absurd (omega arith)
    last (c ∷ cs) i l h q =
        let y : i ≡ e - byte_length (c ∷ cs) = omega arith in
        walk_open (q ∙ ap Unended y)

    stops : (i : ℕ) (r : List Tok) → listed i (token_at s i) ≡ stop r → (cs : List ℕ) → i + byte_length cs ≡ e → Turn s i cs → Walk s i (placed i (tokenise cs).0) (last_of e (tokenise cs).1)
    stops i r q cs h (turn_end n k) = subst (λ (l : List ℕ). Walk s i (placed i (tokenise l).0) (last_of e (tokenise l).1)) (sym n) (walk_end (next_is s i k))
    stops i r q cs h (turn_open l n k) = subst (Goal i) (sym n) (last cs i l h (next_is s i k))
    stops i r q cs h (turn-token t rest n k rd b) = absurd (stop≢go (sym q ∙ ap (listed i) k))

    goes : (i j : ℕ) (a : Tok) → listed i (token_at s i) ≡ go a j
        → ((cs : List ℕ) → Reads s j cs → j + byte_length cs ≡ e → Walk s j (placed j (tokenise cs).0) (last_of e (tokenise cs).1))
        → (cs : List ℕ) → i + byte_length cs ≡ e → Turn s i cs → Walk s i (placed i (tokenise cs).0) (last_of e (tokenise cs).1)
    goes i j a q p cs h (turn_end n k) = absurd (stop≢go (sym (ap (listed i) k) ∙ q))
    goes i j a q p cs h (turn_open l n k) = absurd (stop≢go (sym (ap (listed i) k) ∙ q))
    goes i j a q p cs h (turn-token t rest n k rd b) =
        let z : i + byte_length t.text ≡ j = cc in
        subst (Goal i) (sym n)
        (walk_more (next_is s i k)
        (subst (λ (m : ℕ). Walk s m (placed m (tokenise rest).0) (last_of e (tokenise rest).1)) (sym z)
        (p rest (subst (λ (m : ℕ). Reads s m rest) z rd) (omega arith))))

-- from the start of any bytes: the tokens of the characters up to the first bad place
pub walks_all : (s : List ℕ) → Walk s 0 (placed 0 (tokenise (decode s).0).0) (last_of (byte_length (decode s).0) (tokenise (decode s).0).1)
walks_all s = walk-reads s (byte_length (decode s).0) 0 (decode s).0 (reads_at s 0) (zero-add (byte_length (decode s).0))

-- of a text that is UTF-8: exactly its tokens, then its end or its string without end
pub walks : (s cs : List ℕ) → decode s ≡ (cs, []) → Walk s 0 (placed 0 (tokenise cs).0) (last_of (length s) (tokenise cs).1)
walks s cs e =
    let n : byte_length (decode s).0 ≡ length s = sym (add-zero (byte_length (decode s).0)) ∙ ap (λ (x : List ℕ × List ℕ). byte_length (decode s).0 + length x.1) (sym e) ∙ length-decode s in
    subst (λ (x : List ℕ × List ℕ). Walk s 0 (placed 0 (tokenise x.0).0) (last_of (length s) (tokenise x.0).1)) e
    (subst (λ (m : ℕ). Walk s 0 (placed 0 (tokenise (decode s).0).0) (last_of m (tokenise (decode s).0).1)) n (walks_all s))
