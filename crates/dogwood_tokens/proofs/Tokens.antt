-- The laws of the tokens of a text: they go onward, and are no more than its bytes.
use Prim.Native.Nat.{ℕ, ◌+◌, ◌<◌, ◌≤◌}
use mathlib.Core.Path.{◌≡◌, refl, sym, ap}
use mathlib.Core.List.{List, [], ◌∷◌}
use native.Mathlib.Omega.{arith}
use lib.ListN.{length}
use Rattle.utf8.specs.Walk.{stop, go}
use Rattle.utf8.proofs.Walk.{Onward, from_ind, stop≢go}
use Rattle.dogwood_tokens.specs.declared.token.Lexeme.{Lexeme}
use Rattle.dogwood_tokens.specs.declared.token.Lexeme.TheVariants.{Token, NoEnd, End}
use Rattle.dogwood_tokens.specs.Token.{token_at}
use Rattle.dogwood_tokens.specs.Tokens.{Tok, listed, token_step, tokens_from, sought, open_step}
use Rattle.dogwood_tokens.proofs.Bounds.{token_inside}

pub tokens_onward : (s : List ℕ) → Onward (token_step s) (length s)
unfolding token_step
tokens_onward s i a j e = by (token_at s i) refl e
  where
    by : (x : Lexeme) → token_at s i ≡ x → listed i x ≡ go a j → (i < j) × (j ≤ length s)
    by (Token k z) h e = let q : z ≡ j = cc in let p = token_inside s i h in omega arith
    by NoEnd h e = absurd (stop≢go e)
    by End h e = absurd (stop≢go e)

pub open_onward : (s : List ℕ) → Onward (open_step s) (length s)
unfolding open_step
open_onward s i a j e = by (token_at s i) refl e
  where
    by : (x : Lexeme) → token_at s i ≡ x → sought i x ≡ go a j → (i < j) × (j ≤ length s)
    by (Token k z) h e = let q : z ≡ j = cc in let p = token_inside s i h in omega arith
    by NoEnd h e = absurd (stop≢go e)
    by End h e = absurd (stop≢go e)

-- no text has more tokens than bytes
pub tokens_few : (s : List ℕ) (i : ℕ) → i ≤ length s → i + length (tokens_from s i) ≤ length s
unfolding tokens_from token_step
tokens_few s =
    from_ind (token_step s) ◌∷◌ [] (length s) (tokens_onward s) (λ i ts. i ≤ length s → i + length ts ≤ length s)
    (λ i r e h. stops i r (token_at s i) e h)
    (λ i j a r e p h. let o = tokens_onward s i a j e in let q = p o.1 in omega arith)
  where
    stops : (i : ℕ) (r : List Tok) (x : Lexeme) → listed i x ≡ stop r → i ≤ length s → i + length r ≤ length s
    stops i r (Token k z) e h = absurd (stop≢go (sym e))
    stops i r NoEnd e h = let z : [] ≡ r = cc in let y = ap length z in omega arith
    stops i r End e h = let z : [] ≡ r = cc in let y = ap length z in omega arith
