-- What a loop over the cursor needs: a step takes the first of the tokens from its place on, and goes on within the text.
use Prim.Native.Nat.{ℕ, ◌+◌, ◌<◌, ◌≤◌}
use mathlib.Core.Path.{◌≡◌, refl, sym, ap, ◌∙◌}
use mathlib.Core.List.{List, [], ◌∷◌}
use native.Mathlib.Omega.{arith}
use lib.ListN.{length, drop}
use Rattle.dogwood_rules.specs.Basic.{cut, cut_after}
use Rattle.dogwood_rules.specs.Utf8.{decode, byte_length}
use Rattle.dogwood_rules.specs.Token.{Placed, placed, tokenise, words_of}
use Rattle.dogwood_rules.specs.Token as R
use Rattle.utf8.proofs.Reading.{reads_at, reads_only}
use Rattle.dogwood_tokens.specs.declared.token.Lexeme.{Lexeme}
use Rattle.dogwood_tokens.specs.declared.token.Lexeme.TheVariants as L
use Rattle.dogwood_tokens.specs.declared.cursor.Token.{Token as TokenOf}
use Rattle.dogwood_tokens.specs.declared.cursor.Cursor.{Cursor as CursorOf}
use Rattle.dogwood_tokens.specs.declared.cursor.Step.TheVariants.{Token, Unended, Ended}
use Rattle.dogwood_tokens.specs.Token.{token_at}
use Rattle.dogwood_tokens.specs.Cursor.{step_to, next_of, tokens_at}
use Rattle.dogwood_tokens.proofs.Bounds.{token_inside}
use Rattle.dogwood_tokens.proofs.Seam.{Turn, turn_end, turn_open, turn-token, turn_of}
use Rattle.dogwood_tokens.proofs.Walks.{next_is}
use Rattle.dogwood_rows.specs.Kinds.{kind_of, word_of, word_of-kind_of}

ended-token : {t : TokenOf} {c : CursorOf} → Ended ≡ Token t c → ⊥
ended-token e = let z : ◌≡◌ {A = ℕ} 0 1 = cc in omega arith

unended-token : {i : ℕ} {t : TokenOf} {c : CursorOf} → Unended i ≡ Token t c → ⊥
unended-token e = let z : ◌≡◌ {A = ℕ} 0 1 = cc in omega arith

-- the next place lies behind this one, and within the text
pub next_onward : (s : List ℕ) (at : ℕ) {t : TokenOf} {c : CursorOf} → next_of s at ≡ Token t c → (at < c.at) × (c.at ≤ length s)
next_onward s at {t} {c} h = by (token_at s at) refl
  where
    by : (x : Lexeme) → token_at s at ≡ x → (at < c.at) × (c.at ≤ length s)
    by (L.Token k e) q =
        let p = token_inside s at q in
        let y : Token (record { kind = k; start = at; end = e }) (record { at = e }) ≡ Token t c = sym (next_is s at q) ∙ h in
        let w : ◌≡◌ {A = CursorOf} (record { at = e }) c = cc in
        let z : e ≡ c.at = ap (λ (x : CursorOf). x.at) w in
        omega arith
    by L.NoEnd q = absurd (unended-token (sym (next_is s at q) ∙ h))
    by L.End q = absurd (ended-token (sym (next_is s at q) ∙ h))

-- the token that a step gives is the first of the tokens from its place on, and the others are those from the next place on
pub record More (s : List ℕ) (at : ℕ) (t : TokenOf) (c : CursorOf) : Type 0 where
  pub first : Placed
  pub step : step_to first ≡ Token t c
  pub tokens : tokens_at s at ≡ first ∷ tokens_at s c.at

pub next-token : (s : List ℕ) (at : ℕ) {t : TokenOf} {c : CursorOf} → next_of s at ≡ Token t c → More s at t c
unfolding tokens_at placed
next-token s at {t} {c} h = by (turn_of s (reads_at s at))
  where
    by : Turn s at (decode (drop at s)).0 → More s at t c
    by (turn_end n k) = absurd (ended-token (sym (next_is s at k) ∙ h))
    by (turn_open l n k) = absurd (unended-token (sym (next_is s at k) ∙ h))
    by (turn-token w rest n k rd b) =
        let p : Placed = record { token = w; start = at; stop = at + byte_length w.text } in
        let y : step_to p ≡ Token t c = sym (next_is s at k) ∙ h in
        let v : ◌≡◌ {A = CursorOf} (record { at = at + byte_length w.text }) c = cc in
        record {
          first = p;
          step = y;
          tokens =
              ap (λ (x : List R.Token × List ℕ). placed at x.0) n
              ∙ ap (λ (l : List ℕ). p ∷ placed (at + byte_length w.text) (tokenise l).0) (reads_only s rd (reads_at s (at + byte_length w.text)))
              ∙ ap (λ (x : CursorOf). p ∷ tokens_at s x.at) v;
        }

-- its words, and its bounds
pub words_next : (s : List ℕ) (at : ℕ) {t : TokenOf} {c : CursorOf} → next_of s at ≡ Token t c
    → words_of (tokens_at s at) ≡ word_of t.kind ∷ t.start ∷ t.end ∷ words_of (tokens_at s c.at)
unfolding words_of
words_next s at {t} {c} h =
    let m = next-token s at h in
    let p : Placed = m.first in
    let e : step_to p ≡ Token t c = m.step in
    let y : ◌≡◌ {A = TokenOf} (record { kind = kind_of p.token.kind; start = p.start; end = p.stop }) t = cc in
    ap words_of m.tokens
    ∙ ap (λ (n : ℕ). n ∷ p.start ∷ p.stop ∷ words_of (tokens_at s c.at)) (sym (word_of-kind_of p.token.kind))
    ∙ ap (λ (x : TokenOf). word_of x.kind ∷ x.start ∷ x.end ∷ words_of (tokens_at s c.at)) y

pub next_bounds : (s : List ℕ) (at : ℕ) {t : TokenOf} {c : CursorOf} → next_of s at ≡ Token t c → (t.start ≡ at) × (t.end ≡ c.at)
next_bounds s at {t} {c} h = by (token_at s at) refl
  where
    by : (x : Lexeme) → token_at s at ≡ x → (t.start ≡ at) × (t.end ≡ c.at)
    by (L.Token k e) q =
        let y : Token (record { kind = k; start = at; end = e }) (record { at = e }) ≡ Token t c = sym (next_is s at q) ∙ h in
        let v : ◌≡◌ {A = TokenOf} (record { kind = k; start = at; end = e }) t = cc in
        let w : ◌≡◌ {A = CursorOf} (record { at = e }) c = cc in
        (sym (ap (λ (x : TokenOf). x.start) v), sym (ap (λ (x : TokenOf). x.end) v) ∙ ap (λ (x : CursorOf). x.at) w)
    by L.NoEnd q = absurd (unended-token (sym (next_is s at q) ∙ h))
    by L.End q = absurd (ended-token (sym (next_is s at q) ∙ h))

-- any other step says that there is none
pub next-ended : (s : List ℕ) (at : ℕ) → next_of s at ≡ Ended → tokens_at s at ≡ []
unfolding tokens_at placed tokenise cut cut_after
next-ended s at h = by (turn_of s (reads_at s at))
  where
    by : Turn s at (decode (drop at s)).0 → placed at (tokenise (decode (drop at s)).0).0 ≡ []
    by (turn_end n k) = ap (λ (l : List ℕ). placed at (tokenise l).0) n
    by (turn_open l n k) = ap (λ (x : List R.Token × List ℕ). placed at x.0) n
    by (turn-token w rest n k rd b) = absurd (ended-token (sym h ∙ next_is s at k))

pub next-unended : (s : List ℕ) (at : ℕ) {i : ℕ} → next_of s at ≡ Unended i → tokens_at s at ≡ []
unfolding tokens_at placed tokenise cut cut_after
next-unended s at h = by (turn_of s (reads_at s at))
  where
    by : Turn s at (decode (drop at s)).0 → placed at (tokenise (decode (drop at s)).0).0 ≡ []
    by (turn_end n k) = ap (λ (l : List ℕ). placed at (tokenise l).0) n
    by (turn_open l n k) = ap (λ (x : List R.Token × List ℕ). placed at x.0) n
    by (turn-token w rest n k rd b) = absurd (unended-token (sym h ∙ next_is s at k))
