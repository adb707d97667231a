-- A step of the cursor: the first of the tokens from its place on.
use mathlib.Core.Path.{◌≡◌, refl, sym, ap}
use mathlib.Core.List.{List, [], ◌∷◌}
use Prim.Native.Nat.{ℕ, ◌+◌, ◌<◌, ◌≤◌}
use native.Mathlib.Omega.{arith}
use lib.ListN.{length, drop}
use Rattle.dogwood_rules.specs.Utf8.{decode, byte_length}
use Rattle.dogwood_rules.specs.Token.{Token, Placed, placed, tokenise}
use Rattle.dogwood_rows.specs.Kinds.{kind_of}
use Rattle.dogwood_tokens.specs.declared.cursor.Token.{Token as TokenOf}
use Rattle.dogwood_tokens.specs.declared.cursor.Cursor.{Cursor as CursorOf}
use Rattle.dogwood_tokens.specs.declared.cursor.Step.{Step}
use Rattle.dogwood_tokens.specs.declared.cursor.Step.TheVariants as S
use Rattle.dogwood_tokens.specs.Cursor.{step_to, next_of, tokens_at}
use Rattle.dogwood_tokens.proofs.Steps.{next_onward, next-token, next-ended, next-unended}

pub record Took (s : List ℕ) (i : ℕ) (t : TokenOf) (c : CursorOf) : Type 0 where
  pub first : Placed
  pub tokens : tokens_at s i ≡ first ∷ tokens_at s c.at
  pub start : t.start ≡ first.start
  pub starts : first.start ≡ i
  pub onward : i < c.at
  pub inside : c.at ≤ length s

placed_start : (i : ℕ) (ts : List Token) {p : Placed} {ps : List Placed} → placed i ts ≡ p ∷ ps → p.start ≡ i
unfolding placed
placed_start i [] e = absurd (let z : ◌≡◌ {A = ℕ} 0 1 = cc in omega arith)
placed_start i (t ∷ ts) {p} e = sym (ap (λ (q : Placed). q.start) (let q : record { token = t; start = i; stop = i + byte_length t.text } ≡ p = cc in q))

pub took : (s : List ℕ) (i : ℕ) {t : TokenOf} {c : CursorOf} → next_of s i ≡ S.Token t c → Took s i t c
unfolding tokens_at
took s i {t} {c} h =
    let m = next-token s i h in
    let p : Placed = m.first in
    let e : step_to p ≡ S.Token t c = m.step in
    let y : ◌≡◌ {A = TokenOf} (record { kind = kind_of p.token.kind; start = p.start; end = p.stop }) t = cc in
    let o = next_onward s i h in
    record {
      first = p;
      tokens = m.tokens;
      start = sym (ap (λ (x : TokenOf). x.start) y);
      starts = placed_start i (tokenise (decode (drop i s)).0).0 m.tokens;
      onward = o.0;
      inside = o.1;
    }

-- tokens from a place on come from a step there
pub data Pace (s : List ℕ) (i : ℕ) : Type 0 where
  pace_on : {t : TokenOf} {c : CursorOf} → Took s i t c → Pace s i
  pace_off : tokens_at s i ≡ [] → Pace s i

pub pace : (s : List ℕ) (i : ℕ) → Pace s i
pace s i = by (next_of s i) refl
  where
    by : (x : Step) → next_of s i ≡ x → Pace s i
    by (S.Token t c) h = pace_on (took s i h)
    by (S.Unended n) h = pace_off (next-unended s i h)
    by S.Ended h = pace_off (next-ended s i h)
