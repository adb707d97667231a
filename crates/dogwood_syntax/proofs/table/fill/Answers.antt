use Prim.Native.Nat.{ℕ, ◌+◌, ◌*◌, ◌≤◌}
use mathlib.Core.Path.{◌≡◌, refl, sym, ap, ◌∙◌}
use native.Mathlib.Omega.{arith}
use lib.ListN.{length}
use lib.Seq.{sets}
use lib.Dec.{leb}
use mathlib.Core.Bool.{cond}
use mathlib.Core.List.{List, [], ◌∷◌}
use Rattle.dogwood_rules.specs.Token.{Placed, words_of}
use Rattle.dogwood_rows.specs.Kinds.{word_of}
use Rattle.dogwood_tokens.specs.declared.cursor.Token.{Token as TokenOf}
use Rattle.dogwood_tokens.specs.declared.cursor.Cursor.{Cursor as CursorOf}
use Rattle.dogwood_tokens.specs.declared.cursor.Step.{Step}
use Rattle.dogwood_tokens.specs.declared.cursor.Step.TheVariants.{Token, Unended, Ended}
use Rattle.dogwood_tokens.specs.Cursor.{next_of, tokens_at}
use Rattle.dogwood_tokens.proofs.Steps.{next_onward, next-token, next_bounds, words_next, next-ended, next-unended}
use Rattle.dogwood_syntax.proofs.Filling.{put_on, put_length, length_words}
use Rattle.dogwood_syntax.proofs.table.fill.Goals as goal

pub overflow_cast-behind : goal.overflow_cast-behind
overflow_cast-behind c =
    let q = next_onward c.args.text.now c.loop-token.cursor.at (sym c.next.ensures ∙ c.in-Token.is) in
    omega (arith, c.requires)

pub loop-token-smaller : goal.loop-token-smaller
loop-token-smaller c = omega (arith, next_onward c.args.text.now c.loop-token.cursor.at (sym c.next.ensures ∙ c.in-Token.is))

pub loop-token-preserved : goal.loop-token-preserved
loop-token-preserved c =
    let s = c.args.text.now in
    let at = c.loop-token.cursor.at in
    let n = c.loop-token.n in
    let t = c.loop-token.table in
    let token = c.in-Token.token in
    let k = word_of token.kind in
    let behind = c.in-Token.behind.at in
    let rest = tokens_at s behind in
    let h = (sym c.next.ensures ∙ c.in-Token.is) in
    let o = next_onward s at h in
    let b = next_bounds s at h in
    let m = ap length (next-token s at h).tokens in
    let v = c.loop-token.invariant in
    let e = c.put_row.ensures ∙ ap (λ (x : ℕ). cond (leb (3 * n + 3) (length t)) (sets t (3 * n) (x ∷ at ∷ behind ∷ [])) t) c.from.ensures in (
      omega arith,
      o.1,
      put_length t c.put_row.new.table (k ∷ at ∷ behind ∷ []) (3 * n) (leb (3 * n + 3) (length t)) e ∙ v.2,
      omega (arith, v.3),
      λ f.
          let w = length_words (tokens_at s 0) in
          let r : 3 * n + 3 ≤ length t = omega (arith, v.2, v.3) in
          put_on t c.put_row.new.table n k at behind (words_of rest) e r
          ∙ (λ i. sets t (3 * n) (k ∷ sym b.0 i ∷ sym b.1 i ∷ words_of rest))
          ∙ ap (sets t (3 * n)) (sym (words_next s at h)) ∙ v.4 f,
    )

-- any other step than a token says that there is none
no_more : (s : List ℕ) (at : ℕ) (x : Step) → next_of s at ≡ x → ((t : TokenOf) (b : CursorOf) → x ≡ Token t b → ⊥) → tokens_at s at ≡ []
no_more s at (Token t b) e h = absurd (h t b refl)
no_more s at (Unended i) e h = next-unended s at e
no_more s at Ended e h = next-ended s at e

pub returns : goal.returns
unfolding words_of
returns c =
    let s = c.args.text.now in
    let none = no_more s c.loop-token.cursor.at c.next.result (sym c.next.ensures) c.in_default.not-Token in
    let v = c.loop-token.invariant in
    record {
      total = omega (arith, ap length none, v.3);
      written = λ f. ap (λ (l : List Placed). sets c.loop-token.table (3 * c.loop-token.n) (words_of l)) (sym none) ∙ v.4 f;
    }
