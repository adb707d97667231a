-- What `tokenize` promises, at each of its ends.
use Prim.Native.Nat.{ℕ, ◌+◌, ◌-◌, ◌*◌, ◌<◌, ◌≤◌}
use mathlib.Core.Path.{◌≡◌, refl, sym, ap, ◌∙◌}
use mathlib.Core.Bool.{Bool, true, false}
use mathlib.Core.List.{List, [], ◌∷◌}
use native.Mathlib.Omega.{arith}
use borrow.Author.Tests.{ltb-true, ltb-false}
use lib.ListN.{length, length-append}
use lib.Dec.{ltb}
use Rattle.dogwood_rules.specs.Utf8.{decode, encode, byte_length, mark_of, text_of}
use Rattle.dogwood_rules.specs.Token.{Placed, placed, tokenise, words_of}
use Rattle.dogwood_rules.specs.Source.{Source, cut_into, source_of}
use Rattle.dogwood_rules.specs.Alone.{Alone, stopped, told, total, tokenised}
use Rattle.dogwood_rules.specs.Promises.{Tokenises, over}
use Rattle.dogwood_rules.proofs.Sources.{source_long, source_bad, source_open, source_cut}
use Rattle.dogwood_rules.proofs.Decoding.{decode_sound}
use Rattle.utf8.specs.Told.{left_at}
use Rattle.utf8.proofs.Mark.{mark_inside, length_text}
use Rattle.dogwood_syntax.specs.declared.tokenizing.NotTokenized.{NotTokenized}
use Rattle.dogwood_syntax.specs.declared.tokenizing.NotTokenized.TheVariants.{Unended, Small}
use Rattle.dogwood_tokens.specs.Tokens.{open_from, open_at}
use Rattle.dogwood_syntax.specs.Answers.{filled, answer, table_after}
use Rattle.dogwood_tokens.specs.Cursor.{tokens_at}
use Rattle.dogwood_syntax.specs.Numbers.{number, value}
use Rattle.dogwood_syntax.proofs.Filling.{answer_open, answer_small, answer_done, table_of}
use Rattle.dogwood_tokens.proofs.Seam.{open_seam, placed_seam}
use Rattle.std.specs.Prelude.{None, Option, Some, Result, Ok, Err}

-- an answer of the rules, held against what was answered
keeps : (s t : List ℕ) (a : Alone) (n v : ℕ) (t' : List ℕ) → tokenised s (length t) ≡ a → n ≡ a.number → v ≡ a.value → t' ≡ over a.table t → Tokenises s t n v t'
keeps s t a n v t' e p q r = record {
  numbered = p ∙ ap (λ (x : Alone). x.number) (sym e);
  valued = q ∙ ap (λ (x : Alone). x.value) (sym e);
  tabled = r ∙ ap (λ (x : Alone). over x.table t) (sym e);
}

-- what was found in the text that was set apart is so of the source's text
pub found : (src text : List ℕ) (r : Option ℕ) → text ≡ text_of src → r ≡ left_at (length text) (decode text).1 → left_at (length (text_of src)) (decode (text_of src)).1 ≡ r
found src text r e q = ap (λ (l : List ℕ). left_at (length l) (decode l).1) (sym e) ∙ sym q

-- the place of what is left lies within the text
pub left_inside : (l : ℕ) (bs : List ℕ) (i : ℕ) → left_at l bs ≡ Some i → i ≤ l
left_inside l [] i e = absurd (let z : ◌≡◌ {A = ℕ} 0 1 = cc in omega arith)
left_inside l (b ∷ bs) i e = let z : l - length (b ∷ bs) ≡ i = cc in omega arith

-- what is told of a source
from_source : (s : List ℕ) (room : ℕ) {x : Source} → source_of s ≡ x → tokenised s room ≡ told room total x
unfolding tokenised
from_source s room e = ap (told room total) e

-- 11
pub long_kept : (s t : List ℕ) → 1048576 < length s → Tokenises s t 11 0 t
unfolding told stopped
long_kept s t h = keeps s t (stopped 11 0) 11 0 t (from_source s (length t) (source_long s h)) refl refl refl

module _ (s t : List ℕ) (h : length s ≤ 1048576) where
  -- 12
  pub bad_kept : (i : ℕ) → left_at (length (text_of s)) (decode (text_of s)).1 ≡ Some i → Tokenises s t 12 (length (mark_of s) + i) t
  unfolding told stopped
  bad_kept i e = by (decode (text_of s)).1 refl e
    where
      by : (l : List ℕ) → (decode (text_of s)).1 ≡ l → left_at (length (text_of s)) l ≡ Some i → Tokenises s t 12 (length (mark_of s) + i) t
      by [] k q = absurd (let z : ◌≡◌ {A = ℕ} 0 1 = cc in omega arith)
      by (b ∷ l) k q =
          let y : length (text_of s) - length (b ∷ l) ≡ i = cc in
          let u = mark_inside s in
          let v = length_text s in
          let w = ap length (decode_sound (text_of s)).whole in
          let x = length-append (encode (decode (text_of s)).0) (decode (text_of s)).1 in
          let z = ap length k in
          keeps s t (stopped 12 (length s - length (b ∷ l))) 12 (length (mark_of s) + i) t (from_source s (length t) (source_bad s h b l k)) refl (omega arith) refl

  -- 1, 13, 0
  module _ (e : (decode (text_of s)).1 ≡ []) (a : Result ℕ NotTokenized) (p : a ≡ answer (text_of s) (length t)) (t' : List ℕ) (r : t' ≡ table_after (text_of s) t) where
    cs : List ℕ
    cs = (decode (text_of s)).0

    good : decode (text_of s) ≡ (cs, [])
    unfolding cs
    good = λ i. (cs, e i)

    ps : List Placed
    ps = placed 0 (tokenise cs).0

    -- what the code answered, and the table that it left
    answered : (b : Result ℕ NotTokenized) (x : Alone) → answer (text_of s) (length t) ≡ b → tokenised s (length t) ≡ x → number b ≡ x.number → value b ≡ x.value
        → filled b (words_of (tokens_at (text_of s) 0)) t ≡ over x.table t → Tokenises s t (number a) (value a) t'
    answered b x q k n v f =
        keeps s t x (number a) (value a) t' k (ap number (p ∙ q) ∙ n) (ap value (p ∙ q) ∙ v) (r ∙ table_of (text_of s) t q ∙ f)

    open_kept : (c : ℕ) (l : List ℕ) → (tokenise cs).1 ≡ c ∷ l → Tokenises s t (number a) (value a) t'
    unfolding told stopped cs
    open_kept c l m =
        answered (Err (Unended (length (text_of s) - byte_length (c ∷ l)))) (stopped 1 (length (text_of s) - byte_length (c ∷ l)))
        (answer_open (text_of s) (length t) (open_seam (text_of s) cs good ∙ ap (open_at (length (text_of s))) m))
        (from_source s (length t) (source_open s h e c l m))
        refl refl refl

    fit_kept : (tokenise cs).1 ≡ [] → Tokenises s t (number a) (value a) t'
    unfolding told total stopped ps cs
    fit_kept m = by (ltb (length t) (3 * length ps)) refl
      where
        all : tokenised s (length t) ≡ told (length t) total (cut_into ps)
        all = from_source s (length t) (source_cut s h e m)

        none : open_from (text_of s) 0 ≡ None
        none = open_seam (text_of s) cs good ∙ ap (open_at (length (text_of s))) m

        by : (b : Bool) → ltb (length t) (3 * length ps) ≡ b → Tokenises s t (number a) (value a) t'
        by true k =
            answered (Err (Small (length ps))) (stopped 13 (length ps))
            (answer_small (text_of s) (length t) none (ap length (placed_seam (text_of s) cs good)) (ltb-true _ _ k))
            (all ∙ simp k) refl refl refl
        by false k =
            answered (Ok (length ps)) (record { number = 0; value = length ps; table = words_of ps })
            (answer_done (text_of s) (length t) none (ap length (placed_seam (text_of s) cs good)) (ltb-false _ _ k))
            (all ∙ simp k) refl refl
            (ap (λ (l : List Placed). over (words_of l) t) (placed_seam (text_of s) cs good))

    whole_kept : Tokenises s t (number a) (value a) t'
    whole_kept = by (tokenise cs).1 refl
      where
        by : (l : List ℕ) → (tokenise cs).1 ≡ l → Tokenises s t (number a) (value a) t'
        by [] m = fit_kept m
        by (c ∷ l) m = open_kept c l m

  pub text_kept : left_at (length (text_of s)) (decode (text_of s)).1 ≡ None → (a : Result ℕ NotTokenized) → a ≡ answer (text_of s) (length t)
      → (t' : List ℕ) → t' ≡ table_after (text_of s) t → Tokenises s t (number a) (value a) t'
  text_kept e a p t' r = by (decode (text_of s)).1 refl e
    where
      by : (l : List ℕ) → (decode (text_of s)).1 ≡ l → left_at (length (text_of s)) l ≡ None → Tokenises s t (number a) (value a) t'
      by [] k q = whole_kept k a p t' r
      by (b ∷ l) k q = absurd (let z : ◌≡◌ {A = ℕ} 0 1 = cc in omega arith)
