-- The laws of the table's words, and of what tokenising a text answers.
use Prim.Native.Nat.{ℕ, suc, ◌+◌, ◌*◌, ◌<◌, ◌≤◌}
use mathlib.Core.Bool.{Bool, true, false, cond}
use lib.Dec.{leb, ltb}
use mathlib.Core.Path.{◌≡◌, refl, ap, ◌∙◌}
use mathlib.Core.List.{List, [], ◌∷◌, ◌++◌}
use native.Mathlib.Omega.{arith}
use lib.ListN.{length, drop}
use lib.Seq.{sets, sets-eq, length-sets}
use native.Mathlib.Nat.{zero-add}
use borrow.Author.Tests.{lt-leb, le-leb, ltb-true, ltb-false}
use Rattle.dogwood_rules.specs.Token.{Placed, words_of}
use Rattle.dogwood_tokens.specs.Cursor.{tokens_at}
use Rattle.dogwood_tokens.specs.Tokens.{open_from}
use Rattle.dogwood_syntax.specs.Table.{short_of}
use Rattle.dogwood_syntax.specs.Answers.{answer, filled, table_after}
use Rattle.dogwood_syntax.specs.declared.tokenizing.NotTokenized.{NotTokenized}
use Rattle.dogwood_syntax.specs.declared.tokenizing.NotTokenized.TheVariants.{Unended, Small}
use Rattle.std.specs.Prelude.{None, Some, Result, Ok, Err}

-- ---- words

-- a record that there was room for, and those behind it
pub put_on : (t t' : List ℕ) (n a b c : ℕ) (ws : List ℕ) → t' ≡ cond (leb (3 * n + 3) (length t)) (sets t (3 * n) (a ∷ b ∷ c ∷ [])) t → 3 * n + 3 ≤ length t
    → sets t' (3 * (n + 1)) ws ≡ sets t (3 * n) (a ∷ b ∷ c ∷ ws)
put_on t t' n a b c ws e h =
    let q : 3 * (n + 1) ≡ suc (suc (suc (3 * n))) = omega arith in
    let r : t' ≡ sets t (3 * n) (a ∷ b ∷ c ∷ []) = e ∙ simp (le-leb (3 * n + 3) (length t) h) in
    (λ i. sets (r i) (q i) ws)

pub put_length : (t t' ws : List ℕ) (k : ℕ) (b : Bool) → t' ≡ cond b (sets t k ws) t → length t' ≡ length t
put_length t t' ws k true e = ap length e ∙ length-sets t k ws
put_length t t' ws k false e = ap length e

pub length_words : (ps : List Placed) → length (words_of ps) ≡ 3 * length ps
unfolding words_of
length_words [] = refl
length_words (p ∷ ps) = let r = length_words ps in omega arith

-- ---- the answer

pub short_some : (records n m : ℕ) → short_of records n ≡ Some m → (records < n) × (n ≡ m)
unfolding short_of
short_some records n m e = by (ltb records n) refl e
  where
    by : (t : Bool) → ltb records n ≡ t → cond t (Some n) None ≡ Some m → (records < n) × (n ≡ m)
    by true h e = (ltb-true records n h, cc)
    by false h e = absurd (let z : ◌≡◌ {A = ℕ} 0 1 = cc in omega arith)

pub short_none : (records n : ℕ) → short_of records n ≡ None → n ≤ records
unfolding short_of
short_none records n e = by (ltb records n) refl e
  where
    by : (t : Bool) → ltb records n ≡ t → cond t (Some n) None ≡ None → n ≤ records
    by true h e = absurd (let z : ◌≡◌ {A = ℕ} 0 1 = cc in omega arith)
    by false h e = ltb-false records n h

module _ (s : List ℕ) (l : ℕ) where
  pub answer_open : {i : ℕ} → open_from s 0 ≡ Some i → answer s l ≡ Err (Unended i)
  unfolding answer
  answer_open e = simp e

  pub answer_small : {n : ℕ} → open_from s 0 ≡ None → length (tokens_at s 0) ≡ n → l < 3 * n → answer s l ≡ Err (Small n)
  unfolding answer
  answer_small e f g = simp (e, f, lt-leb _ _ g)

  pub answer_done : {n : ℕ} → open_from s 0 ≡ None → length (tokens_at s 0) ≡ n → 3 * n ≤ l → answer s l ≡ Ok n
  unfolding answer
  answer_done e f g = simp (e, f, le-leb _ _ g)

pub table_of : (s t : List ℕ) {a : Result ℕ NotTokenized} → answer s (length t) ≡ a → table_after s t ≡ filled a (words_of (tokens_at s 0)) t
unfolding table_after
table_of s t e = ap (λ x. filled x (words_of (tokens_at s 0)) t) e

pub sets_front : (ws t : List ℕ) → length ws ≤ length t → sets t 0 ws ≡ ws ++ drop (length ws) t
sets_front ws t h = sets-eq ws t 0 (rw zero-add h) ∙ simp zero-add
