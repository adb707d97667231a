-- The kind of the record at a place, case by case.
use mathlib.Core.Path.{◌≡◌, refl, ◌∙◌, ap}
use mathlib.Core.Bool.{Bool, true, false, ◌&&◌, ◌||◌, and-false}
use mathlib.Core.List.{List}
use Prim.Native.Nat.{ℕ, zero, suc, ◌+◌}
use native.Mathlib.Omega.{arith}
use lib.Dec.{eqb}
use lib.ListN.{get_or}
use borrow.Author.Tests.{eq-eqb, ne_eqb}
use Rattle.dogwood_rules.specs.Outline.{Span, kind_ok, only_part, same_span}
use Rattle.dogwood_words.specs.Records.{spans_at, statement_at}

not_only : (s : Span) (ws : List ℕ) (n k : ℕ) → (n ≡ 1 → ⊥) → only_part s (spans_at ws n k) ≡ false
unfolding only_part spans_at
not_only s ws zero k h = refl
not_only s ws (suc zero) k h = absurd (h refl)
not_only s ws (suc (suc n)) k h = refl

module _ (ws : List ℕ) (i : ℕ) where
  pub kind_policy : get_or ws i 0 ≡ 1 → kind_ok (statement_at ws i) ≡ true
  unfolding kind_ok statement_at
  kind_policy e = simp (eq-eqb (get_or ws i 0) 1 e)

  pub kind_none : (get_or ws i 0 ≡ 1 → ⊥) → (get_or ws i 0 ≡ 0 → ⊥) → kind_ok (statement_at ws i) ≡ false
  unfolding kind_ok statement_at
  kind_none e f = simp (ne_eqb (get_or ws i 0) 1 e, ne_eqb (get_or ws i 0) 0 f)

  pub kind_count : (get_or ws i 0 ≡ 1 → ⊥) → (get_or ws (i + 3) 0 ≡ 1 → ⊥) → kind_ok (statement_at ws i) ≡ false
  unfolding kind_ok statement_at
  kind_count e f =
      let s : Span = record { start = get_or ws (i + 1) 0; stop = get_or ws (i + 2) 0 } in
      ap (λ (x : Bool). x || eqb (get_or ws i 0) 0 && only_part s (spans_at ws (get_or ws (i + 3) 0) (i + 4))) (ne_eqb (get_or ws i 0) 1 e)
      ∙ ap (λ (x : Bool). eqb (get_or ws i 0) 0 && x) (not_only s ws (get_or ws (i + 3) 0) (i + 4) f) ∙ and-false (eqb (get_or ws i 0) 0)

  pub kind_span : get_or ws i 0 ≡ 0 → get_or ws (i + 3) 0 ≡ 1
      → kind_ok (statement_at ws i) ≡ eqb (get_or ws (i + 1) 0) (get_or ws (i + 4) 0) && eqb (get_or ws (i + 2) 0) (get_or ws (i + 5) 0)
  unfolding kind_ok statement_at only_part spans_at same_span
  kind_span e f =
      let s : Span = record { start = get_or ws (i + 1) 0; stop = get_or ws (i + 2) 0 } in
      ap (λ (x : ℕ). eqb x 1 || eqb x 0 && only_part s (spans_at ws (get_or ws (i + 3) 0) (i + 4))) e
      ∙ ap (λ (n : ℕ). only_part s (spans_at ws n (i + 4))) f
      ∙ ap (λ (k : ℕ). eqb (get_or ws (i + 1) 0) (get_or ws (i + 4) 0) && eqb (get_or ws (i + 2) 0) (get_or ws k 0)) (plus i)
    where
      plus : (i : ℕ) → i + 4 + 1 ≡ i + 5
      plus i = omega arith
