-- A turn of the loop over parts: each refusal, and the way on.
use Rattle.std.specs.Prelude.{Option, None, Some}
use mathlib.Core.Path.{◌≡◌, refl, sym, ◌∙◌, ap}
use mathlib.Core.Bool.{Bool, true, false, not, ◌&&◌, ◌||◌}
use mathlib.Core.List.{List, [], ◌∷◌}
use mathlib.Core.Option.{Option as Maybe, none, some}
use Prim.Native.Nat.{ℕ, ◌<◌, ◌≤◌}
use lib.ListN.{length, drop}
use borrow.Author.Tests.{lt-ltb, le-ltb}
use Rattle.std.specs.Option.{is_some}
use Rattle.dogwood_rules.specs.Outline.{Span}
use Rattle.dogwood_words.specs.declared.walks.Walked.{Walked}
use Rattle.dogwood_words.specs.Records.{spans_in}
use Rattle.dogwood_words.specs.Search.{found_of, absent}
use Rattle.dogwood_words.specs.Rows.{gap_in, part_in, walked_of}
use Rattle.dogwood_outline.specs.Table.{parts_in}
use Rattle.dogwood_words.proofs.Founds.{none_some, some_same, found_none, found_some}

walked_none : (o : Maybe (Bool × ℕ)) → None ≡ walked_of o → o ≡ none
walked_none none e = refl
walked_none (some p) e = none_some e

walked_some : (o : Maybe (Bool × ℕ)) {r : Walked} → Some r ≡ walked_of o → o ≡ some (r.seen, r.at)
walked_some none e = none_some (sym e)
walked_some (some p) e = let q = some_same (sym e) in (λ i. some ((q i).seen, (q i).at))

-- whether a place was found
pub present : (o : Maybe ℕ) {x : Option ℕ} → x ≡ found_of o → is_some x ≡ not (absent o)
present none e = ap is_some e
present (some n) e = ap is_some e

module _ (s t : List ℕ) (b : ℕ) (w : Bool) (i : ℕ) where
  -- parts whose bounds are these words, from row i on
  abbrev pub parts_left : List ℕ → Bool
  parts_left ws = parts_in s t (spans_in ws) b w i

  -- behind the last part
  module _ (ws : List ℕ) (e : [] ≡ spans_in ws) where
    pub left_unseen : w ≡ false → w ≡ parts_left ws
    unfolding parts_in
    left_unseen h = h ∙ (λ j. sym h j && not (absent (gap_in (length s) b i (drop i t)))) ∙ ap (λ (ss : List Span). parts_in s t ss b w i) e

    pub left_end : w ≡ true → {x : Option ℕ} → x ≡ found_of (gap_in (length s) b i (drop i t)) → is_some x ≡ parts_left ws
    unfolding parts_in
    left_end h g = present (gap_in (length s) b i (drop i t)) g ∙ (λ j. sym h j && not (absent (gap_in (length s) b i (drop i t)))) ∙ ap (λ (ss : List Span). parts_in s t ss b w i) e

  module _ {ws us : List ℕ} {x y : ℕ} (e : ws ≡ x ∷ y ∷ us) where
    step : parts_left ws ≡ parts_in s t (record { start = x; stop = y } ∷ spans_in us) b w i
    unfolding spans_in
    step = ap parts_left e

    pub left_empty : y ≤ x → false ≡ parts_left ws
    unfolding parts_in
    left_empty l = sym (step ∙ simp (le-ltb x y l))

    module _ (l : x < y) where
      pub left_gap : None ≡ found_of (gap_in (length s) x i (drop i t)) → false ≡ parts_left ws
      unfolding parts_in
      left_gap g = sym (step ∙ simp (lt-ltb x y l, found_none (gap_in (length s) x i (drop i t)) g))

      module _ {j : ℕ} (g : Some j ≡ found_of (gap_in (length s) x i (drop i t))) where
        pub left_part : None ≡ walked_of (part_in s y 0 false j (drop j t)) → false ≡ parts_left ws
        unfolding parts_in
        left_part p =
            sym (step ∙ simp (lt-ltb x y l, found_some (gap_in (length s) x i (drop i t)) g, walked_none (part_in s y 0 false j (drop j t)) p))

        pub left_on : {r : Walked} → Some r ≡ walked_of (part_in s y 0 false j (drop j t)) → parts_in s t (spans_in us) b (w || r.seen) r.at ≡ parts_left ws
        unfolding parts_in
        left_on p =
            sym (step ∙ simp (lt-ltb x y l, found_some (gap_in (length s) x i (drop i t)) g, walked_some (part_in s y 0 false j (drop j t)) p))
