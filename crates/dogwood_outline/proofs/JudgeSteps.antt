-- What is judged by a table, case by case.
use Rattle.std.specs.Prelude.{None, Some, if◌then◌else◌}
use mathlib.Core.Path.{◌≡◌, refl, sym, ◌∙◌, ap}
use mathlib.Core.Bool.{Bool, true, false, ◌&&◌}
use mathlib.Core.List.{List}
use mathlib.Core.Option.{Option as Maybe, none, some}
use Prim.Native.Nat.{ℕ}
use lib.Dec.{eqb}
use lib.ListN.{length}
use Rattle.dogwood_rules.specs.Outline.{statements}
use Rattle.dogwood_outline.specs.Judges.{JudgesIn}
use Rattle.dogwood_words.specs.Search.{found_of, absent}
use Rattle.dogwood_outline.specs.Table.{fits_in, judged_in}
use Rattle.dogwood_searches.specs.Searches.{comment_before, deep_in, first_comment_in}
use Rattle.dogwood_outline.specs.Verdicts.{nested}
use Rattle.dogwood_words.proofs.Founds.{found_none, found_some}

module _ (text table ws : List ℕ) where
  abbrev found : Maybe ℕ
  found = first_comment_in table (statements ws).0 0

  abbrev nothing : Bool
  nothing = eqb (length ws) 0 && absent (comment_before (length text) table)

  abbrev row : Bool → Maybe ℕ → Bool → Maybe ℕ → ℕ × ℕ
  row b first n deep = if b then elim first [ some p ↦ (2, p) | none ↦ if n then (3, 0) else nested deep ] else (4, 0)

  judges : {b n : Bool} {first deep : Maybe ℕ} {r : ℕ × ℕ} → fits_in text table ws ≡ b → found ≡ first → nothing ≡ n → deep_in text 0 table ≡ deep → row b first n deep ≡ r
      → JudgesIn text table ws r.0 r.1
  unfolding judged_in
  judges e f g h q =
      let w = (λ i. row (e i) (f i) (g i) (h i)) ∙ q in
      record { numbered = sym (ap (λ (x : ℕ × ℕ). x.0) w); located = sym (ap (λ (x : ℕ × ℕ). x.1) w) }

  pub judged_misfit : fits_in text table ws ≡ false → JudgesIn text table ws 4 0
  judged_misfit e = judges e refl refl refl refl

  module _ (fit : fits_in text table ws ≡ true) where
    pub judged_remarked : {n : ℕ} → Some n ≡ found_of found → JudgesIn text table ws 2 n
    judged_remarked c = judges fit (found_some found c) refl refl refl

    module _ (c : None ≡ found_of found) where
      pub judged-empty : nothing ≡ true → JudgesIn text table ws 3 0
      judged-empty e = judges fit (found_none found c) e refl refl

      module _ (e : nothing ≡ false) where
        pub judged-deep : {n : ℕ} → Some n ≡ found_of (deep_in text 0 table) → JudgesIn text table ws 5 n
        unfolding nested
        judged-deep d = judges fit (found_none found c) e (found_some (deep_in text 0 table) d) refl

        pub judged_fine : None ≡ found_of (deep_in text 0 table) → JudgesIn text table ws 0 0
        unfolding nested
        judged_fine d = judges fit (found_none found c) e (found_none (deep_in text 0 table) d) refl
