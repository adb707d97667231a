-- A turn of the loop over records: each refusal, and the way on.
use Rattle.std.specs.Prelude.{None, Some}
use mathlib.Core.Path.{◌≡◌, refl, sym, ◌∙◌, ap}
use mathlib.Core.Bool.{Bool, true, false, not, ◌&&◌, and-false}
use mathlib.Core.List.{List, [], ◌∷◌}
use mathlib.Core.Option.{none, some}
use Prim.Native.Nat.{ℕ, suc, ◌+◌, ◌*◌, ◌<◌, ◌≤◌}
use native.Mathlib.Omega.{arith}
use lib.Dec.{eqb}
use lib.ListN.{length, get_or, drop}
use borrow.Author.Tests.{ne_eqb}
use Rattle.std.specs.List.{slice_range}
use Rattle.dogwood_rules.specs.Outline.{Span, Statement, statements, kind_ok}
use Rattle.dogwood_words.specs.declared.records.Record.{Record}
use Rattle.dogwood_words.specs.Records.{spans_at, spans_in, statement_at, record_at}
use Rattle.dogwood_words.specs.Search.{found_of, absent}
use Rattle.dogwood_words.specs.Rows.{skip_in, gap_in}
use Rattle.dogwood_outline.specs.Table.{parts_in, statements_in, fits_in}
use Rattle.dogwood_words.proofs.Founds.{found_none, found_some}
use Rattle.dogwood_words.proofs.Words.{records_end, records_stop, records_more, whole, said, unsaid, alone, alone_states, alone_bounds}

-- One statement -------------------------------------------------------------------------------------------------------

module _ (s t : List ℕ) (x : Statement) (xs : List Statement) (row : ℕ) where
  one_kind : kind_ok x ≡ false → statements_in s t (x ∷ xs) row ≡ false
  unfolding statements_in
  one_kind e = simp e

  module _ (k : kind_ok x ≡ true) where
    one_gap : gap_in (length s) x.span.start row (drop row t) ≡ none → statements_in s t (x ∷ xs) row ≡ false
    unfolding statements_in
    one_gap e = simp (k, e)

    module _ {j : ℕ} (g : gap_in (length s) x.span.start row (drop row t) ≡ some j) where
      one_parts : parts_in s t x.parts x.span.stop false j ≡ false → statements_in s t (x ∷ xs) row ≡ false
      unfolding statements_in
      one_parts e = simp (k, g, e)

      one_on : parts_in s t x.parts x.span.stop false j ≡ true → statements_in s t (x ∷ xs) row ≡ statements_in s t xs (skip_in x.span.stop j (drop j t))
      unfolding statements_in
      one_on e = simp (k, g, e)

-- The records from word i on, from a row on ------------------------------------------------------------------------------

abbrev fitting : List ℕ → List ℕ → ℕ → List Statement × List ℕ → Bool
fitting s t row r = eqb (length r.1) 0 && statements_in s t r.0 row

abbrev pub records_left : List ℕ → List ℕ → List ℕ → ℕ → ℕ → Bool
records_left s t ws i row = fitting s t row (statements (drop i ws))

module _ (s t ws : List ℕ) (i row : ℕ) where
  -- behind the last record: no word is left over, and the text's end stands
  pub left_end : length ws ≤ i → not (absent (gap_in (length s) (length s) row (drop row t))) ≡ records_left s t ws i row
  unfolding statements_in
  left_end h = sym (ap (fitting s t row) (records_end ws i h))

  pub left_over : i < length ws → None ≡ record_at ws i → false ≡ records_left s t ws i row
  left_over h e =
      sym (ap (fitting s t row) (records_stop ws i h (unsaid ws i e))
      ∙ ap (λ (b : Bool). b && statements_in s t [] row) (ne_eqb (suc (length (drop (i + 1) ws))) 0 (λ (z : suc (length (drop (i + 1) ws)) ≡ 0). omega arith)))

  module _ {r : Record} (q : Some r ≡ record_at ws i) where
    is : whole ws i ≡ r
    is = sym (said ws i q).is

    abbrev after : List Statement × List ℕ
    after = statements (drop (i + 4 + 2 * get_or ws (i + 3) 0) ws)

    step : {b : Bool} → statements_in s t (statement_at ws i ∷ after.0) row ≡ b → records_left s t ws i row ≡ eqb (length after.1) 0 && b
    step e =
        let d = said ws i q in
        let h : i < length ws = let o = d.room in omega arith in
        ap (fitting s t row) (records_more ws i h (statement_at ws i) (get_or ws (i + 3) 0) d.stated)
        ∙ ap (λ (x : Bool). eqb (length after.1) 0 && x) e

    -- its words, and those of its parts' bounds
    abbrev own : List ℕ
    own = alone ws i q

    abbrev body : List ℕ
    body = slice_range own 4 (length own)

    kind : {b : Bool} → b ≡ kind_ok (statement_at own 0) → kind_ok (statement_at ws i) ≡ b
    kind e = ap kind_ok (sym (alone_states ws i q)) ∙ sym e

    stop : statements_in s t (statement_at ws i ∷ after.0) row ≡ false → false ≡ records_left s t ws i row
    stop e = sym (step e ∙ and-false (eqb (length after.1) 0))

    pub left_kind : false ≡ kind_ok (statement_at own 0) → false ≡ records_left s t ws i row
    left_kind e = stop (one_kind s t (statement_at ws i) after.0 row (kind e))

    module _ (k : true ≡ kind_ok (statement_at own 0)) where
      pub left_gap : None ≡ found_of (gap_in (length s) r.start row (drop row t)) → false ≡ records_left s t ws i row
      unfolding statement_at
      left_gap e =
          stop (one_gap s t (statement_at ws i) after.0 row (kind k)
          (ap (λ (x : Record). gap_in (length s) x.start row (drop row t)) is ∙ found_none (gap_in (length s) r.start row (drop row t)) e))

      module _ {j : ℕ} (f : Some j ≡ found_of (gap_in (length s) r.start row (drop row t))) where
        there : gap_in (length s) (get_or ws (i + 1) 0) row (drop row t) ≡ some j
        there = ap (λ (x : Record). gap_in (length s) x.start row (drop row t)) is ∙ found_some (gap_in (length s) r.start row (drop row t)) f

        parted : {b : Bool} → b ≡ parts_in s t (spans_in body) r.end false j → parts_in s t (spans_at ws (get_or ws (i + 3) 0) (i + 4)) (get_or ws (i + 2) 0) false j ≡ b
        parted e =
            ap (λ (x : Record). parts_in s t (spans_at ws x.parts (i + 4)) x.end false j) is
            ∙ ap (λ (ps : List Span). parts_in s t ps r.end false j) (sym (alone_bounds ws i q)) ∙ sym e

        pub left_parts : false ≡ parts_in s t (spans_in body) r.end false j → false ≡ records_left s t ws i row
        unfolding statement_at
        left_parts e = stop (one_parts s t (statement_at ws i) after.0 row (kind k) there (parted e))

        pub left_on : true ≡ parts_in s t (spans_in body) r.end false j → {m : ℕ} → m ≡ skip_in r.end j (drop j t)
            → records_left s t ws r.next m ≡ records_left s t ws i row
        unfolding statement_at
        left_on e {m} z =
            sym (step (one_on s t (statement_at ws i) after.0 row (kind k) there (parted e))
            ∙ ap (λ (x : Record). records_left s t ws x.next (skip_in x.end j (drop j t))) is
            ∙ ap (records_left s t ws r.next) (sym z))

-- the whole walk is the test of fit
pub left_all : (s t ws : List ℕ) → records_left s t ws 0 0 ≡ fits_in s t ws
unfolding fits_in
left_all s t ws = refl
