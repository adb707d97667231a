-- What a step of the cursor says of the rows. All that a walk needs; no walk counts words itself.
use Rattle.std.specs.Prelude.{Option, None, Some, if◌then◌else◌}
use mathlib.Core.Path.{◌≡◌, refl, sym, ◌∙◌, ap}
use mathlib.Core.Bool.{Bool, true, false}
use mathlib.Core.List.{List, [], ◌∷◌}
use Prim.Native.Nat.{ℕ, ◌+◌, ◌-◌, ◌<◌, ◌≤◌}
use native.Mathlib.Omega.{arith}
use native.Mathlib.Numerals.{towards_suc}
use lib.Dec.{leb, ltb}
use lib.ListN.{length, get_or, drop, length-drop}
use lib.Seq.{drop-cons}
use borrow.Author.Tests.{leb-true, leb-false, ltb-true, ltb-false, lt-ltb, le-ltb}
use Rattle.dogwood_rules.specs.Token.{row_size}
use Rattle.dogwood_rows.specs.declared.cursor.Row.{Row}
use Rattle.dogwood_rows.specs.Rows.{rows_of, rows_at, step_of, step_at, back_at}

no_rows : (ws : List ℕ) → length ws < row_size → rows_of ws ≡ []
unfolding rows_of
no_rows [] h = refl
no_rows (k ∷ []) h = refl
no_rows (k ∷ s ∷ []) h = refl
no_rows (k ∷ s ∷ e ∷ ws) h = absurd (omega arith)

-- the row that the code makes
abbrev pub entry_at : List ℕ → ℕ → Row
entry_at ws i = record { kind = get_or ws i 0; start = get_or ws (i + 1) 0; end = get_or ws (i + 2) 0 }

module _ (ws : List ℕ) (i : ℕ) where
  one : (k : ℕ) → k < length ws → drop k ws ≡ get_or ws k 0 ∷ drop (k + 1) ws
  one k h = drop-cons ws k 0 h ∙ simp towards_suc

  words : i + row_size ≤ length ws → drop i ws ≡ get_or ws i 0 ∷ get_or ws (i + 1) 0 ∷ get_or ws (i + 2) 0 ∷ drop (i + row_size) ws
  words h =
      one i (omega arith)
      ∙ ap (λ (l : List ℕ). get_or ws i 0 ∷ l) (one (i + 1) (omega arith)
      ∙ ap (λ (l : List ℕ). get_or ws (i + 1) 0 ∷ l) (at 2 (i + 1) (omega arith) ∙ one (i + 2) (omega arith)
      ∙ ap (λ (l : List ℕ). get_or ws (i + 2) 0 ∷ l) (at row_size (i + 2) (omega arith))))
    where
      at : (n k : ℕ) → k + 1 ≡ i + n → drop (k + 1) ws ≡ drop (i + n) ws
      at n k e = ap (λ (m : ℕ). drop m ws) e

  rows_none : length ws < i + row_size → rows_at ws i ≡ []
  unfolding rows_at
  rows_none h = no_rows (drop i ws) (let l = length-drop i ws in omega arith)

  rows_some : i + row_size ≤ length ws → rows_at ws i ≡ entry_at ws i ∷ rows_at ws (i + row_size)
  unfolding rows_of rows_at
  rows_some h = ap rows_of (words h)

  -- what `next` and `back` read
  pub step_none : length ws < i + row_size → step_at ws i ≡ None
  unfolding step_at
  step_none h = ap (step_of (i + row_size)) (rows_none h)

  pub step_row : i + row_size ≤ length ws → step_at ws i ≡ Some (entry_at ws i, i + row_size)
  unfolding step_at
  step_row h = ap (step_of (i + row_size)) (rows_some h)

  pub back_none : i < row_size → back_at ws i ≡ None
  unfolding back_at
  back_none h = simp (lt-ltb i row_size h)

abbrev is_some : Option (Row × ℕ) → ℕ
is_some (Some p) = 1
is_some None = 0

some_none : {p : Row × ℕ} {A : Type 0} → Some p ≡ None → A
some_none q = absurd (let z : ◌≡◌ {A = ℕ} 1 0 = ap is_some q in omega arith)

some_some : {p q : Row × ℕ} → Some p ≡ Some q → p ≡ q
some_some e = cc

-- where the cursor gives a row: the rows there are that row and those behind it, and the cursor goes on inside the table
pub record There (ws : List ℕ) (i : ℕ) (r : Row) (n : ℕ) : Type 0 where
  pub rows : rows_at ws i ≡ r ∷ rows_at ws n
  pub on : n ≡ i + row_size
  pub inside : n ≤ length ws

module _ (ws : List ℕ) (i : ℕ) where
  pub there : {r : Row} {n : ℕ} → step_at ws i ≡ Some (r, n) → There ws i r n
  there {r} {n} q = by (leb (i + row_size) (length ws)) refl
    where
      by : (b : Bool) → leb (i + row_size) (length ws) ≡ b → There ws i r n
      by true p =
          let h = leb-true (i + row_size) (length ws) p in
          let e = some_some (sym (step_row ws i h) ∙ q) in
          let at : i + row_size ≡ n = ap (λ (x : Row × ℕ). x.1) e in
          record {
            rows = rows_some ws i h ∙ (λ j. (e j).0 ∷ rows_at ws (at j));
            on = sym at;
            inside = omega arith;
          }
      by false p = some_none (sym q ∙ step_none ws i (leb-false (i + row_size) (length ws) p))

  pub ended : step_at ws i ≡ None → rows_at ws i ≡ []
  unfolding step_at
  ended = by (rows_at ws i)
    where
      by : (rs : List Row) → step_of (i + row_size) rs ≡ None → rs ≡ []
      by [] q = refl
      by (r ∷ rs) q = some_none q

  pub fewer : {r : Row} {n : ℕ} → There ws i r n → length (rows_at ws n) < length (rows_at ws i)
  fewer t = let l = ap length t.rows in omega arith

-- Backwards ------------------------------------------------------------------------------------------------------------

module _ (ws : List ℕ) (i : ℕ) where
  high : row_size ≤ i → back_at ws i ≡ step_of (i - row_size) (rows_at ws (i - row_size))
  unfolding back_at
  high h = ap (λ (b : Bool). if b then None else step_of (i - row_size) (rows_at ws (i - row_size))) (le-ltb i row_size h)

  -- what `back` makes of a step
  module _ (h : row_size ≤ i) {b : ℕ} (e : b ≡ i - row_size) where
    pub back_ended : None ≡ step_at ws b → None ≡ back_at ws i
    back_ended q = let o = ap (step_at ws) (sym e) ∙ sym q in sym (high h ∙ ap (step_of (i - row_size)) (ended ws (i - row_size) o))

    pub back_row : {r : Row} {n : ℕ} → Some (r, n) ≡ step_at ws b → Some (r, b) ≡ back_at ws i
    back_row {r} q =
        let o = ap (step_at ws) (sym e) ∙ sym q in
        ap (λ (k : ℕ). Some (r, k)) e ∙ sym (high h ∙ ap (step_of (i - row_size)) (there ws (i - row_size) o).rows)

  -- a row before a place is the one that is met on the way to it
  pub before : {r : Row} {n : ℕ} → back_at ws i ≡ Some (r, n) → There ws n r i
  before {r} {n} q = by (ltb i row_size) refl
    where
      tell : row_size ≤ i → (o : Option (Row × ℕ)) → step_at ws (i - row_size) ≡ o → There ws n r i
      tell h None p = some_none (sym q ∙ sym (back_ended h refl (sym p)))
      tell h (Some (r', n')) p =
          let t = there ws (i - row_size) p in
          let e = some_some (back_row h refl (sym p) ∙ q) in
          let at : i - row_size ≡ n = ap (λ (x : Row × ℕ). x.1) e in
          let on = t.on in
          let back : n' ≡ i = omega arith in
          let in' = t.inside in
          record {
            rows = ap (rows_at ws) (sym at) ∙ t.rows ∙ (λ j. (e j).0 ∷ rows_at ws (back j));
            on = omega arith;
            inside = omega arith;
          }

      by : (b : Bool) → ltb i row_size ≡ b → There ws n r i
      by true p = some_none (sym q ∙ back_none ws i (ltb-true i row_size p))
      by false p = tell (ltb-false i row_size p) (step_at ws (i - row_size)) refl
