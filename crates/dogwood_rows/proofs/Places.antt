-- Rows and places: how many words some rows have, the rows of a part, and a part as it is lent.
use mathlib.Core.Path.{◌≡◌, refl, sym, ◌∙◌, ap}
use mathlib.Core.List.{List, [], ◌∷◌}
use Prim.Native.Nat.{ℕ, zero, suc, ◌+◌, ◌-◌, ◌*◌, ◌<◌, ◌≤◌, ◌%◌}
use native.Mathlib.Omega.{arith}
use lib.ListN.{length, take, drop, length-take, length-drop}
use lib.Seq.{take-nil, drop-nil, drop-drop}
use Rattle.dogwood_rules.specs.Token.{row_size}
use Rattle.dogwood_rows.specs.declared.cursor.Row.{Row}
use Rattle.dogwood_rows.specs.Rows.{rows_of, rows_at, end_of, between}

-- the words of the rows, and what is left over
pub record Counted (ws : List ℕ) : Type 0 where
  pub low : row_size * length (rows_of ws) ≤ length ws
  pub high : length ws < row_size * length (rows_of ws) + row_size

pub counted : (ws : List ℕ) → Counted ws
unfolding rows_of
counted [] = record { low = omega arith; high = omega arith }
counted (k ∷ []) = record { low = omega arith; high = omega arith }
counted (k ∷ s ∷ []) = record { low = omega arith; high = omega arith }
counted (k ∷ s ∷ e ∷ ws) = let h = counted ws in let a = h.low in let b = h.high in record { low = omega arith; high = omega arith }

pub end_of_lem : (ws : List ℕ) → length ws - length ws % row_size ≡ end_of ws
unfolding end_of
end_of_lem ws = let h = counted ws in let a = h.low in let b = h.high in omega arith

-- n rows further
pub rows_drop : (ws : List ℕ) (n : ℕ) → rows_of (drop (row_size * n) ws) ≡ drop n (rows_of ws)
unfolding rows_of
rows_drop ws zero = refl
rows_drop [] (suc n) = ap rows_of (drop-nil (row_size * suc n))
rows_drop (k ∷ []) (suc n) = let q : row_size * suc n ≡ suc (suc (suc (row_size * n))) = omega arith in rw (q, drop-nil) refl
rows_drop (k ∷ s ∷ []) (suc n) = let q : row_size * suc n ≡ suc (suc (suc (row_size * n))) = omega arith in rw (q, drop-nil) refl
rows_drop (k ∷ s ∷ e ∷ ws) (suc n) = let q : row_size * suc n ≡ suc (suc (suc (row_size * n))) = omega arith in rw q (rows_drop ws n)

-- the first n rows
pub rows_take : (ws : List ℕ) (n : ℕ) → rows_of (take (row_size * n) ws) ≡ take n (rows_of ws)
unfolding rows_of
rows_take ws zero = refl
rows_take [] (suc n) = ap rows_of (take-nil (row_size * suc n))
rows_take (k ∷ []) (suc n) = let q : row_size * suc n ≡ suc (suc (suc (row_size * n))) = omega arith in rw (q, take-nil) refl
rows_take (k ∷ s ∷ []) (suc n) = let q : row_size * suc n ≡ suc (suc (suc (row_size * n))) = omega arith in rw (q, take-nil) refl
rows_take (k ∷ s ∷ e ∷ ws) (suc n) =
    let q : row_size * suc n ≡ suc (suc (suc (row_size * n))) = omega arith in
    rw q (ap (λ (l : List Row). record { kind = k; start = s; end = e } ∷ l) (rows_take ws n))

module _ (ws : List ℕ) (i : ℕ) {b : ℕ} (n : ℕ) (e : b ≡ i + row_size * n) where
  pub rows_later : rows_at ws b ≡ drop n (rows_at ws i)
  unfolding rows_at
  rows_later = ap (λ (k : ℕ). rows_of (drop k ws)) e ∙ ap rows_of (sym (drop-drop (row_size * n) i ws)) ∙ rows_drop (drop i ws) n

  pub rows_between : rows_of (between ws i b) ≡ take n (rows_at ws i)
  unfolding rows_at
  rows_between =
      let q : b - i ≡ row_size * n = omega arith in
      ap (λ (k : ℕ). rows_of (take k (drop i ws))) q ∙ rows_take (drop i ws) n

pub length-between : (ws : List ℕ) (i b : ℕ) → b ≤ length ws → length (between ws i b) ≡ b - i
length-between ws i b h = let t = length-take (b - i) (drop i ws) in let d = length-drop i ws in omega arith
