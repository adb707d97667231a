-- A table's words, row by row.
use Rattle.std.specs.Prelude.{Option, None, Some}
use mathlib.Core.Path.{◌≡◌, refl, sym, ◌∙◌, ap}
use mathlib.Core.List.{List, [], ◌∷◌}
use Prim.Native.Nat.{ℕ, ◌+◌, ◌<◌, ◌≤◌}
use native.Mathlib.Omega.{arith}
use lib.ListN.{length, drop, length-drop}
use lib.Seq.{drop-drop}
use borrow.Author.Tests.{lt-ltb, le-ltb}
use Rattle.dogwood_rows.specs.declared.cursor.Row.{Row as Entry}
use Rattle.dogwood_rows.specs.Rows.{rows_of, rows_at, step_of, step_at}
use Rattle.dogwood_words.specs.declared.rows.Row.{Row}
use Rattle.dogwood_words.specs.Rows.{row_of, skip_in}
use Rattle.dogwood_words.proofs.Founds.{none_some, some_same}

-- a row of the cursor as `row_at` gives it
abbrev pub row_from : Option (Entry × ℕ) → Option Row
row_from None = None
row_from (Some (r, n)) = Some (record { kind = r.kind; start = r.start; next = n })

-- what `row_at` reads
pub row_at_lem : (ws : List ℕ) (i : ℕ) → row_from (step_at ws i) ≡ row_of i (drop i ws)
unfolding step_at rows_at rows_of
row_at_lem ws i = by (drop i ws)
  where
    by : (ws : List ℕ) → row_from (step_of (i + 3) (rows_of ws)) ≡ row_of i ws
    by [] = refl
    by (k ∷ []) = refl
    by (k ∷ s ∷ []) = refl
    by (k ∷ s ∷ e ∷ ws) = refl

-- what holds of each list that is no whole row
pub few : (P : List ℕ → Type 0) → P [] → ((k : ℕ) → P (k ∷ [])) → ((k s : ℕ) → P (k ∷ s ∷ [])) → (i : ℕ) (ws : List ℕ) → None ≡ row_of i ws → P ws
few P a b c i [] h = a
few P a b c i (k ∷ []) h = b k
few P a b c i (k ∷ s ∷ []) h = c k s
few P a b c i (k ∷ s ∷ e ∷ ws) h = none_some h

-- what stands where it reads a row
pub record Stands (ws : List ℕ) (i : ℕ) (r : Row) : Type 0 where
  pub end : ℕ
  pub words : drop i ws ≡ r.kind ∷ r.start ∷ end ∷ drop r.next ws
  pub on : r.next ≡ i + 3
  pub inside : r.next ≤ length ws

pub row_stands : (ws : List ℕ) (i : ℕ) {r : Row} → Some r ≡ row_of i (drop i ws) → Stands ws i r
row_stands ws i {r} e = by (drop i ws) refl e
  where
    by : (l : List ℕ) → drop i ws ≡ l → Some r ≡ row_of i l → Stands ws i r
    by [] q z = none_some (sym z)
    by (k ∷ []) q z = none_some (sym z)
    by (k ∷ s ∷ []) q z = none_some (sym z)
    by (k ∷ s ∷ x ∷ t) q z =
        let f : record { kind = k; start = s; next = i + 3 } ≡ r = some_same (sym z) in
        let on : i + 3 ≡ r.next = ap (λ (a : Row). a.next) f in
        let u : t ≡ drop (i + 3) ws = sym (ap (drop 3) q) ∙ drop-drop 3 i ws in
        record {
          end = x;
          words = q ∙ (λ j. (f j).kind ∷ (f j).start ∷ x ∷ u j) ∙ (λ j. r.kind ∷ r.start ∷ x ∷ drop (on j) ws);
          on = sym on;
          inside = let l = length-drop i ws in let m = ap length q in omega arith;
        }

-- The tokens before a place ----------------------------------------------------------------------------------------------

module _ (ws : List ℕ) (n i : ℕ) where
  pub skip_done : None ≡ row_of i (drop i ws) → i ≡ skip_in n i (drop i ws)
  unfolding skip_in
  skip_done e = few (λ (l : List ℕ). i ≡ skip_in n i l) refl (λ k. refl) (λ k s. refl) i (drop i ws) e

  module _ {r : Row} (t : Stands ws i r) where
    pub skip_stop : n ≤ r.start → i ≡ skip_in n i (drop i ws)
    unfolding skip_in
    skip_stop h = sym (ap (skip_in n i) t.words ∙ simp (le-ltb r.start n h))

    pub skip_on : r.start < n → skip_in n r.next (drop r.next ws) ≡ skip_in n i (drop i ws)
    unfolding skip_in
    skip_on h = ap (λ (m : ℕ). skip_in n m (drop r.next ws)) t.on ∙ sym (ap (skip_in n i) t.words ∙ simp (lt-ltb r.start n h))
