-- An entry of a table as a piece of three words, as std's `as_chunks` gives it.
use mathlib.Core.Path.{◌≡◌, refl}
use mathlib.Core.Bool.{Bool, true, false, cond}
use mathlib.Core.List.{List, [], ◌∷◌}
use Prim.Native.Nat.{ℕ, ◌+◌, ◌*◌, ◌/◌, ◌<◌, ◌≤◌}
use native.Mathlib.Omega.{arith}
use lib.Dec.{eqb}
use lib.ListN.{length, get_or}
use Rattle.std.specs.List.{prefix_len}
use Rattle.std.specs.Simd.{first_chunks}
use Rattle.dogwood_rows.proofs.Chunks.{triple_words}
use Rattle.dogwood_layout.specs.declared.Entry.{Entry}
use Rattle.dogwood_layout.specs.View.{entry_at, rows, Holds}
use Rattle.dogwood_layout.specs.Ends.{front_step, front_len}
use Rattle.dogwood_layout.proofs.Tables.{holds_length}

-- the entry of a piece
abbrev pub piece_entry : List ℕ → Entry
piece_entry x = record { kind = get_or x 0 0; start = get_or x 1 0; end = get_or x 2 0 }

module _ (ws : List ℕ) (k : ℕ) where
  pub piece_there : {n : ℕ} → n ≡ length ws / 3 → k < n → 3 * k < length ws
  piece_there n h = omega arith

  pub piece_is : {xs : List (List ℕ)} → xs ≡ first_chunks 3 (length ws / 3) ws → length xs ≡ length ws / 3 → k < length xs → piece_entry (get_or xs k []) ≡ entry_at ws (3 * k)
  piece_is f n h =
      let w = triple_words ws k f n h in
      λ i. record { kind = w.0 i; start = w.1 i; end = w.2 i }

  -- no word is behind the last piece of whole entries
  pub pieces_all : (text : List ℕ) → Holds text ws → {n : ℕ} → n ≡ length ws / 3 → (k < n → ⊥) → length ws ≤ 3 * k
  pieces_all text h n q = let a = holds_length text ws h in omega arith

-- the word behind a piece
pub piece_next : (k : ℕ) → 3 * k + 3 ≡ 3 * (k + 1)
piece_next k = omega arith

-- white space at the front, by entries
pub front_entries : (ws : List ℕ) → prefix_len (λ (e : Entry). eqb e.kind 0) (rows ws) ≡ front_len ws
unfolding rows front_len
front_entries [] = refl
front_entries (k ∷ []) = refl
front_entries (k ∷ s ∷ []) = refl
front_entries (k ∷ s ∷ e ∷ ws) = step (eqb k 0) (front_entries ws)
  where
    step : (b : Bool) {m n : ℕ} → m ≡ n → cond b (1 + m) 0 ≡ front_step b n
    step true q = let p = q in omega arith
    step false q = refl

-- an entry has three words
pub entries_few : (ws : List ℕ) → 3 * length (rows ws) ≤ length ws
unfolding rows
entries_few [] = omega arith
entries_few (k ∷ []) = omega arith
entries_few (k ∷ s ∷ []) = omega arith
entries_few (k ∷ s ∷ e ∷ ws) = let h = entries_few ws in omega arith
