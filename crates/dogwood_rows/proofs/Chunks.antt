-- A list in pieces of one length, as std's `as_chunks` gives it.
use mathlib.Core.Path.{◌≡◌, refl, sym, ◌∙◌, ap}
use mathlib.Core.Bool.{Bool, cond}
use mathlib.Core.List.{List, [], ◌∷◌}
use Prim.Native.Nat.{ℕ, zero, suc, ◌+◌, ◌*◌, ◌/◌, ◌<◌, ◌≤◌}
use native.Mathlib.Omega.{arith}
use lib.ListN.{length, get_or, take, drop, length-drop}
use lib.Seq.{drop-drop}
use Rattle.std.proofs.lemmas.List.{get_or-drop}
use Rattle.std.specs.Simd.{first_chunks}
use Rattle.std.specs.List.{prefix_len}

pub chunk_at : (n m k : ℕ) (xs : List ℕ) → k < m → get_or (first_chunks n m xs) k [] ≡ take n (drop (n * k) xs)
chunk_at n zero k xs h = absurd (omega arith)
chunk_at n (suc m) zero xs h = let e : 0 ≡ n * 0 = omega arith in ap (λ (a : ℕ). take n (drop a xs)) e
chunk_at n (suc m) (suc k) xs h =
    let e : n + n * k ≡ n * suc k = omega arith in
    chunk_at n m k (drop n xs) (omega arith) ∙ ap (take n) (drop-drop (n * k) n xs ∙ ap (λ (a : ℕ). drop a xs) e)

module _ (ws : List ℕ) (k : ℕ) where
  -- a piece of three, and the words behind it
  pub triple : {xs : List (List ℕ)} → xs ≡ first_chunks 3 (length ws / 3) ws → length xs ≡ length ws / 3 → k < length xs
      → drop (3 * k) ws ≡ get_or (get_or xs k []) 0 0 ∷ get_or (get_or xs k []) 1 0 ∷ get_or (get_or xs k []) 2 0 ∷ drop (3 * (k + 1)) ws
  triple {xs} f n h = by (drop (3 * k) ws) refl
    where
      x : List ℕ
      x = get_or xs k []

      by : (l : List ℕ) → drop (3 * k) ws ≡ l → drop (3 * k) ws ≡ get_or x 0 0 ∷ get_or x 1 0 ∷ get_or x 2 0 ∷ drop (3 * (k + 1)) ws
      by [] q = let a = length-drop (3 * k) ws in let b = ap length q in absurd (omega arith)
      by (a ∷ []) q = let a' = length-drop (3 * k) ws in let b = ap length q in absurd (omega arith)
      by (a ∷ b ∷ []) q = let a' = length-drop (3 * k) ws in let b' = ap length q in absurd (omega arith)
      by (a ∷ b ∷ c ∷ t) q =
          let y : x ≡ a ∷ b ∷ c ∷ [] = ap (λ (l : List (List ℕ)). get_or l k []) f ∙ chunk_at 3 (length ws / 3) k ws (omega arith) ∙ ap (take 3) q in
          let j : 3 * k + 3 ≡ 3 * (k + 1) = omega arith in
          let u : t ≡ drop (3 * (k + 1)) ws = sym (ap (drop 3) q) ∙ drop-drop 3 (3 * k) ws ∙ ap (λ (n : ℕ). drop n ws) j in
          q ∙ (λ i. get_or (sym y i) 0 0 ∷ get_or (sym y i) 1 0 ∷ get_or (sym y i) 2 0 ∷ u i)

  -- a piece of two, and the words behind it
  pub pair : {xs : List (List ℕ)} → xs ≡ first_chunks 2 (length ws / 2) ws → length xs ≡ length ws / 2 → k < length xs
      → drop (2 * k) ws ≡ get_or (get_or xs k []) 0 0 ∷ get_or (get_or xs k []) 1 0 ∷ drop (2 * (k + 1)) ws
  pair {xs} f n h = by (drop (2 * k) ws) refl
    where
      x : List ℕ
      x = get_or xs k []

      by : (l : List ℕ) → drop (2 * k) ws ≡ l → drop (2 * k) ws ≡ get_or x 0 0 ∷ get_or x 1 0 ∷ drop (2 * (k + 1)) ws
      by [] q = let a = length-drop (2 * k) ws in let b = ap length q in absurd (omega arith)
      by (a ∷ []) q = let a' = length-drop (2 * k) ws in let b = ap length q in absurd (omega arith)
      by (a ∷ b ∷ t) q =
          let y : x ≡ a ∷ b ∷ [] = ap (λ (l : List (List ℕ)). get_or l k []) f ∙ chunk_at 2 (length ws / 2) k ws (omega arith) ∙ ap (take 2) q in
          let j : 2 * k + 2 ≡ 2 * (k + 1) = omega arith in
          let u : t ≡ drop (2 * (k + 1)) ws = sym (ap (drop 2) q) ∙ drop-drop 2 (2 * k) ws ∙ ap (λ (n : ℕ). drop n ws) j in
          q ∙ (λ i. get_or (sym y i) 0 0 ∷ get_or (sym y i) 1 0 ∷ u i)

  -- the words of a piece of three by their places
  pub triple_words : {xs : List (List ℕ)} → xs ≡ first_chunks 3 (length ws / 3) ws → length xs ≡ length ws / 3 → k < length xs
      → (get_or (get_or xs k []) 0 0 ≡ get_or ws (3 * k) 0) × (get_or (get_or xs k []) 1 0 ≡ get_or ws (3 * k + 1) 0) × (get_or (get_or xs k []) 2 0 ≡ get_or ws (3 * k + 2) 0)
  triple_words {xs} f n h =
      let t = triple f n h in
      let z : 3 * k + 0 ≡ 3 * k = omega arith in
      (sym (ap (λ (l : List ℕ). get_or l 0 0) t) ∙ get_or-drop (3 * k) ws 0 0 ∙ ap (λ (i : ℕ). get_or ws i 0) z, sym (ap (λ (l : List ℕ). get_or l 1 0) t) ∙ get_or-drop (3 * k) ws 1 0, sym (ap (λ (l : List ℕ). get_or l 2 0) t) ∙ get_or-drop (3 * k) ws 2 0)

-- what counts rows up to one that fails a test counts the pieces up to it
module _ (p : List ℕ → Bool) (f : List ℕ → ℕ) (row : (k s e : ℕ) (ws : List ℕ) → f (k ∷ s ∷ e ∷ ws) ≡ cond (p (k ∷ s ∷ e ∷ [])) (1 + f ws) 0) (short : (ws : List ℕ) → length ws < 3 → f ws ≡ 0) where
  pub counts : (m : ℕ) (ws : List ℕ) → m ≡ length ws / 3 → prefix_len p (first_chunks 3 m ws) ≡ f ws
  counts zero ws h = sym (short ws (omega arith))
  counts (suc m) [] h = absurd (omega arith)
  counts (suc m) (k ∷ []) h = absurd (omega arith)
  counts (suc m) (k ∷ s ∷ []) h = absurd (omega arith)
  counts (suc m) (k ∷ s ∷ e ∷ ws) h = ap (λ (n : ℕ). cond (p (k ∷ s ∷ e ∷ [])) (1 + n) 0) (counts m ws (omega arith)) ∙ sym (row k s e ws)
