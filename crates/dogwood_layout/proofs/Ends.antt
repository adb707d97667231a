-- White space at the ends of a table: the loops, and the tokens that are left.
use Rattle.std.specs.Prelude.{if◌then◌else◌}
use mathlib.Core.Path.{◌≡◌, refl, sym, ◌∙◌, ap}
use mathlib.Core.Bool.{Bool, true, false}
use mathlib.Core.List.{List, [], ◌∷◌, ◌++◌}
use Prim.Native.Nat.{ℕ, zero, suc, ◌+◌, ◌-◌, ◌*◌, ◌<◌, ◌≤◌}
use native.Mathlib.Omega.{arith}
use lib.Dec.{eqb}
use lib.ListN.{length, take, drop, get_or, length-drop, drop_of_length-le}
use lib.Seq.{take_all, take-append_seam}
use borrow.Author.Tests.{eq-eqb, ne_eqb}
use Rattle.dogwood_rules.specs.Basic.{drop_front, drop_back, or_drop, run_length}
use Rattle.dogwood_rules.specs.Tree.{blank}
use Rattle.dogwood_layout.specs.View.{token_of, tokens, Holds}
use Rattle.dogwood_layout.specs.Ends.{Whole, front_step, front_len, back_step, back_len, trimmed_of}
use Rattle.dogwood_layout.proofs.Tables.{words_at, holds_length, tokens-drop, tokens-take, token-blank}

pub holds_whole : (text ws : List ℕ) → Holds text ws → Whole ws
holds_whole text ws h = record { count = length (tokens text ws); words = holds_length text ws h }

-- At the front -------------------------------------------------------------------------------------------------

pub record LeadAt (ws : List ℕ) (i : ℕ) : Type 0 where
  pub fits : i ≤ length ws
  pub whole : Whole (drop i ws)
  pub left : 3 * front_len ws ≡ i + 3 * front_len (drop i ws)

pub lead_start : (ws : List ℕ) → Whole ws → LeadAt ws 0
lead_start ws h = record { fits = omega arith; whole = h; left = omega arith }

module _ (ws : List ℕ) (i : ℕ) (a : LeadAt ws i) where
  pub lead_there : i < length ws → i + 2 < length ws
  lead_there h =
      let w = a.whole.words in
      let l = length-drop i ws in
      omega arith

  front_at : i < length ws → front_len (drop i ws) ≡ front_step (eqb (get_or ws i 0) 0) (front_len (drop (i + 3) ws))
  unfolding front_len
  front_at h = ap front_len (words_at ws i (lead_there h))

  pub lead_turn : i < length ws → get_or ws i 0 ≡ 0 → LeadAt ws (i + 3)
  lead_turn h e =
      let w = a.whole.words in
      let l = length-drop i ws in
      let m = length-drop (i + 3) ws in
      let t = lead_there h in
      let f : front_len (drop i ws) ≡ suc (front_len (drop (i + 3) ws)) = front_at h ∙ ap (λ (b : Bool). front_step b (front_len (drop (i + 3) ws))) (eq-eqb (get_or ws i 0) 0 e) in
      let g = a.left in
      record { fits = omega arith; whole = record { count = a.whole.count - 1; words = omega arith }; left = omega arith }

  pub lead_stop : i < length ws → (get_or ws i 0 ≡ 0 → ⊥) → i ≡ 3 * front_len ws
  lead_stop h e =
      let f : front_len (drop i ws) ≡ 0 = front_at h ∙ ap (λ (b : Bool). front_step b (front_len (drop (i + 3) ws))) (ne_eqb (get_or ws i 0) 0 e) in
      let g = a.left in
      omega arith

  pub lead_end : length ws ≤ i → i ≡ 3 * front_len ws
  unfolding front_len
  lead_end h =
      let f : front_len (drop i ws) ≡ 0 = ap front_len (drop_of_length-le ws {i = i} h) in
      let g = a.left in
      omega arith

-- At the end ---------------------------------------------------------------------------------------------------

back_drop : (m : ℕ) (ws : List ℕ) → 3 * m + 3 ≤ length ws → eqb (get_or ws (3 * m) 0) 0 ≡ true → back_len (take (3 * m + 3) ws) ≡ back_len (take (3 * m) ws)
unfolding back_len
back_drop m [] h e = absurd (omega arith)
back_drop m (k ∷ []) h e = absurd (omega arith)
back_drop m (k ∷ s ∷ []) h e = absurd (omega arith)
back_drop zero (k ∷ s ∷ x ∷ ws) h e = ap (λ (b : Bool). back_step b 0) e
back_drop (suc m) (k ∷ s ∷ x ∷ ws) h e =
    let p : 3 * suc m ≡ suc (suc (suc (3 * m))) = omega arith in
    let q : 3 * suc m + 3 ≡ suc (suc (suc (3 * m + 3))) = omega arith in
    let f : eqb (get_or ws (3 * m) 0) 0 ≡ true = ap (λ (n : ℕ). eqb (get_or (k ∷ s ∷ x ∷ ws) n 0) 0) (sym p) ∙ e in
    ap (λ (n : ℕ). back_len (take n (k ∷ s ∷ x ∷ ws))) q ∙ ap (back_step (eqb k 0)) (back_drop m ws (omega arith) f) ∙ ap (λ (n : ℕ). back_len (take n (k ∷ s ∷ x ∷ ws))) (sym p)

back_keep : (m : ℕ) (ws : List ℕ) → 3 * m + 3 ≤ length ws → eqb (get_or ws (3 * m) 0) 0 ≡ false → back_len (take (3 * m + 3) ws) ≡ suc m
unfolding back_len
back_keep m [] h e = absurd (omega arith)
back_keep m (k ∷ []) h e = absurd (omega arith)
back_keep m (k ∷ s ∷ []) h e = absurd (omega arith)
back_keep zero (k ∷ s ∷ x ∷ ws) h e = ap (λ (b : Bool). back_step b 0) e
back_keep (suc m) (k ∷ s ∷ x ∷ ws) h e =
    let p : 3 * suc m ≡ suc (suc (suc (3 * m))) = omega arith in
    let q : 3 * suc m + 3 ≡ suc (suc (suc (3 * m + 3))) = omega arith in
    let f : eqb (get_or ws (3 * m) 0) 0 ≡ false = ap (λ (n : ℕ). eqb (get_or (k ∷ s ∷ x ∷ ws) n 0) 0) (sym p) ∙ e in
    ap (λ (n : ℕ). back_len (take n (k ∷ s ∷ x ∷ ws))) q ∙ ap (back_step (eqb k 0)) (back_keep m ws (omega arith) f) ∙ go (eqb k 0)
  where
    go : (b : Bool) → back_step b (suc m) ≡ suc (suc m)
    go true = refl
    go false = refl

pub record BackAt (ws : List ℕ) (n : ℕ) : Type 0 where
  pub fits : n ≤ length ws
  pub count : ℕ
  pub words : n ≡ 3 * count
  pub same : back_len (take n ws) ≡ back_len ws

pub back_start : (ws : List ℕ) → Whole ws → BackAt ws (length ws)
back_start ws h = record { fits = omega arith; count = h.count; words = h.words; same = ap back_len (take_all (length ws) ws (omega arith)) }

module _ (ws : List ℕ) (n : ℕ) (a : BackAt ws n) where
  pub back_there : 0 < n → 3 ≤ n
  back_there h = let w = a.words in omega arith

  last_at : 0 < n → n - 3 ≡ 3 * (a.count - 1)
  last_at h = let w = a.words in omega arith

  last_end : 0 < n → n ≡ 3 * (a.count - 1) + 3
  last_end h = let w = a.words in omega arith

  pub back_turn : 0 < n → get_or ws (n - 3) 0 ≡ 0 → BackAt ws (n - 3)
  back_turn h e =
      let p = last_at h in
      let q = last_end h in
      let f = a.fits in
      let x : eqb (get_or ws (3 * (a.count - 1)) 0) 0 ≡ true = eq-eqb _ 0 (ap (λ (m : ℕ). get_or ws m 0) (sym p) ∙ e) in
      let d : back_len (take (3 * (a.count - 1) + 3) ws) ≡ back_len (take (3 * (a.count - 1)) ws) = back_drop (a.count - 1) ws (omega arith) x in
      record {
        fits = omega arith;
        count = a.count - 1;
        words = p;
        same = ap (λ (m : ℕ). back_len (take m ws)) p ∙ sym d ∙ ap (λ (m : ℕ). back_len (take m ws)) (sym q) ∙ a.same;
      }

  pub back_stop : 0 < n → (get_or ws (n - 3) 0 ≡ 0 → ⊥) → n ≡ 3 * back_len ws
  back_stop h e =
      let p = last_at h in
      let q = last_end h in
      let f = a.fits in
      let x : eqb (get_or ws (3 * (a.count - 1)) 0) 0 ≡ false = ne_eqb _ 0 (λ z. e (ap (λ (m : ℕ). get_or ws m 0) p ∙ z)) in
      let d : back_len (take (3 * (a.count - 1) + 3) ws) ≡ suc (a.count - 1) = back_keep (a.count - 1) ws (omega arith) x in
      let s : back_len ws ≡ suc (a.count - 1) = sym a.same ∙ ap (λ (m : ℕ). back_len (take m ws)) q ∙ d in
      omega arith

  pub back_none : n ≤ 0 → n ≡ 3 * back_len ws
  unfolding back_len
  back_none h =
      let z : n ≡ 0 = omega arith in
      let s : back_len ws ≡ 0 = sym a.same ∙ ap (λ (m : ℕ). back_len (take m ws)) z in
      omega arith

-- The tokens that are left -------------------------------------------------------------------------------------

pub front_run : (text ws : List ℕ) → front_len ws ≡ run_length blank (tokens text ws)
unfolding front_len tokens
front_run text [] = refl
front_run text (k ∷ []) = refl
front_run text (k ∷ s ∷ []) = refl
front_run text (k ∷ s ∷ e ∷ ws) = go (eqb k 0) refl (front_run text ws)
  where
    go : (b : Bool) → eqb k 0 ≡ b → front_len ws ≡ run_length blank (tokens text ws) → front_step (eqb k 0) (front_len ws) ≡ run_length blank (token_of text (record { kind = k; start = s; end = e }) ∷ tokens text ws)
    go true q h = rw (token-blank text (record { kind = k; start = s; end = e }), run_length, q) (ap suc h)
    go false q h = rw (token-blank text (record { kind = k; start = s; end = e }), run_length, q) refl

module _ {A : Type 0} (f : A → Bool) where
  pub drop_run : (xs : List A) → drop (run_length f xs) xs ≡ drop_front f xs
  drop_run [] = refl
  drop_run (x ∷ xs) = go (f x) refl (drop_run xs)
    where
      go : (b : Bool) → f x ≡ b → drop (run_length f xs) xs ≡ drop_front f xs → drop (run_length f (x ∷ xs)) (x ∷ xs) ≡ drop_front f (x ∷ xs)
      go true e h = rw (e, run_length, drop_front) h
      go false e h = rw (e, run_length, drop_front) refl

  or_prefix : (x : A) (xs l bs : List A) → xs ≡ l ++ bs → (cs : List A) × (x ∷ xs ≡ or_drop f x l ++ cs)
  or_prefix x xs [] bs e = go (f x)
    where
      go : (b : Bool) → (cs : List A) × (x ∷ xs ≡ (if b then [] else x ∷ []) ++ cs)
      go true = (x ∷ xs, refl)
      go false = (xs, refl)
  or_prefix x xs (y ∷ l) bs e = (bs, ap (λ (z : List A). x ∷ z) e)

  back_prefix : (xs : List A) → (bs : List A) × (xs ≡ drop_back f xs ++ bs)
  back_prefix [] = ([], refl)
  back_prefix (x ∷ xs) = let h = back_prefix xs in or_prefix x xs (drop_back f xs) h.0 h.1

  pub back_take : (xs : List A) → take (length (drop_back f xs)) xs ≡ drop_back f xs
  back_take xs =
      let h = back_prefix xs in
      ap (take (length (drop_back f xs))) h.1 ∙ take-append_seam (drop_back f xs) h.0

  or_length : (x : A) (l : List A) → length (or_drop f x l) ≡ back_step (f x) (length l)
  or_length x [] = go (f x)
    where
      go : (b : Bool) → length {A = A} (if b then [] else x ∷ []) ≡ back_step b 0
      go true = refl
      go false = refl
  or_length x (y ∷ l) = go (f x)
    where
      go : (b : Bool) → suc (suc (length l)) ≡ back_step b (suc (length l))
      go true = refl
      go false = refl

pub back_length : (text ws : List ℕ) → length (drop_back blank (tokens text ws)) ≡ back_len ws
unfolding back_len tokens
back_length text [] = refl
back_length text (k ∷ []) = refl
back_length text (k ∷ s ∷ []) = refl
back_length text (k ∷ s ∷ e ∷ ws) =
    or_length blank (token_of text (record { kind = k; start = s; end = e })) (drop_back blank (tokens text ws))
    ∙ (λ j. back_step (token-blank text (record { kind = k; start = s; end = e }) j) (back_length text ws j))

pub front_tokens : (text ws : List ℕ) → tokens text (drop (3 * front_len ws) ws) ≡ drop_front blank (tokens text ws)
front_tokens text ws = tokens-drop text ws (front_len ws) ∙ ap (λ (n : ℕ). drop n (tokens text ws)) (front_run text ws) ∙ drop_run blank (tokens text ws)

pub back_tokens : (text ws : List ℕ) → tokens text (take (3 * back_len ws) ws) ≡ drop_back blank (tokens text ws)
back_tokens text ws = tokens-take text ws (back_len ws) ∙ ap (λ (n : ℕ). take n (tokens text ws)) (sym (back_length text ws)) ∙ back_take blank (tokens text ws)

-- Both ends -----------------------------------------------------------------------------------------------------

pub front_fits : (ws : List ℕ) → 3 * front_len ws ≤ length ws
unfolding front_len
front_fits [] = omega arith
front_fits (k ∷ []) = omega arith
front_fits (k ∷ s ∷ []) = omega arith
front_fits (k ∷ s ∷ e ∷ ws) = go (eqb k 0) (front_fits ws)
  where
    go : (b : Bool) → 3 * front_len ws ≤ length ws → 3 * front_step b (front_len ws) ≤ suc (suc (suc (length ws)))
    go true h = omega arith
    go false h = omega arith

pub back_fits : (ws : List ℕ) → 3 * back_len ws ≤ length ws
unfolding back_len
back_fits [] = omega arith
back_fits (k ∷ []) = omega arith
back_fits (k ∷ s ∷ []) = omega arith
back_fits (k ∷ s ∷ e ∷ ws) = go (eqb k 0) (back_len ws) (back_fits ws)
  where
    go : (b : Bool) (n : ℕ) → 3 * n ≤ length ws → 3 * back_step b n ≤ suc (suc (suc (length ws)))
    go true zero h = omega arith
    go true (suc n) h = omega arith
    go false n h = omega arith

pub whole_rest : (ws : List ℕ) (a : ℕ) → a ≡ 3 * front_len ws → Whole ws → Whole (take (length ws - a) (drop a ws))
whole_rest ws a e h =
    let f = front_fits ws in
    let w = h.words in
    let l = length-drop a ws in
    let r = ap length (take_all (length ws - a) (drop a ws) (omega arith)) in
    record { count = h.count - front_len ws; words = omega arith }

pub rest_back : (ws : List ℕ) (a b : ℕ) → a ≡ 3 * front_len ws → b ≡ 3 * back_len (take (length ws - a) (drop a ws)) → record { start = a; end = a + b } ≡ trimmed_of ws
rest_back ws a b e f =
    let q : take (length ws - a) (drop a ws) ≡ drop a ws = take_all (length ws - a) (drop a ws) (simp length-drop (omega arith)) in
    let g : b ≡ 3 * back_len (drop a ws) = f ∙ ap (λ (l : List ℕ). 3 * back_len l) q in
    let h : a + b ≡ 3 * front_len ws + 3 * back_len (drop (3 * front_len ws) ws) = (λ j. e j + g j) ∙ ap (λ (n : ℕ). 3 * front_len ws + 3 * back_len (drop n ws)) e in
    λ j. record { start = e j; end = h j }
