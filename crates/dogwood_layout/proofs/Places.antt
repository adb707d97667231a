-- The tokens of a table with their places: where a place cuts the table, it cuts the tokens.
use mathlib.Core.Path.{◌≡◌, refl, ◌∙◌, ap}
use mathlib.Core.Bool.{Bool, true, false}
use mathlib.Core.List.{List, [], ◌∷◌}
use Prim.Native.Nat.{ℕ, suc, ◌+◌, ◌-◌, ◌*◌, ◌<◌, ◌≤◌}
use native.Mathlib.Omega.{arith}
use lib.Dec.{ltb}
use lib.ListN.{length, take, drop, get_or, length-drop, drop_of_length-le}
use borrow.Author.Tests.{lt-ltb, le-ltb}
use Rattle.dogwood_rules.specs.Token.{Token, Placed, tokens as tokens_at}
use Rattle.dogwood_rules.specs.Outline.{up_to, from}
use Rattle.dogwood_layout.specs.View.{token_of, tokens}
use Rattle.dogwood_layout.specs.Ends.{Whole}
use Rattle.dogwood_layout.specs.Places.{entries, before_step, before_len}
use Rattle.dogwood_layout.proofs.Tables.{words_at}

pub entries-tokens : (text ws : List ℕ) → tokens_at (entries text ws) ≡ tokens text ws
unfolding entries tokens tokens_at
entries-tokens text [] = refl
entries-tokens text (k ∷ []) = refl
entries-tokens text (k ∷ s ∷ []) = refl
entries-tokens text (k ∷ s ∷ e ∷ ws) = ap (λ (l : List Token). token_of text (record { kind = k; start = s; end = e }) ∷ l) (entries-tokens text ws)

-- the words before a place are the tokens up to it, and those from there on the tokens from it
pub entries-up_to : (text ws : List ℕ) (n : ℕ) → entries text (take (3 * before_len n ws) ws) ≡ up_to n (entries text ws)
unfolding entries before_len up_to
entries-up_to text [] n = refl
entries-up_to text (k ∷ []) n = refl
entries-up_to text (k ∷ s ∷ []) n = refl
entries-up_to text (k ∷ s ∷ e ∷ ws) n = go (ltb s n) (entries-up_to text ws n)
  where
    go : (b : Bool) → entries text (take (3 * before_len n ws) ws) ≡ up_to n (entries text ws)
        → entries text (take (3 * before_step b (before_len n ws)) (k ∷ s ∷ e ∷ ws)) ≡ elim b [ true ↦ record { token = token_of text (record { kind = k; start = s; end = e }); start = s; stop = e } ∷ up_to n (entries text ws) | false ↦ [] ]
    go true h =
        let q : 3 * suc (before_len n ws) ≡ suc (suc (suc (3 * before_len n ws))) = omega arith in
        ap (λ (m : ℕ). entries text (take m (k ∷ s ∷ e ∷ ws))) q ∙ ap (λ (l : List Placed). record { token = token_of text (record { kind = k; start = s; end = e }); start = s; stop = e } ∷ l) h
    go false h = refl

pub entries_from : (text ws : List ℕ) (n : ℕ) → entries text (drop (3 * before_len n ws) ws) ≡ from n (entries text ws)
unfolding entries before_len from
entries_from text [] n = refl
entries_from text (k ∷ []) n = refl
entries_from text (k ∷ s ∷ []) n = refl
entries_from text (k ∷ s ∷ e ∷ ws) n = go (ltb s n) (entries_from text ws n)
  where
    go : (b : Bool) → entries text (drop (3 * before_len n ws) ws) ≡ from n (entries text ws)
        → entries text (drop (3 * before_step b (before_len n ws)) (k ∷ s ∷ e ∷ ws)) ≡ elim b [ true ↦ from n (entries text ws) | false ↦ entries text (k ∷ s ∷ e ∷ ws) ]
    go true h =
        let q : 3 * suc (before_len n ws) ≡ suc (suc (suc (3 * before_len n ws))) = omega arith in
        ap (λ (m : ℕ). entries text (drop m (k ∷ s ∷ e ∷ ws))) q ∙ h
    go false h = refl

pub before_fits : (n : ℕ) (ws : List ℕ) → 3 * before_len n ws ≤ length ws
unfolding before_len
before_fits n [] = omega arith
before_fits n (k ∷ []) = omega arith
before_fits n (k ∷ s ∷ []) = omega arith
before_fits n (k ∷ s ∷ e ∷ ws) = go (ltb s n) (before_fits n ws)
  where
    go : (b : Bool) → 3 * before_len n ws ≤ length ws → 3 * before_step b (before_len n ws) ≤ suc (suc (suc (length ws)))
    go true h = omega arith
    go false h = omega arith

-- Looking for a place -----------------------------------------------------------------------------------------------

pub record UntilAt (place : ℕ) (ws : List ℕ) (i : ℕ) : Type 0 where
  pub fits : i ≤ length ws
  pub whole : Whole (drop i ws)
  pub left : 3 * before_len place ws ≡ i + 3 * before_len place (drop i ws)

pub until_start : (place : ℕ) (ws : List ℕ) → Whole ws → UntilAt place ws 0
until_start place ws h = record { fits = omega arith; whole = h; left = omega arith }

module _ (place : ℕ) (ws : List ℕ) (i : ℕ) (a : UntilAt place ws i) where
  pub until_there : i < length ws → i + 2 < length ws
  until_there h =
      let w = a.whole.words in
      let l = length-drop i ws in
      omega arith

  before_at : i < length ws → before_len place (drop i ws) ≡ before_step (ltb (get_or ws (i + 1) 0) place) (before_len place (drop (i + 3) ws))
  unfolding before_len
  before_at h = ap (before_len place) (words_at ws i (until_there h))

  pub until_turn : i < length ws → get_or ws (i + 1) 0 < place → UntilAt place ws (i + 3)
  until_turn h e =
      let w = a.whole.words in
      let l = length-drop i ws in
      let m = length-drop (i + 3) ws in
      let t = until_there h in
      let f : before_len place (drop i ws) ≡ suc (before_len place (drop (i + 3) ws)) = before_at h ∙ ap (λ (b : Bool). before_step b (before_len place (drop (i + 3) ws))) (lt-ltb (get_or ws (i + 1) 0) place e) in
      let g = a.left in
      record { fits = omega arith; whole = record { count = a.whole.count - 1; words = omega arith }; left = omega arith }

  pub until_stop : i < length ws → place ≤ get_or ws (i + 1) 0 → i ≡ 3 * before_len place ws
  until_stop h e =
      let f : before_len place (drop i ws) ≡ 0 = before_at h ∙ ap (λ (b : Bool). before_step b (before_len place (drop (i + 3) ws))) (le-ltb (get_or ws (i + 1) 0) place e) in
      let g = a.left in
      omega arith

  pub until_end : length ws ≤ i → i ≡ 3 * before_len place ws
  unfolding before_len
  until_end h =
      let f : before_len place (drop i ws) ≡ 0 = ap (before_len place) (drop_of_length-le ws {i = i} h) in
      let g = a.left in
      omega arith
