-- White space at the ends: dropping it from the tokens of a tree, and from what the walk writes, is the same.
use Rattle.std.specs.Prelude.{if◌then◌else◌}
use mathlib.Core.Path.{◌≡◌, refl, sym, ◌∙◌, ap}
use mathlib.Core.Bool.{Bool, true, false}
use mathlib.Core.List.{List, [], ◌∷◌, ◌++◌}
use Prim.Native.Nat.{ℕ, suc}
use native.Mathlib.Omega.{arith}
use Rattle.dogwood_rules.specs.Basic.{drop_front, drop_back, or_drop, trim, run_length}
use Rattle.dogwood_rules.specs.Token.{Token}
use Rattle.dogwood_rules.specs.Tree.{blank, opener, closer, Run, nothing, single, group, tokens_of, trim_left, trim_right, or_nothing, trim_run}
use Rattle.dogwood_rules.proofs.Trim.{front_drops, front_keeps, back_keeps}
use Rattle.dogwood_layout.specs.Shape.{Sound, Shaped, shaped_nothing, shaped_single, shaped_group}
use Rattle.dogwood_layout.proofs.Shapes.{opener_word, closer_word}

-- Lists ------------------------------------------------------------------------------------------------------------

module _ {A : Type 0} (f : A → Bool) where
  -- what ends in something that stays keeps all before it
  pub back_append : (xs : List A) (y : A) (ys : List A) (zs : List A) → drop_back f zs ≡ y ∷ ys → drop_back f (xs ++ zs) ≡ xs ++ (y ∷ ys)
  back_append [] y ys zs e = e
  back_append (x ∷ xs) y ys zs e = ap (or_drop f x) (back_append xs y ys zs e) ∙ go xs
    where
      go : (l : List A) → or_drop f x (l ++ (y ∷ ys)) ≡ x ∷ (l ++ (y ∷ ys))
      go [] = refl
      go (z ∷ l) = refl

  pub run_drops : (x : A) (xs : List A) → f x ≡ true → run_length f (x ∷ xs) ≡ suc (run_length f xs)
  run_drops x xs e = rw (e, run_length) refl

  pub run_keeps : (x : A) (xs : List A) → f x ≡ false → run_length f (x ∷ xs) ≡ 0
  run_keeps x xs e = rw (e, run_length) refl

-- Trees --------------------------------------------------------------------------------------------------------------

pub left_tokens : {r : Run} → Shaped r → tokens_of (trim_left r) ≡ drop_front blank (tokens_of r)
unfolding trim_left tokens_of
left_tokens shaped_nothing = refl
left_tokens (shaped_single {t} {r} o c s h) = go (blank t) refl (left_tokens h)
  where
    go : (b : Bool) → blank t ≡ b → tokens_of (trim_left r) ≡ drop_front blank (tokens_of r) → tokens_of (trim_left (single t r)) ≡ drop_front blank (t ∷ tokens_of r)
    go true e k = rw (e, trim_left) k ∙ sym (front_drops blank t (tokens_of r) e)
    go false e k = rw (e, trim_left) refl ∙ sym (front_keeps blank t (tokens_of r) e)
left_tokens (shaped_group {o} {c} {i} {r} oo so oc cl sc hi h) = sym (front_keeps blank o (tokens_of i ++ (c ∷ tokens_of r)) (opener_word so oo).0)

pub left_shaped : {r : Run} → Shaped r → Shaped (trim_left r)
unfolding trim_left
left_shaped shaped_nothing = shaped_nothing
left_shaped (shaped_single {t} {r} o c s h) = go (blank t) refl (left_shaped h)
  where
    go : (b : Bool) → blank t ≡ b → Shaped (trim_left r) → Shaped (trim_left (single t r))
    go true e k = rw (e, trim_left) k
    go false e k = rw (e, trim_left) (shaped_single o c s h)
left_shaped (shaped_group oo so oc cl sc hi h) = shaped_group oo so oc cl sc hi h

or_tokens : (t : Token) (r : Run) → tokens_of (or_nothing t r) ≡ or_drop blank t (tokens_of r)
unfolding or_nothing tokens_of
or_tokens t nothing = go (blank t)
  where
    go : (b : Bool) → tokens_of (if b then nothing else single t nothing) ≡ (if b then [] else t ∷ [])
    go true = refl
    go false = refl
or_tokens t (single u r) = refl
or_tokens t (group o inside is c r) = refl

pub right_tokens : {r : Run} → Shaped r → tokens_of (trim_right r) ≡ drop_back blank (tokens_of r)
unfolding trim_right tokens_of
right_tokens shaped_nothing = refl
right_tokens (shaped_single {t} {r} o c s h) = or_tokens t (trim_right r) ∙ ap (or_drop blank t) (right_tokens h)
right_tokens (shaped_group {o} {c} {i} {r} oo so oc cl sc hi h) =
    ap (λ (l : List Token). o ∷ (tokens_of i ++ (c ∷ l))) (right_tokens h)
    ∙ sym (back_append blank (o ∷ tokens_of i) c (drop_back blank (tokens_of r)) (c ∷ tokens_of r) (back_keeps blank c (tokens_of r) (closer_word sc cl).0))

or_shaped : (t : Token) {r : Run} → opener t ≡ false → closer t ≡ false → Sound t → Shaped r → Shaped (or_nothing t r)
unfolding or_nothing
or_shaped t o c s shaped_nothing = go (blank t)
  where
    go : (b : Bool) → Shaped (if b then nothing else single t nothing)
    go true = shaped_nothing
    go false = shaped_single o c s shaped_nothing
or_shaped t o c s (shaped_single p q u h) = shaped_single o c s (shaped_single p q u h)
or_shaped t o c s (shaped_group oo so oc cl sc hi h) = shaped_single o c s (shaped_group oo so oc cl sc hi h)

pub right_shaped : {r : Run} → Shaped r → Shaped (trim_right r)
unfolding trim_right
right_shaped shaped_nothing = shaped_nothing
right_shaped (shaped_single {t} o c s h) = or_shaped t o c s (right_shaped h)
right_shaped (shaped_group oo so oc cl sc hi h) = shaped_group oo so oc cl sc hi (right_shaped h)

pub trim_shaped : {r : Run} → Shaped r → Shaped (trim_run r)
unfolding trim_run
trim_shaped h = right_shaped (left_shaped h)

pub trim-tokens : {r : Run} → Shaped r → tokens_of (trim_run r) ≡ trim blank (tokens_of r)
unfolding trim_run
trim-tokens h = right_tokens (left_shaped h) ∙ ap (drop_back blank) (left_tokens h)

-- Lists that are trimmed --------------------------------------------------------------------------------------------

module _ {A : Type 0} (f : A → Bool) where
  front_back : (xs : List A) → drop_front f (drop_back f xs) ≡ drop_back f (drop_front f xs)
  front_back [] = refl
  front_back (x ∷ xs) = go (f x) refl (front_back xs)
    where
      or : (l : List A) → f x ≡ true → drop_front f (or_drop f x l) ≡ drop_front f l
      or [] e = rw e refl
      or (y ∷ ys) e = front_drops f x (y ∷ ys) e

      go : (b : Bool) → f x ≡ b → drop_front f (drop_back f xs) ≡ drop_back f (drop_front f xs) → drop_front f (drop_back f (x ∷ xs)) ≡ drop_back f (drop_front f (x ∷ xs))
      go true e h = or (drop_back f xs) e ∙ h ∙ ap (drop_back f) (sym (front_drops f x xs e))
      go false e h = ap (drop_front f) (back_keeps f x xs e) ∙ front_keeps f x (drop_back f xs) e ∙ sym (back_keeps f x xs e) ∙ ap (drop_back f) (sym (front_keeps f x xs e))

  back_back : (xs : List A) → drop_back f (drop_back f xs) ≡ drop_back f xs
  back_back [] = refl
  back_back (x ∷ xs) = go (drop_back f xs) (back_back xs)
    where
      one : (b : Bool) → f x ≡ b → drop_back f (if b then [] else x ∷ []) ≡ (if b then [] else x ∷ [])
      one true e = refl
      one false e = back_keeps f x [] e

      go : (l : List A) → drop_back f l ≡ l → drop_back f (or_drop f x l) ≡ or_drop f x l
      go [] h = one (f x) refl
      go (y ∷ ys) h = ap (or_drop f x) h

  pub trim_back : (xs : List A) → trim f (drop_back f xs) ≡ trim f xs
  trim_back xs = ap (drop_back f) (front_back xs) ∙ back_back (drop_front f xs)

  pub trim_kept : (xs : List A) → drop_back f (trim f xs) ≡ trim f xs
  trim_kept xs = back_back (drop_front f xs)

  -- what has nothing to drop at its end has nothing to drop there without its first element
  pub back_tail : (x : A) (xs : List A) → drop_back f (x ∷ xs) ≡ x ∷ xs → drop_back f xs ≡ xs
  back_tail x xs e = go (drop_back f xs) e
    where
      none : (b : Bool) → (if b then [] else x ∷ []) ≡ x ∷ xs → [] ≡ xs
      none true q = absurd (let z : ◌≡◌ {A = ℕ} 0 1 = cc in omega arith)
      none false q = cc

      go : (l : List A) → or_drop f x l ≡ x ∷ xs → l ≡ xs
      go [] q = none (f x) q
      go (y ∷ ys) q = cc

  -- what ends in something that stays keeps all before it
  pub back_all : (xs zs l : List A) → drop_back f zs ≡ l → (l ≡ [] → ⊥) → drop_back f (xs ++ zs) ≡ xs ++ l
  back_all xs zs [] e h = absurd (h refl)
  back_all xs zs (y ∷ ys) e h = back_append f xs y ys zs e
