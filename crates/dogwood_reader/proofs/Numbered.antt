-- THE LAW OVER n: the n-th reading of a reader made from a source is `reading source n`.
use Prim.Native.Nat.{ℕ, zero, suc, ◌+◌}
use mathlib.Core.Path.{◌≡◌, refl, sym, ap, ◌∙◌}
use mathlib.Core.List.{List}
use native.Mathlib.Omega.{arith}
use native.Mathlib.Nat.{add-zero, zero-add}
use Rattle.dogwood_rules.specs.Readings.{reading, refused}
use Rattle.dogwood_rules.specs.Readings as R
use Rattle.dogwood_reader.specs.declared.Reading.{Reading}
use Rattle.dogwood_reader.specs.Standing.{told, state_of, standing, moved, onwards}
use Rattle.dogwood_reader.proofs.Places.{Seen, seen_long, seen_bad, seen_walked, seen, walk-moved, walk-told}

-- one move on
standing-moved : (s : List ℕ) (n : ℕ) → moved s (standing s n) ≡ standing s (suc n)
unfolding standing moved
standing-moved s n = by (seen s)
  where
    by : Seen s → moved s (state_of (reading s n)) ≡ state_of (reading s (suc n))
    by (seen_long r) = ap (λ (x : R.Reading). moved s (state_of x)) (r n) ∙ ap state_of (sym (r (suc n)))
    by (seen_bad p r) = ap (λ (x : R.Reading). moved s (state_of x)) (r n) ∙ ap state_of (sym (r (suc n)))
    by (seen_walked w) = ap (λ (x : R.Reading). moved s (state_of x)) (w.reads n) ∙ walk-moved s w.walk n ∙ ap state_of (sym (w.reads (suc n)))

standing-told : (s : List ℕ) (n : ℕ) → told (standing s n) ≡ reading s n
unfolding standing
standing-told s n = by (seen s)
  where
    by : Seen s → told (state_of (reading s n)) ≡ reading s n
    by (seen_long r) = ap (λ (x : R.Reading). told (state_of x)) (r n) ∙ sym (r n)
    by (seen_bad p r) = ap (λ (x : R.Reading). told (state_of x)) (r n) ∙ sym (r n)
    by (seen_walked w) = ap (λ (x : R.Reading). told (state_of x)) (w.reads n) ∙ walk-told s w.walk n ∙ sym (w.reads n)

-- n moves on
pub none_onwards : (s : List ℕ) (x : Reading) → x ≡ onwards s 0 x
unfolding onwards
none_onwards s x = refl

pub one_onwards : (s : List ℕ) (x : Reading) → moved s x ≡ onwards s 1 x
unfolding onwards
one_onwards s x = refl

pub more_onwards : (s : List ℕ) (n : ℕ) (x : Reading) → onwards s n (moved s x) ≡ onwards s (suc n) x
unfolding onwards
more_onwards s n x = refl

-- what is no token stays
pub stays_onwards : (s : List ℕ) (n : ℕ) (x : Reading) → moved s x ≡ x → x ≡ onwards s n x
unfolding onwards
stays_onwards s zero x h = refl
stays_onwards s (suc n) x h = stays_onwards s n x h ∙ ap (onwards s n) (sym h)

onwards-standing : (s : List ℕ) (n m : ℕ) → onwards s n (standing s m) ≡ standing s (m + n)
unfolding onwards
onwards-standing s zero m = ap (standing s) (sym (add-zero m))
onwards-standing s (suc n) m = ap (onwards s n) (standing-moved s m) ∙ onwards-standing s n (suc m) ∙ ap (standing s) (omega arith)

pub nth-reading_is : (s : List ℕ) (n : ℕ) → told (onwards s n (standing s 0)) ≡ reading s n
nth-reading_is s n = ap told (onwards-standing s n 0) ∙ ap (λ (k : ℕ). told (standing s k)) (zero-add n) ∙ standing-told s n
