-- The laws of `bad_from`: what it comes to at a place, by what stands there.
use Prim.Native.Nat.{ℕ, zero, suc, ◌+◌, ◌<◌, ◌≤◌}
use mathlib.Core.Path.{◌≡◌, refl, sym, ap, ◌∙◌}
use mathlib.Core.Bool.{Bool, true, false, cond}
use mathlib.Core.List.{List}
use native.Mathlib.Omega.{arith}
use native.Mathlib.Nat.{add-zero}
use borrow.Author.Tests.{lt-ltb, le-ltb}
use lib.ListN.{length, get_or}
use lib.Dec.{ltb}
use Rattle.utf8.specs.Utf8.{decode_at}
use Rattle.utf8.specs.Walk.{stop, go}
use Rattle.utf8.specs.Valid.{past, bad_step, bad_from}
use Rattle.utf8.proofs.Walk.{Onward, from_go, from_stop, stop≢go}
use Rattle.utf8.proofs.Inside.{inside, plain}
use Rattle.std.specs.Prelude.{None, Option, Some}
use Rattle.utf8.specs.declared.Char.{Char}
use Rattle.utf8.specs.Char.{char_of}

pub bad_onward : (s : List ℕ) → Onward (bad_step s) (length s)
unfolding bad_step
bad_onward s i a j e = by (ltb i (length s)) (decode_at s i) refl e
  where
    by : (t : Bool) (d : Option Char) → decode_at s i ≡ d → cond t (past i d) (stop None) ≡ go a j → (i < j) × (j ≤ length s)
    by true (Some x) h e = let c = x.code in let n = x.len in let q : i + n ≡ j = cc in let p = inside s i h in omega arith
    by true None h e = absurd (stop≢go e)
    by false d h e = absurd (stop≢go e)

pub bad_char : (s : List ℕ) (i : ℕ) {c n : ℕ} → i < length s → decode_at s i ≡ char_of c n → bad_from s i ≡ bad_from s (i + n)
unfolding bad_from bad_step
bad_char s i {c} {n} l e = from_go (bad_step s) (λ u r. r) None (length s) (bad_onward s) i (i + n) (simp (lt-ltb _ _ l, e))

pub bad_fault : (s : List ℕ) (i : ℕ) → i < length s → decode_at s i ≡ None → bad_from s i ≡ Some i
unfolding bad_from bad_step
bad_fault s i l e = from_stop (bad_step s) (λ u r. r) None (length s) i (simp (lt-ltb _ _ l, e))

pub bad_end : (s : List ℕ) (i : ℕ) → length s ≤ i → bad_from s i ≡ None
unfolding bad_from bad_step
bad_end s i l = from_stop (bad_step s) (λ u r. r) None (length s) i (simp (le-ltb _ _ l))

-- a byte below 128 is a character
pub bad_ascii : (s : List ℕ) (i : ℕ) → i < length s → get_or s i 0 < 128 → bad_from s i ≡ bad_from s (i + 1)
bad_ascii s i l h = bad_char s i l (plain s i (get_or s i 0) l refl h)

-- bytes below 128 are characters, one behind the other
pub bad_run : (s : List ℕ) (i n : ℕ) → i + n ≤ length s → ((k : ℕ) → k < n → get_or s (i + k) 0 < 128) → bad_from s (i + n) ≡ bad_from s i
bad_run s i zero l h = ap (bad_from s) (add-zero i)
bad_run s i (suc n) l h =
    let e : i + suc n ≡ i + n + 1 = omega arith in
    ap (bad_from s) e ∙ sym (bad_ascii s (i + n) (omega arith) (h n (omega arith))) ∙ bad_run s i n (omega arith) (λ k m. h k (omega arith))
